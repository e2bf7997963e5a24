-- What happens to a device, as the events that it is.
use Rattle.std.specs.Prelude.{◌≡◌, ℕ, Bool, true, false, List, [], ◌∷◌, ◌++◌, length, map, ◌≤◌, Option, Some, None, option_and_then, option_map, Result, Ok, Err, OnOk, IfErr, if◌then◌else◌, ◌+◌, refl}
use Rattle.std.specs.List.{between}
use Rattle.std.proofs.Common.{inl, inr, sym, ap, subst, ◌∙◌}
use Rattle.mc_boot.specs.Restart.{confirmed}
use Rattle.mc_boot.specs.Life.{AreSecondary, Event, Leads, Lives, Moment, boot, confirm, cut, is_boot, mark, resting, starts_image, store}
use Rattle.mc_boot.specs.{Outcome.{Report, outcome_of, after, cut_at, left_by, ops_of}, Plan.{PowerOn, again, power_on, powered, image_ok_write}}
use Rattle.mc_flash.specs.{Flash.{Content, put, with_bytes, apply, erased, in_slot, is_blank}, declared.flash.FlashError.{FlashError}}
use Rattle.mc_flash.specs.declared.flash.FlashError.TheVariants as errors
use Rattle.mc_flash.specs.{Geometry.{Geometry}, Usage.{Does, Seen, done}, facts.Done.{did, does_keep, undefined}, declared.op.Op.TheVariants.{Erase, Program}}
use Rattle.mc_flash.specs.{declared.op.Op.{Op}, declared.op.Slot.TheVariants.{Primary, Secondary}}
use Rattle.mc_trailer.specs.{Trailer.{one_unit, trailer_of, magic_bytes, room}, Tables.{is_set}}
use Rattle.mc_trailer.specs.declared.places.Field.TheVariants as field
use Rattle.mc_trailer.specs.declared.tables.Rules.{Rules}
use Rattle.mc_life.specs.Device.{EndsAs, boot_ops, cut_ops, from, AskFails, RefusesRequest, of_flash, Goes, Standing, moment, Counts, worn, boots, magic_write, marked, with_image_ok, with_magic}
use Rattle.mc_life.specs.{declared.error.EventError.{EventError}, declared.request.Request.{Request}}
use Rattle.mc_life.specs.declared.request.Request.TheVariants as requests
use Rattle.mc_life.proofs.Worn.{worn_both}

-- One life after another.
pub lives_both : (r : Rules) (g : Geometry) (m k n : Moment) (events more : List Event) → Lives r g m events k → Lives r g k more n → Lives r g m (events ++ more) n
lives_both r g m k n [] more first later = subst (λ (x : Moment). Lives r g x more n) first later
lives_both r g m k n (e ∷ events) more (j, leads, rest) later = (j, leads, lives_both r g j k n events more rest later)

-- What stays of a device.
pub record Stays (d e : Standing) (ops : List Op) : Type 0 where
  pub rules : e.rules ≡ d.rules
  pub geometry : e.seen.geometry ≡ d.seen.geometry
  pub wear : e.wear ≡ worn d.wear ops

module _ (d e : Standing) (ops : List Op) (stays : Stays d e ops) where
  one_event : (event : Event) → ((rested : Content) → (later : Content) × Leads d.rules d.seen.geometry (moment d rested) event (moment e later)) → Goes d (event ∷ []) ops e
  one_event event leads = record {
    lives = λ rested. let l = leads rested in (l.0, (moment e l.0, l.1, refl));
    rules = stays.rules;
    geometry = stays.geometry;
    wear = stays.wear;
  }

  rests : (s : Content) (runs : Bool) → e.seen.content ≡ s → e.runs ≡ runs → moment e e.seen.content ≡ resting s runs
  rests s runs a b = ap (λ (x : Content). resting x e.runs) a ∙ ap (resting s) b

  pub stored : (bytes : List ℕ) → d.runs ≡ true → e.runs ≡ d.runs → AreSecondary e.seen.geometry e.seen.content.secondary → e.seen.content ≡ with_bytes d.seen.content Secondary bytes
      → Goes d (store bytes ∷ []) ops e
  stored bytes runs still are left =
      let same : e.seen.content.secondary ≡ bytes = ap (λ (s : Content). s.secondary) left in
      let good : AreSecondary d.seen.geometry bytes = subst (λ g. AreSecondary g bytes) stays.geometry (subst (AreSecondary e.seen.geometry) same are) in
      one_event (store bytes) (λ rested. (e.seen.content, (runs, good, rests (with_bytes d.seen.content Secondary bytes) true left (still ∙ runs))))

  pub confirms : d.runs ≡ true → e.runs ≡ d.runs → e.seen.content ≡ confirmed d.seen.geometry d.seen.content → Goes d (confirm ∷ []) ops e
  confirms runs still left = one_event confirm (λ rested. (e.seen.content, (runs, rests (confirmed d.seen.geometry d.seen.content) true left (still ∙ runs))))

  pub marks : (bytes : List ℕ) → d.runs ≡ true → is_set (trailer_of d.seen.geometry d.seen.content Primary).copy_done ≡ true → length bytes ≤ room field.ImageOk → e.runs ≡ d.runs
      → e.seen.content ≡ marked d.seen.geometry d.seen.content bytes → Goes d (mark bytes ∷ []) ops e
  marks bytes runs finished at_most still left =
      one_event (mark bytes) (λ rested. (e.seen.content, (runs, finished, at_most, rests (marked d.seen.geometry d.seen.content bytes) true left (still ∙ runs))))

  -- ---- power cuts

  pub is_cut : (count : ℕ) → after (powered d.rules d.seen) (count ∷ []) ≡ Some e.seen.content → e.runs ≡ false → Goes d (cut count ∷ []) ops e
  is_cut count left off =
      one_event (cut count) (λ rested. (
        rested,
        (
          e.seen.content,
          one (cut_at (powered d.rules d.seen) count) left,
          ap (λ
              (x : Bool). record { content = e.seen.content; rested = rested; runs = x }) off,
        ),
      ))
    where
      one : (o : Option Content) → option_and_then (λ z. Some z) o ≡ Some e.seen.content → o ≡ Some e.seen.content
      one None is = absurd cc
      one (Some z) is = is

-- Boots that are cut lead where the cuts do.
lives_cut : (r : Rules) (g : Geometry) (cuts : List ℕ) (s t rested : Content) (runs : Bool) → after (power_on r g s) cuts ≡ Some t
    → (still : Bool) × Lives r g (record { content = s; rested = rested; runs = runs }) (map cut cuts) (record { content = t; rested = rested; runs = still })
lives_cut r g [] s t rested runs is = let same : s ≡ t = cc in (runs, ap (λ (x : Content). record { content = x; rested = rested; runs = runs }) (sym same))
lives_cut r g (c ∷ cuts) s t rested runs is = first (cut_at (power_on r g s) c) refl is (λ z on. lives_cut r g cuts z t rested false on)
  where
    first : (o : Option Content) → cut_at (power_on r g s) c ≡ o → option_and_then (λ z. after (power_on r g z) cuts) o ≡ Some t
        → ((z : Content) → after (power_on r g z) cuts ≡ Some t
        → (still : Bool) × Lives r g (record { content = z; rested = rested; runs = false }) (map cut cuts) (record { content = t; rested = rested; runs = still }))
        → (still : Bool) × Lives r g (record { content = s; rested = rested; runs = runs }) (cut c ∷ map cut cuts) (record { content = t; rested = rested; runs = still })
    first None at on beyond = absurd cc
    first (Some z) at on beyond =
        let rest = beyond z on in
        (rest.0, (record { content = z; rested = rested; runs = false }, (z, at, refl), rest.1))

module _ (d e : Standing) (f : Seen) (cuts : List ℕ) (v : Counts) (after_is : after (powered d.rules d.seen) cuts ≡ Some f.content) (layout : f.geometry ≡ d.seen.geometry)
    (wear : v ≡ worn d.wear (cut_ops (powered d.rules d.seen) cuts)) (o : Report) (left : left_by (powered d.rules f) ≡ Some e.seen.content) (outcome : outcome_of (powered d.rules f) ≡ Some o) where
  abbrev x : PowerOn
  x = powered d.rules d.seen

  at_x : {A : Type 0} (P : PowerOn → A) (a : A) → P (powered d.rules f) ≡ a → P (again x f.content) ≡ a
  at_x P a is = ap (λ (g : Geometry). P (power_on d.rules g f.content)) (sym layout) ∙ is

  pub ends_as : EndsAs x cuts o
  ends_as = record { left = f.content; occurs = after_is; outcome_is = at_x outcome_of (Some o) outcome }

  starts_it : (runs : Bool) → runs ≡ is_boot o.result → starts_image (again x f.content) ≡ Some runs
  starts_it runs is = ap (option_map (λ (y : Report). is_boot y.result)) (at_x outcome_of (Some o) outcome) ∙ ap (λ (b : Bool). Some b) (sym is)

  pub boots_to : e.runs ≡ is_boot o.result → e.rules ≡ d.rules → e.seen.geometry ≡ f.geometry → e.wear ≡ worn v (ops_of (powered d.rules f)) → Goes d (boots cuts) (boot_ops x cuts) e
  boots_to runs rules geometry counted = record {
    lives = λ rested.
        let c = lives_cut d.rules d.seen.geometry cuts d.seen.content f.content rested d.runs after_is in
        let between : Moment = record { content = f.content; rested = rested; runs = c.0 } in
        let last : Lives d.rules d.seen.geometry between (boot ∷ []) (moment e e.seen.content) =
        (moment e e.seen.content, (e.seen.content, e.runs, at_x left_by (Some e.seen.content) left, starts_it e.runs runs, refl), refl) in
        (e.seen.content, lives_both d.rules d.seen.geometry (moment d rested) between (moment e e.seen.content) (map cut cuts) (boot ∷ []) c.1 last);
    rules = rules;
    geometry = geometry ∙ layout;
    wear =
        counted ∙ ap (λ (w : Counts). worn w (ops_of (powered d.rules f))) wear ∙ worn_both d.wear (cut_ops x cuts) (ops_of (powered d.rules f))
        ∙ ap (λ (g : Geometry). worn d.wear (cut_ops x cuts ++ ops_of (power_on d.rules g f.content))) layout
        ∙ ap (λ (y : Option Content). worn d.wear (cut_ops x cuts ++ from x ops_of y)) (sym after_is);
  }

-- An erase of the secondary.
pub erased_content : (f h : Seen) (sector : ℕ) → done (Erase Secondary sector) f ≡ Some h
    → (h.geometry ≡ f.geometry) × (h.content ≡ with_bytes f.content Secondary (erased f.geometry.sector sector f.content.secondary))
unfolding apply
erased_content f h sector is =
    let made = did (Erase Secondary sector) f h is in
    let same : Some (with_bytes f.content Secondary (erased f.geometry.sector sector f.content.secondary)) ≡ Some h.content = made.applied in
    (ap (λ (x : Seen). x.geometry) made.is, cc)

-- ---- writes of a request

pub write_left : (g : Geometry) (s t : Content) (at : ℕ) (bytes : List ℕ) → apply g (Program Secondary at bytes) s ≡ Some t → t ≡ with_bytes s Secondary (put s.secondary at bytes)
unfolding apply
write_left g s t at bytes is = go (is_blank (between at (at + length bytes) s.secondary)) is
  where
    go : (b : Bool) → in_slot s Secondary (if b then Some (put s.secondary at bytes) else None) ≡ Some t → t ≡ with_bytes s Secondary (put s.secondary at bytes)
    go true is = cc
    go false is = absurd cc

module _ (f h : Seen) (wrote : Does (magic_write f.geometry) f (Ok tt) h) where
  pub magic_keeps : h.geometry ≡ f.geometry
  magic_keeps = (does_keep (magic_write f.geometry) f h (Ok tt) wrote).geometry

  pub magic_left : h.content ≡ with_bytes f.content Secondary (with_magic f.geometry f.content.secondary)
  magic_left = write_left f.geometry f.content h.content _ magic_bytes (did (magic_write f.geometry) f h wrote.0).applied

  module _ (k : Seen) where
    pub both_left : (result : Result (Unit {0}) FlashError) → Does (image_ok_write h.geometry Secondary) h result k
        → OnOk result (k.content ≡ with_bytes f.content Secondary (with_image_ok f.geometry (with_magic f.geometry f.content.secondary)))
    both_left (Err e) does = tt
    both_left (Ok v) does =
        write_left h.geometry h.content k.content _ (one_unit h.geometry 1) (did (image_ok_write h.geometry Secondary) h k does.0).applied
        ∙ ap (λ (s : Content). with_bytes s Secondary (with_image_ok h.geometry s.secondary)) magic_left
        ∙ ap (λ (g : Geometry). with_bytes f.content Secondary (with_image_ok g (with_magic f.geometry f.content.secondary))) magic_keeps

    pub second_fails : (result : Result (Unit {0}) FlashError) → Does (image_ok_write h.geometry Secondary) h result k → IfErr result (AskFails f.geometry f.content requests.Perm)
    second_fails (Ok v) does = tt
    second_fails (Err errors.Memory) does = tt
    second_fails (Err errors.NotErased) does =
        inr (
          refl,
          ap (λ (g : Geometry). apply g (image_ok_write g Secondary) (with_bytes f.content Secondary (with_magic f.geometry f.content.secondary))) (sym magic_keeps)
              ∙ ap (apply h.geometry (image_ok_write h.geometry Secondary)) (sym magic_left) ∙ undefined (image_ok_write h.geometry Secondary) h does.0,
        )

pub first_fails : (f h : Seen) (request : Request) (e : FlashError) → Does (magic_write f.geometry) f (Err e) h → AskFails f.geometry f.content request e
first_fails f h request errors.Memory does = tt
first_fails f h request errors.NotErased does = inl (undefined (magic_write f.geometry) f does.0)

pub request_fails : (d : Standing) (request : Request) (why : FlashError) (e : EventError) → d.runs ≡ true → e ≡ of_flash why → AskFails d.seen.geometry d.seen.content request why
    → RefusesRequest d request e
request_fails d request errors.NotErased e runs is fails = rw is (runs, fails)
request_fails d request errors.Memory e runs is fails = rw is tt
