-- A life: the life law and that of torn operations.
use Rattle.std.proofs.Common.{ap, arith, inl, inr, subst, sym, ◌∙◌}
use Rattle.std.specs.Prelude.{Bool, List, Option, Some, [], false, if◌then◌else◌, length, refl, replicate, slice_index, true, ℕ, ◌++◌, ◌-◌, ◌<◌, ◌∷◌, ◌≡◌, ◌≤◌, ◌⊎◌}
use Rattle.mc_boot.proofs.{AtRest.{AtRest, few_small, next_is}, FromRest.{AreNamed, EndsRested, Rests, at_rest_uncut, ends_torn, idle_law, rest_law}}
use Rattle.mc_boot.proofs.{Images.{HasImage, ImageLaws, SameImage, has_same, same_image}, Tears.{LosesBy, Losing, Way, cut_loses, cutting, loses_torn, losing_more, losing_torn, tearing}}
use Rattle.mc_boot.specs.Life.{AllStored, AreSecondary, Event, IsDelivered, Leads, LifeLaw, Lives, Moment, NextLaw, OnlyLaw, Predicts, asked_of, boot, can_swap, confirm, confirmed_by, cut, device_state, done_or_fails, is_at_rest, is_on_trial, mark, resting, store}
use Rattle.mc_boot.specs.{Outcome.{left_by}, Plan.{image_size, plan, power_on}, Restart.{confirmed, may_confirm}}
use Rattle.mc_boot.specs.Torn.{AllStoredTorn, IsAllowed, LivesTorn, MayStore, Tearing, TornEvent, TornLaw, TornLifeLaw, TornOnlyLaw, plain, tear}
use Rattle.mc_flash.specs.{Flash.{Content, put, with_bytes}, Geometry.{Geometry, IsLayout}, declared.op.Slot.TheVariants.{Primary, Secondary}}
use Rattle.mc_flash.specs.{facts.Changes.{Changed, changed, changed_sized, same_content, sized_is}, facts.Layouts.{fits_few}}
use Rattle.mc_image.specs.{Image.{IsBytes}, Valid.{Identity, id_of, is_valid}}
use Rattle.mc_trailer.specs.{Tables.{is_good}, Trailer.{one_unit, place, room, trailer_of}, declared.tables.Rules.{Rules}}
use Rattle.mc_trailer.specs.{facts.Fields.{field_kept_beside, reads_image_ok, same_copy_done, written_field}, facts.Places.{field_ends, one_unit_fits}}
use Rattle.mc_trailer.specs.declared.tables.SwapType.TheVariants as kinds
use Rattle.mc_trailer.specs.declared.places.Field.TheVariants as field
use Rattle.mc_trailer.specs.declared.trailer.Flag.TheVariants as flags

-- ---- rest

-- valid bytes begin with their own image
pub its_own : (xs : List ℕ) → IsBytes xs → is_valid xs ≡ true → HasImage xs
its_own xs bytes valid = record { image = xs; bytes = bytes; valid = valid; same = record { valid = valid; size = refl; id = refl; prefix = refl } }

pub rests_delivered : (g : Geometry) (s : Content) → IsLayout g → IsDelivered g s → AtRest g s
rests_delivered g s ok is = record {
  sized = is.sized;
  primary = its_own s.primary is.primary is.valid;
  at_most = few_small g (image_size s.primary) ok (fits_few g (image_size s.primary) ok is.fitting);
  secondary = λ valid. its_own s.secondary is.secondary valid;
  rest = is.rest;
}

-- whatever the image leaves in the secondary
pub rests_stored : (g : Geometry) (s : Content) (bytes : List ℕ) → AtRest g s → AreSecondary g bytes → AtRest g (with_bytes s Secondary bytes)
unfolding trailer_of
rests_stored g s bytes rest are = grind arith

module _ (laws : ImageLaws) (g : Geometry) (ok : IsLayout g) (s : Content) (rest : AtRest g s) where
  -- the image ends before the trailer
  before_trailer : image_size s.primary ≤ place g Primary field.ImageOk
  before_trailer = grind arith

  -- any bytes at image-ok, where the swap is finished
  module _ (new : List ℕ) (short : length new ≤ room field.ImageOk) where
    abbrev pub with_mark : Content
    with_mark = with_bytes s Primary (put s.primary (place g Primary field.ImageOk) new)

    marks : Changed s with_mark Primary (place g Primary field.ImageOk) new
    marks = changed s Primary (place g Primary field.ImageOk) new (omega (arith, field_ends g Primary field.ImageOk ok, short, sized_is g s Primary rest.sized))

    pub kept_mark : SameImage s.primary with_mark.primary
    kept_mark =
        let sized = sized_is g s Primary rest.sized in
        same_image s.primary with_mark.primary laws rest.primary (omega (arith, before_trailer, sized)) (omega (arith, before_trailer, sized, marks.sizes Primary))
        (λ i h. marks.before i (omega (arith, h, before_trailer)))

    pub rests_marked : (trailer_of g s Primary).copy_done ≡ flags.Set → AtRest g with_mark
    rests_marked set =
        let copied : (trailer_of g with_mark Primary).copy_done ≡ flags.Set =
        same_copy_done g s with_mark Primary (field_kept_beside g s with_mark Primary field.ImageOk field.CopyDone new ok marks short (λ same. cc)) ∙ set in
        record {
          sized = changed_sized g s with_mark Primary (place g Primary field.ImageOk) new marks rest.sized;
          primary = has_same s.primary with_mark.primary rest.primary kept_mark;
          at_most = let at_most = rest.at_most in let same = kept_mark.size in omega (arith, at_most, same);
          secondary = rest.secondary;
          rest = rw copied (grind arith);
        }

  -- the bytes that a confirmation writes
  abbrev with_ok : Content
  with_ok = with_bytes s Primary (put s.primary (place g Primary field.ImageOk) (one_unit g 1))

  changes : Changed s with_ok Primary (place g Primary field.ImageOk) (one_unit g 1)
  changes = marks (one_unit g 1) (one_unit_fits g 1 field.ImageOk ok)

  kept : SameImage s.primary with_ok.primary
  kept = kept_mark (one_unit g 1) (one_unit_fits g 1 field.ImageOk ok)

  -- where it writes
  pub record Written (m : Content) : Type 0 where
    pub rested : AtRest g m
    pub image_ok : (trailer_of g m Primary).image_ok ≡ flags.Set
    pub copy_done : (trailer_of g m Primary).copy_done ≡ flags.Set
    pub primary : SameImage s.primary m.primary
    pub before : (i : ℕ) → i < place g Primary field.ImageOk → slice_index m.primary i ≡ slice_index s.primary i
    pub secondary : m.secondary ≡ s.secondary

  written : may_confirm g s ≡ true → Written with_ok
  written may = record {
    rested = rests_marked (one_unit g 1) (one_unit_fits g 1 field.ImageOk ok) copied;
    image_ok = reads_image_ok g with_ok Primary 1 (replicate (g.unit - 1) 255) (written_field g s with_ok Primary field.ImageOk (one_unit g 1) changes);
    copy_done = same_copy_done g s with_ok Primary
        (field_kept_beside g s with_ok Primary field.ImageOk field.CopyDone (one_unit g 1) ok changes (one_unit_fits g 1 field.ImageOk ok) (λ same. cc)) ∙ copied;
    primary = kept;
    before = changes.before;
    secondary = refl;
  }
    where
      copied : (trailer_of g s Primary).copy_done ≡ flags.Set
      copied = grind arith

  pub confirmed_written : may_confirm g s ≡ true → Written (confirmed g s)
  unfolding confirmed
  confirmed_written may = let E : Bool → Type 0 = λ c. Written (if c then with_ok else s) in subst E (sym may) (written may)

  pub rests_confirmed : AtRest g (confirmed g s)
  unfolding confirmed
  rests_confirmed = grind (arith, written)

  -- the images stay
  pub confirmed_primary : id_of (confirmed g s).primary ≡ id_of s.primary
  unfolding confirmed
  confirmed_primary = grind (arith, kept.id)

  pub confirmed_secondary : (confirmed g s).secondary ≡ s.secondary
  unfolding confirmed
  confirmed_secondary = grind arith

-- ---- where images come from

-- the test is passed by both images
pub record Passes (K : Option Identity → Bool) (s : Content) : Type 0 where
  pub primary : K (id_of s.primary) ≡ true
  pub secondary : K (id_of s.secondary) ≡ true

named_passes : (K : Option Identity → Bool) (s z : Content) → Passes K s → AreNamed s.secondary s.primary z ⊎ AreNamed s.primary s.secondary z → Passes K z
named_passes K s z pass (inl is) = record { primary = ap K is.0 ∙ pass.secondary; secondary = ap K is.1 ∙ pass.primary }
named_passes K s z pass (inr is) = record { primary = ap K is.0 ∙ pass.primary; secondary = ap K is.1 ∙ pass.secondary }

-- ---- a life

-- where a swap seems under way nothing is confirmed
busy_stays : (g : Geometry) (s : Content) → is_at_rest (trailer_of g s Primary) ≡ false → confirmed g s ≡ s
unfolding confirmed
busy_stays g s busy = grind arith

-- a running image may store
abbrev May : Way → Rules → Geometry → Content → Type 0
May way r g s = (way ≡ cutting) ⊎ MayStore r g s

-- A life with losses of power. If S holds, the test K is passed by all images.
module _ (laws : ImageLaws) (way : Way) (K : Option Identity → Bool) (S : Type 0) (r : Rules) (g : Geometry) (ok : IsLayout g) where
  -- Where a device has come to: since it rested there were losses of power alone, and none where an image runs.
  record Came (m : Moment) : Type 0 where
    rest : Rests way r g m.rested
    cuts : List ℕ
    come : Losing way (power_on r g m.rested) cuts m.content
    running : m.runs ≡ true → m.content ≡ m.rested
    pass : S → Passes K m.rested

  came_to_rest : (s : Content) (on : Bool) → Rests way r g s → (S → Passes K s) → Came (resting s on)
  came_to_rest s on rest pass = record { rest = rest; cuts = []; come = refl; running = λ _. refl; pass = pass }

  came_delivered : (s : Content) (on : Bool) → IsDelivered g s → (S → Passes K s) → Came (resting s on)
  came_delivered s on is = came_to_rest s on (inl (rests_delivered g s ok is))

  -- the next boot
  came_ends : (m : Moment) → Came m → (z : Content) × EndsRested way r g m.rested m.content z
  came_ends m is = elim is.rest [
    | inl rest ↦ rest_law laws r g ok m.rested rest way m.content is.cuts is.come
    | inr stuck ↦ idle_law way r g m.rested stuck.valid (inr stuck) (record { kind = kinds.None; either = inl refl; planned = stuck.idle }) m.content is.cuts is.come
  ]

  ends_pass : (m : Moment) (z : Content) → Came m → S → left_by (power_on r g m.content) ≡ Some z → Passes K z
  ends_pass m z is sure left =
      let end = came_ends m is in
      rw (← same_content end.0 z (sym end.1.well.end ∙ left)) (named_passes K m.rested end.0 (is.pass sure) end.1.images)

  -- a loss of power
  lost_at : (m : Moment) (c : ℕ) (v : Content) → Came m → LosesBy way (power_on r g m.content) c v → Came (record { content = v; rested = m.rested; runs = false })
  lost_at m c v is loses = record {
    rest = is.rest;
    cuts = is.cuts ++ c ∷ [];
    come = losing_more way (power_on r g m.rested) is.cuts c m.content v is.come loses;
    running = λ e. absurd cc;
    pass = is.pass;
  }

  -- a running image is at rest
  module _ (m : Moment) (is : Came m) (runs_ : m.runs ≡ true) where
    rests_here : Rests way r g m.content
    rests_here = rw (is.running runs_) is.rest

    passes_here : S → Passes K m.content
    passes_here = rw (is.running runs_) is.pass

    free_here : May way r g m.content → AtRest g m.content
    free_here may = let here = rests_here in grind arith

    confirms_here : Came (resting (confirmed g m.content) true)
    confirms_here = elim rests_here [
      | inl rest ↦
          came_to_rest (confirmed g m.content) true (inl (rests_confirmed laws g ok m.content rest)) (λ sure. record {
            primary = ap K (confirmed_primary laws g ok m.content rest) ∙ (passes_here sure).primary;
            secondary = ap (λ xs. K (id_of xs)) (confirmed_secondary laws g ok m.content rest) ∙ (passes_here sure).secondary;
          })
      | inr stuck ↦ rw (busy_stays g m.content stuck.busy) (came_to_rest m.content true (inr stuck) passes_here)
    ]

  -- all but a torn operation
  leads : (m : Moment) (e : Event) (n : Moment) → Came m → (way ≡ cutting) ⊎ IsAllowed r g m.content e → (S → AllStored K (e ∷ [])) → Leads r g m e n → Came n
  leads m (cut c) n is may stored to = rw to.2 (lost_at m c to.0 is (cut_loses way (power_on r g m.content) c to.0 to.1))
  leads m boot n is may stored to =
      let end = came_ends m is in
      let same : end.0 ≡ to.0 = same_content end.0 to.0 (sym end.1.well.end ∙ to.2) in
      rw to.4 (came_to_rest to.0 to.1 (rw (← same) end.1.rests) (λ sure. ends_pass m to.0 is sure to.2))
  leads m (store bytes) n is may stored to =
      rw to.2 (came_to_rest (with_bytes m.content Secondary bytes) true (inl (rests_stored g m.content bytes (free_here m is to.0 may) to.1))
      (λ sure. record { primary = (passes_here m is to.0 sure).primary; secondary = (stored sure).0 }))
  leads m (mark bytes) n is may stored to =
      let rest : AtRest g m.content = free_here m is to.0 (inr (inr (grind arith))) in
      rw to.3 (came_to_rest (with_bytes m.content Primary (put m.content.primary (place g Primary field.ImageOk) bytes)) true (inl (rests_marked laws g ok m.content rest bytes to.2 (grind arith)))
      (λ sure. record { primary = ap K (kept_mark laws g ok m.content rest bytes to.2).id ∙ (passes_here m is to.0 sure).primary; secondary = (passes_here m is to.0 sure).secondary }))
  leads m confirm n is may stored to = rw to.1 (confirms_here m is to.0)

first_of : (K : Option Identity → Bool) (e : Event) (events : List Event) → AllStored K (e ∷ events) → AllStored K (e ∷ []) × AllStored K events
first_of it e events stored = grind arith

-- lists of events
module _ (laws : ImageLaws) (K : Option Identity → Bool) (S : Type 0) (r : Rules) (g : Geometry) (ok : IsLayout g) where
  lives : (events : List Event) (m n : Moment) → Came laws cutting K S r g ok m → (S → AllStored K events) → Lives r g m events n → Came laws cutting K S r g ok n
  lives [] m n is stored same = rw same is
  lives (e ∷ events) m n is stored to =
      lives events to.0 n (leads laws cutting K S r g ok m e to.0 is (inl refl) (λ sure. (first_of K e events (stored sure)).0) to.1) (λ sure. (first_of K e events (stored sure)).1) to.2

  lives_torn : (f : Tearing) (events : List TornEvent) (m n : Moment) → Came laws (tearing f) K S r g ok m → (S → AllStoredTorn K events) → LivesTorn f r g m events n
      → Came laws (tearing f) K S r g ok n
  lives_torn f [] m n is stored same = rw same is
  lives_torn f (tear c left ∷ events) m n is stored to =
      lives_torn f events to.0 n (rw to.1.1 (lost_at laws (tearing f) K S r g ok m c left is (loses_torn f (power_on r g m.content) c left to.1.0))) stored to.2
  lives_torn f (plain e ∷ events) m n is stored to =
      lives_torn f events to.0 n (leads laws (tearing f) K S r g ok m e to.0 is (inr to.1.0) (λ sure. (stored sure).0) to.1.1) (λ sure. (stored sure).1) to.2

module _ (laws : ImageLaws) (r : Rules) (g : Geometry) (ok : IsLayout g) (s : Content) (runs : Bool) (delivered : IsDelivered g s) where
  -- with no test of the images
  abbrev any : Option Identity → Bool
  any id = true

  lived : (events : List Event) (m : Moment) → Lives r g (resting s runs) events m → Came laws cutting any ⊥ r g ok m
  lived events m is = lives laws any ⊥ r g ok events (resting s runs) m (came_delivered laws cutting any ⊥ r g ok s runs delivered (λ none. absurd none)) (λ none. absurd none) is

  pub lived_rest : (events : List Event) (m : Moment) → Lives r g (resting s runs) events m → AtRest g m.rested
  lived_rest events m is = at_rest_uncut r g m.rested (lived events m is).rest

  lived_torn : (f : Tearing) (events : List TornEvent) (m : Moment) → LivesTorn f r g (resting s runs) events m → Came laws (tearing f) any ⊥ r g ok m
  lived_torn f events m is = lives_torn laws any ⊥ r g ok f events (resting s runs) m (came_delivered laws (tearing f) any ⊥ r g ok s runs delivered (λ none. absurd none)) (λ none. absurd none) is

-- ---- what it predicts

module _ (laws : ImageLaws) (r : Rules) (g : Geometry) (ok : IsLayout g) (s : Content) (rest : AtRest g s) where
  -- the trailer of the secondary is another
  other_trailer : trailer_of g (with_ok laws g ok s rest) Secondary ≡ trailer_of g s Secondary
  unfolding trailer_of
  other_trailer = refl

  pub predicts : Predicts r g s
  unfolding confirmed
  predicts = record { next = next_is r g ok s rest; confirms = confirms; marks = λ bytes set short. (kept_mark laws g ok s rest bytes short).id }
    where
      confirms : may_confirm g s ≡ true → device_state r g (if may_confirm g s then with_ok laws g ok s rest else s) ≡ confirmed_by (is_good (trailer_of g s Secondary).magic) (device_state r g s)
      confirms may =
          let m : Content = with_ok laws g ok s rest in
          let there = written laws g ok s rest may in
          let over : is_on_trial (trailer_of g m Primary) ≡ false = rw there.image_ok (grind arith) in
          let next : (plan (power_on r g m)).kind ≡ (if is_good (trailer_of g s Secondary).magic then (plan (power_on r g s)).kind else kinds.None) =
          next_is r g ok m there.rested
          ∙ ap (λ b. done_or_fails (asked_of r.profile b (trailer_of g m Secondary)) (can_swap g s.secondary)) over
          ∙ ap (λ q. done_or_fails (asked_of r.profile false q) (can_swap g s.secondary)) other_trailer
          ∙ (grind arith)
          ∙ ap (λ k. if is_good (trailer_of g s Secondary).magic then k else kinds.None) (sym (next_is r g ok s rest)) in
          grind arith

pub next_law : ImageLaws → (r : Rules) → NextLaw r
next_law laws r g s runs events m ok delivered is = predicts laws r g ok m.rested (lived_rest laws r g ok s runs delivered events m is)

pub life_law : ImageLaws → (r : Rules) → LifeLaw r
life_law laws r g s runs events m ok delivered is =
    let end = came_ends laws cutting (λ id. true) ⊥ r g ok m (lived laws r g ok s runs delivered events m is) in
    (end.0, record { well = end.1.well; leads = (end.0, true, end.1.well.end, (let well = end.1.well in grind arith), refl); leaves = end.1.makes })

pub only_law : ImageLaws → (r : Rules) → OnlyLaw r
only_law laws r K g s z runs events m ok delivered is first second stored left =
    let began = came_delivered laws cutting K (Unit {0}) r g ok s runs delivered (λ _. record { primary = first; secondary = second }) in
    (ends_pass laws cutting K (Unit {0}) r g ok m z (lives laws K (Unit {0}) r g ok events (resting s runs) m began (λ _. stored) is) tt left).primary

-- ---- where operations are torn

pub torn_law : ImageLaws → (f : Tearing) (r : Rules) → TornLaw f r
torn_law laws f r g s runs events m u cuts ok delivered come is =
    let end = rest_law laws r g ok m.rested (lived_rest laws r g ok s runs delivered events m come) (tearing f) u cuts (losing_torn f (power_on r g m.rested) cuts u is) in
    (end.0, ends_torn f r g m.rested u end.0 end.1)

pub torn_life : ImageLaws → (f : Tearing) (r : Rules) → TornLifeLaw f r
torn_life laws f r g s runs events m ok delivered is =
    let end = came_ends laws (tearing f) (λ id. true) ⊥ r g ok m (lived_torn laws r g ok s runs delivered f events m is) in
    (end.0, ends_torn f r g m.rested m.content end.0 end.1)

pub torn_only : ImageLaws → (f : Tearing) (r : Rules) → TornOnlyLaw f r
torn_only laws f r K g s z runs events m ok delivered is first second stored left =
    let began = came_delivered laws (tearing f) K (Unit {0}) r g ok s runs delivered (λ _. record { primary = first; secondary = second }) in
    (ends_pass laws (tearing f) K (Unit {0}) r g ok m z (lives_torn laws K (Unit {0}) r g ok f events (resting s runs) m began (λ _. stored) is) tt left).primary
