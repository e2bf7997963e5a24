-- Power that is lost within an operation of a boot, and what it leaves.
use Rattle.std.proofs.{Common.{ap, arith, inl, inr, subst, sym, ◌∙◌}, Math.Nat.{mul-le-mul_right}, lemmas.List.{length-replicate}}
use Rattle.std.specs.Prelude.{Bool, List, None, Option, Some, [], drop, false, if◌then◌else◌, is_some, length, refl, slice_get, take, true, ℕ, ◌*◌, ◌++◌, ◌+◌, ◌∷◌, ◌≡◌, ◌≤◌}
use Rattle.mc_boot.proofs.{Courses.{drop_at_place, get_beyond, some_trailer}, Meets.{which_slot}}
use Rattle.mc_boot.specs.{Boot.{HasCome, Progress}, Outcome.{at, cut_at, first_then, happening, ops_of}, Plan.{PowerOn, plan}, Torn.{IsKept, IsTorn, roughly}}
use Rattle.mc_boot.specs.facts.Run.{come_at, come_count, come_prefix}
use Rattle.mc_flash.specs.{Flash.{CanTry, Content, IsSized, apply, byte}, Geometry.{Geometry, IsLayout, greatest_sectors, trailer_sectors}, declared.op.Op.{Op}}
use Rattle.mc_flash.specs.{declared.flash.Grain.{Grain}, declared.op.Op.TheVariants.{Copy, Erase, Program}, declared.op.Slot.{Slot}}
use Rattle.mc_flash.specs.Usage.{Checkpoint, Counts as Counts', HasRoom, Loads, Seen, Usage, limits_for, most_operations, most_saved, no_counts}
use Rattle.mc_flash.specs.declared.flash.Grain.TheVariants as grains
use Rattle.mc_life.proofs.{Booting.{comes_next, take_next}, Worn.{worn_both}}
use Rattle.mc_life.specs.Device.{ComesTo, Counts, FailsAt, torn_so, worn}
use Rattle.mc_life.specs.inner.Tearing.{Puts}
use Rattle.mc_tear.proofs.Whole.{whole_is}
use Rattle.mc_tear.specs.{Cases.{is_case, tearing_of, torn}, Laws.{CasesAreTorn}, inner.Room.{Applies, tear_counts}, declared.reading.Reading.{Reading}, declared.torn.Erasing.{Erasing}}
use Rattle.mc_tear.specs.declared.torn.Erasing.TheVariants as erasings

-- ---- what is torn gently is torn roughly, too

kept_gently : (g : Geometry) (op : Op) (s whole : Content) → IsLayout g → IsSized g s → CanTry g op → apply g op s ≡ Some whole → (o : Slot) (i : ℕ)
    → IsKept roughly g op s whole o i → byte whole o i ≡ byte s o i
kept_gently g (Erase slot sector) s whole ok sized can makes o i kept =
    let ch = whole_is g ok s sized (Erase slot sector) whole can makes in
    elim (which_slot o slot) [
      | inl is ↦ subst (λ (x : Slot). byte whole x i ≡ byte s x i) (sym is) (elim (kept is) [
        | inl low ↦ ch.before i low
        | inr high ↦ ch.beyond i (omega (arith, high, length-replicate {A = ℕ} g.sector 255))
      ])
      | inr other ↦ ch.other o i other
    ]
kept_gently g (Program slot at bytes) s whole ok sized can makes o i kept = kept
kept_gently g (Copy from at to offset len) s whole ok sized can makes o i kept = kept

module _ (g : Geometry) (op : Op) (s whole : Content) (ok : IsLayout g) (sized : IsSized g s) (can : CanTry g op) (makes : apply g op s ≡ Some whole) where
  torn_roughly : (e : Erasing) (v : Content) → IsTorn (tearing_of e) g op s v → IsTorn roughly g op s v
  torn_roughly erasings.Rough v t = t
  torn_roughly erasings.Gentle v t = record {
    whole = t.whole;
    makes = t.makes;
    kept = λ o i kept. t.kept o i (kept_gently g op s t.whole ok sized can t.makes o i kept);
    sizes = t.sizes;
    unfinished = t.unfinished;
  }

  -- So is the flash of a case.
  pub so_torn : CasesAreTorn → (r : Reading) (t : Content) → torn_so g op s r ≡ Some t → IsTorn roughly g op s t
  so_torn law r t is = go (is_case erasings.Gentle g op s r) refl (is_case erasings.Rough g op s r) refl is
    where
      of : (e : Erasing) → is_case e g op s r ≡ true → torn e g op s r ≡ t → IsTorn roughly g op s t
      of e case same = subst (IsTorn roughly g op s) same (torn_roughly e (torn e g op s r) (law e g op s whole r ok sized can makes case))

      go : (a : Bool) → is_case erasings.Gentle g op s r ≡ a → (b : Bool) → is_case erasings.Rough g op s r ≡ b
          → (if a then Some (torn erasings.Gentle g op s r) else if b then Some (torn erasings.Rough g op s r) else None) ≡ Some t → IsTorn roughly g op s t
      go true gentle b rough e = of erasings.Gentle gentle cc
      go false gentle true rough e = of erasings.Rough rough cc
      go false gentle false rough e = absurd cc

-- ---- where a boot comes to an operation

module _ (x : PowerOn) (p : Progress) (t : Content) (come : HasCome x p t) (op : Op) (first : slice_get p.to_come 0 ≡ Some op) (count : ℕ) (here : p.count ≡ count) where
  abbrev rest : List Op
  rest = (comes_next x p t come op first).0

  all_are : (o : Option Content) → apply x.geometry op t ≡ o → ops_of x ≡ take p.count (plan x).list ++ first_then op (λ u. happening x.geometry rest u) o
  all_are o is =
      come_prefix x p t come ∙ ap (λ (ops : List Op). take p.count (plan x).list ++ happening x.geometry ops t) (comes_next x p t come op first).1
      ∙ ap (λ (o : Option Content). take p.count (plan x).list ++ first_then op (λ u. happening x.geometry rest u) o) is

  next_at : (u : Content) → apply x.geometry op t ≡ Some u → slice_get (ops_of x) count ≡ Some op
  next_at u is =
      ap (λ (ops : List Op). slice_get ops count) (all_are (Some u) is)
      ∙ get_beyond (take p.count (plan x).list) (op ∷ happening x.geometry rest u) count 0 (omega (arith, here, come_count x p t come))

  pub comes_to : (b : Bool) → b ≡ is_some (apply x.geometry op t) → b ≡ true → ComesTo x count op t
  comes_to b is yes_ = go (apply x.geometry op t) refl (sym is ∙ yes_)
    where
      go : (o : Option Content) → apply x.geometry op t ≡ o → is_some o ≡ true → ComesTo x count op t
      go (Some u) o some = record { next = next_at u o; reached = ap (at x) (sym here) ∙ come_at x p t come }
      go None o some = absurd cc

-- The erases of the operations before it, and its own.
pub worn_to : (x : PowerOn) (count : ℕ) (op : Op) (w v u : Counts) → slice_get (ops_of x) count ≡ Some op → v ≡ worn w (take count (ops_of x)) → u ≡ worn v (op ∷ [])
    → u ≡ worn w (take (count + 1) (ops_of x))
worn_to x count op w v u next so_far noted =
    noted ∙ ap (λ (z : Counts). worn z (op ∷ [])) so_far ∙ worn_both w (take count (ops_of x)) (op ∷ [])
    ∙ ap (worn w) (sym (take_next (ops_of x) (drop (count + 1) (ops_of x)) op count (drop_at_place (ops_of x) count op next)))

-- ---- what is torn so

module _ (g : Geometry) (op : Op) (s : Content) (r : Reading) where
  so_gentle : true ≡ is_case erasings.Gentle g op s r → Some (torn erasings.Gentle g op s r) ≡ torn_so g op s r
  so_gentle is = rw (sym is) refl

  so_rough : false ≡ is_case erasings.Gentle g op s r → true ≡ is_case erasings.Rough g op s r → Some (torn erasings.Rough g op s r) ≡ torn_so g op s r
  so_rough no_ is = rw (sym no_, sym is) refl

  so_none : false ≡ is_case erasings.Gentle g op s r → false ≡ is_case erasings.Rough g op s r → None ≡ torn_so g op s r
  so_none no_ neither = rw (sym no_, sym neither) refl

-- A flash h that contains what f does.
module _ (f h : Seen) (op : Op) (r : Reading) (geometry : h.geometry ≡ f.geometry) (content : h.content ≡ f.content) where
  pub applies_there : Applies op f → Applies op h
  applies_there a = record { can = rw geometry a.can; whole = a.whole; makes = rw (geometry, content) a.makes; sized = rw (geometry, content) a.sized }

  case_there : (e : Erasing) (k : Seen) (b is : Bool) → Puts e op r h k is → is ≡ b → b ≡ is_case e f.geometry op f.content r
  case_there e k b is p same = sym same ∙ (rw (geometry, content) at p.case)

  put_there : (e : Erasing) (k : Seen) (is : Bool) → Puts e op r h k is → is ≡ true → k.content ≡ torn e f.geometry op f.content r
  put_there e k is p same = rw (geometry, content) at (p.put same)

  pub gentle_put : (k : Seen) (is : Bool) → Puts erasings.Gentle op r h k is → is ≡ true → Some k.content ≡ torn_so f.geometry op f.content r
  gentle_put k is p same =
      ap (λ (s : Content). Some s) (put_there erasings.Gentle k is p same) ∙ so_gentle f.geometry op f.content r (case_there erasings.Gentle k true is p same)

-- The reading is no case of a gentle erase.
module _ (f h k : Seen) (op : Op) (r : Reading) (geometry : h.geometry ≡ f.geometry) (content : h.content ≡ f.content) (no_ : Bool) (p : Puts erasings.Gentle op r h k no_)
    (is_no : no_ ≡ false) where
  pub still_geometry : k.geometry ≡ f.geometry
  still_geometry = (p.stays is_no).0.geometry ∙ geometry

  pub still_content : k.content ≡ f.content
  still_content = (p.stays is_no).0.content ∙ content

  none_gently : false ≡ is_case erasings.Gentle f.geometry op f.content r
  none_gently = case_there f h op r geometry content erasings.Gentle k false no_ p is_no

  module _ (m : Seen) (is : Bool) (q : Puts erasings.Rough op r k m is) where
    pub rough_put : is ≡ true → Some m.content ≡ torn_so f.geometry op f.content r
    rough_put same =
        ap (λ (s : Content). Some s) (put_there f k op r still_geometry still_content erasings.Rough m is q same)
        ∙ so_rough f.geometry op f.content r none_gently (case_there f k op r still_geometry still_content erasings.Rough m true is q same)

    pub none_put : is ≡ false → None ≡ torn_so f.geometry op f.content r
    none_put same = so_none f.geometry op f.content r none_gently (case_there f k op r still_geometry still_content erasings.Rough m false is q same)

-- A flash that was just loaded has room for it.
pub room_loaded : (counted : Bool) (g : Geometry) (p q : List ℕ) (grain : Grain) (f : Seen) → IsLayout g → Loads counted g p q grain 32 f → HasRoom (tear_counts g) f
unfolding limits_for
room_loaded counted g p q grain f ok l =
    let none_counted : f.usage.counts ≡ no_counts = ap (λ (u : Usage). u.counts) l.usage_is in
    let entries = ap (λ (c : Counts'). c.entries) none_counted in
    let saved = ap (λ (c : Counts'). c.saved) none_counted in
    let marked = ap (λ (c : List Checkpoint). length c) l.none in
    let room = l.room in
    let one : g.sector ≤ most_saved g =
    let some : 1 ≤ 3 * trailer_sectors g + 3 * greatest_sectors g = omega (arith, some_trailer g ok) in omega (arith, mul-le-mul_right g.sector some) in
    record {
      allows = record { entries = omega (arith, entries, room.entries, two grain); saved = omega (arith, saved, room.saved, one) };
      mark = omega (arith, marked, room.checkpoints);
    }
  where
    two : (grain : Grain) → 2 ≤ most_operations grain g
    two grains.Call = omega arith
    two grains.Unit = omega arith
