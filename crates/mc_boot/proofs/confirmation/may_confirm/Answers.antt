use Rattle.std.proofs.Common.{◌≡◌, ℕ, ◌+◌, ◌^◌, ◌≤◌, Bool, false, ◌&&◌, Fits, w64, refl, sym, ap, subst, arith, ◌∙◌}
use Rattle.std.proofs.lemmas.Bool.{false≢true, and_left, and_right}
use Rattle.mc_flash.specs.{Flash.{size_of}, facts.Layouts.{small_unit}, declared.op.Slot.TheVariants.{Primary}}
use Rattle.mc_trailer.specs.{Trailer.{trailer_of}, Tables.{is_good, is_set}, declared.trailer.Trailer.{Trailer}, declared.trailer.Magic.{Magic}}
use Rattle.mc_trailer.specs.declared.trailer.Magic.TheVariants as magics
use Rattle.mc_trailer.specs.declared.trailer.Flag.{Flag}
use Rattle.mc_trailer.specs.declared.trailer.Flag.TheVariants as flags
use Rattle.mc_boot.proofs.Courses.{slot_small}
use Rattle.mc_boot.proofs.confirmation.may_confirm.Goals as goal
use Rattle.mc_boot.proofs.confirmation.may_confirm.Goals.{in-Good, in_default, then-matches+in-Set, then-matches+in_default-matches, else-matches}

fits : (at e size u : ℕ) → at + e ≡ size → size ≤ 2 ^ 24 → u ≤ 8 → (Fits w64 at) × (Fits w64 u) × (Fits w64 (at + u)) × (at ≤ at + u)
fits at e size u inside small short = (omega arith, omega arith, omega arith, omega arith)

other_magic : (m : Magic) → (m ≡ magics.Good → ⊥) → is_good m ≡ false
other_magic magics.Good other = absurd (other refl)
other_magic m other = refl

other_flag : (f : Flag) → (f ≡ flags.Set → ⊥) → is_set f ≡ false
other_flag flags.Set other = absurd (other refl)
other_flag f other = refl

not_good : (r t : Trailer) (b c : Bool) → r ≡ t → (r.magic ≡ magics.Good → ⊥) → (is_good t.magic && b && c) ≡ false
not_good r t b c is other = and_left _ c (and_left _ b (other_magic t.magic (subst (λ (x : Trailer). x.magic ≡ magics.Good → ⊥) is other)))

not_set : (r t : Trailer) (b c : Bool) → r ≡ t → (r.copy_done ≡ flags.Set → ⊥) → (b && is_set t.copy_done && c) ≡ false
not_set r t b c is other = and_left _ c (and_right b _ (other_flag t.copy_done (subst (λ (x : Trailer). x.copy_done ≡ flags.Set → ⊥) is other)))

pub overflow_cast-at : goal.overflow_cast-at
overflow_cast-at g c =
    (fits c.place-at.result 24 (size_of c.layout.result.now Primary) 0 c.place-at.ensures.inside (slot_small c.layout.result.now Primary c.place-at.ensures.valid) (omega arith)).0

pub overflow_cast-unit : goal.overflow_cast-unit
overflow_cast-unit g c = (fits 0 0 0 c.unit-unit.result refl (omega arith) (rw c.unit-unit.ensures.value (small_unit c.layout-2.result.now c.unit-unit.ensures.valid).1)).1

pub overflow_add-at : goal.overflow_add-at
overflow_add-at g c =
    (fits c.place-at.result 24 (size_of c.layout.result.now Primary) c.unit-unit.result c.place-at.ensures.inside (slot_small c.layout.result.now Primary c.place-at.ensures.valid)
    (rw c.unit-unit.ensures.value (small_unit c.layout-2.result.now c.unit-unit.ensures.valid).1)).2

pub slice_bounds-blank-count : goal.slice_bounds-blank-count
slice_bounds-blank-count g c =
    (fits c.place-at.result 24 (size_of c.layout.result.now Primary) c.unit-unit.result c.place-at.ensures.inside (slot_small c.layout.result.now Primary c.place-at.ensures.valid)
    (rw c.unit-unit.ensures.value (small_unit c.layout-2.result.now c.unit-unit.ensures.valid).1)).3

pub returns-then-matches-2-clause-valid : goal.returns-then-matches-2-clause-valid
returns-then-matches-2-clause-valid g c = rw c.layout.ensures at c.place-at.ensures.valid

pub returns-else-matches-2-clause-valid : goal.returns-else-matches-2-clause-valid
returns-else-matches-2-clause-valid g c = rw c.layout.ensures at c.place-at.ensures.valid

pub returns-then-matches-2-clause-may : goal.returns-then-matches-2-clause-may
returns-then-matches-2-clause-may g c =
    let seen = g.F.Flash.seen c.args.flash.now in
    let read = trailer_of seen.geometry seen.content Primary in
    elim c.if-matches.branch [
      | then-matches+in-Set w ↦ elim c.match-matches.branch [
        | in-Good v ↦
            (let good : read.magic ≡ magics.Good = ap (λ (t : Trailer). t.magic) (sym c.read-primary.ensures) ∙ v.in-Good.is in
            let set : read.copy_done ≡ flags.Set = ap (λ (t : Trailer). t.copy_done) (sym c.read-primary.ensures) ∙ w.in-Set.is in
            rw (good, set) (rw (c.place-at.ensures.place, c.unit-unit.ensures.value, c.layout.ensures, c.layout-2.ensures, c.read.ensures.value) at c.blank.ensures))
        | in_default v ↦ absurd (false≢true (sym v.matches-is ∙ w.if-matches.true))
      ]
      | then-matches+in_default-matches w ↦ absurd (false≢true (sym w.value-is ∙ c.if-matches-2.true))
      | else-matches w ↦ absurd (false≢true (sym w.if-matches.false ∙ sym w.value-is ∙ c.if-matches-2.true))
    ]

pub returns-else-matches-2-clause-may : goal.returns-else-matches-2-clause-may
returns-else-matches-2-clause-may g c =
    let seen = g.F.Flash.seen c.args.flash.now in
    let read = trailer_of seen.geometry seen.content Primary in
    c.if-matches-2.false ∙ (elim c.if-matches.branch [
      | then-matches+in-Set w ↦ absurd (false≢true (sym c.if-matches-2.false ∙ w.value-is))
      | then-matches+in_default-matches w ↦ sym (not_set c.read-primary.result read _ _ c.read-primary.ensures w.in_default-matches.not-Set)
      | else-matches w ↦ elim c.match-matches.branch [
        | in-Good v ↦ absurd (false≢true (sym w.if-matches.false ∙ v.matches-is))
        | in_default v ↦ sym (not_good c.read-primary.result read _ _ c.read-primary.ensures v.in_default.not-Good)
      ]
    ])
