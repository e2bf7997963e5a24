-- The flash of a case is one that the torn operation may leave.
use Rattle.std.proofs.{Common.{ap, arith, eq-eqb, inl, inr, subst, sym, ◌∙◌}, lemmas.Bool.{cases_lt}}
use Rattle.std.specs.Prelude.{Bool, Some, false, if◌then◌else◌, not, refl, true, ℕ, ◌&&◌, ◌+◌, ◌-◌, ◌<◌, ◌≡◌, ◌≢◌}
use Rattle.mc_boot.proofs.Meets.{which_slot}
use Rattle.mc_boot.specs.Torn.{IsKept, IsTorn}
use Rattle.mc_flash.specs.{Flash.{CanTry, Content, IsSized, apply, byte}, Geometry.{Geometry, IsLayout}, declared.op.Op.{Op}}
use Rattle.mc_flash.specs.{declared.op.Op.TheVariants.{Copy, Erase, Program}, declared.op.Slot.{Slot}, facts.Changes.{Changed}}
use Rattle.std.proofs.lemmas.List.FromFn.{get_or-map-range_with_len}
use Rattle.mc_tear.proofs.{Ranges.{none_differs, torn_len}, Whole.{torn_is, torn_there, whole_byte}}
use Rattle.mc_tear.specs.Cases.{fields_of, is_case, is_unfinished, may_change, names, slot_of, tearing_of, torn, torn_byte, torn_bytes, value_at, value_or, written_byte, written_from, written_len}
use Rattle.mc_tear.specs.{Laws.{CasesAreTorn}, declared.reading.Reading.{Reading}, declared.torn.Erasing.{Erasing}}
use Rattle.mc_tear.specs.declared.torn.Erasing.TheVariants as erasings

-- A byte that is kept is not one that may change.
kept_not : (e : Erasing) (g : Geometry) (op : Op) (s whole : Content) (k : ℕ) → k < written_len g op → byte whole (slot_of op) (written_from g op + k) ≡ written_byte op s k
    → IsKept (tearing_of e) g op s whole (slot_of op) (written_from g op + k) → may_change e g op s k ≡ false
kept_not erasings.Gentle g op s whole k short made kept = ap not (eq-eqb (written_byte op s k) (byte s (slot_of op) (written_from g op + k)) (sym made ∙ kept))
kept_not erasings.Rough g (Erase slot sector) s whole k short made kept = absurd (elim (kept refl) [ inl low ↦ omega (arith, low) | inr high ↦ omega (arith, high, short) ])
kept_not erasings.Rough g (Program slot at bytes) s whole k short made kept =
    ap not (eq-eqb (written_byte (Program slot at bytes) s k) (byte s slot (at + k)) (sym made ∙ kept))
kept_not erasings.Rough g (Copy from at to offset len) s whole k short made kept =
    ap not (eq-eqb (written_byte (Copy from at to offset len) s k) (byte s to (offset + k)) (sym made ∙ kept))

both_true : (a b c : Bool) → (a && (b && c)) ≡ true → b ≡ true
both_true true true c e = refl
both_true true false c e = absurd cc
both_true false b c e = absurd cc

module _ (e : Erasing) (g : Geometry) (op : Op) (s whole : Content) (r : Reading) (ok : IsLayout g) (sized : IsSized g s) (can : CanTry g op) (makes : apply g op s ≡ Some whole)
    (case : is_case e g op s r ≡ true) where
  abbrev v : Content
  v = torn e g op s r

  ch : Changed s v (slot_of op) (written_from g op) (torn_bytes e g op s r)
  ch = torn_is g ok s sized op can e r

  inner : (i k : ℕ) → written_from g op + k ≡ i → k < written_len g op → IsKept (tearing_of e) g op s whole (slot_of op) i → byte v (slot_of op) i ≡ byte s (slot_of op) i
  inner i k is short = subst (λ n. IsKept (tearing_of e) g op s whole (slot_of op) n → byte v (slot_of op) n ≡ byte s (slot_of op) n) is (λ kept.
      let no_ = kept_not e g op s whole k short (whole_byte g ok s sized op can whole makes k short) kept in
      torn_there g ok s sized op can e r k short
      ∙ ap (λ (b : Bool). if b then value_or (byte s (slot_of op) (written_from g op + k)) (value_at g op r (written_from g op + k)) else byte s (slot_of op) (written_from g op + k)) no_)

  here : (i : ℕ) → IsKept (tearing_of e) g op s whole (slot_of op) i → byte v (slot_of op) i ≡ byte s (slot_of op) i
  here i kept = elim (cases_lt i (written_from g op)) [
    | inl low ↦ ch.before i low
    | inr high ↦ elim (cases_lt i (written_from g op + written_len g op)) [
      | inl low ↦ inner i (i - written_from g op) (omega (arith, high)) (omega (arith, high, low)) kept
      | inr beyond ↦ ch.beyond i (omega (arith, beyond, torn_len e g op s r))
    ]
  ]

  by_slot : (o : Slot) (i : ℕ) → IsKept (tearing_of e) g op s whole o i → byte v o i ≡ byte s o i
  by_slot o i kept = elim (which_slot o (slot_of op)) [
    | inl is ↦ subst (λ (x : Slot). IsKept (tearing_of e) g op s whole x i → byte v x i ≡ byte s x i) (sym is) (here i) kept
    | inr other ↦ ch.other o i other
  ]

  differs : v ≢ whole
  differs same =
      let yes : is_unfinished e g op s r ≡ true = both_true (names (fields_of e g op s) r) (is_unfinished e g op s r) _ case in
      let no_ : false ≡ is_unfinished e g op s r =
      none_differs (torn_byte e g op s r) (written_byte op s) (torn_bytes e g op s r) (written_len g op) refl (λ k short.
      get_or-map-range_with_len (torn_byte e g op s r) 0 (written_len g op) k k 0 short (omega arith)
      ∙ sym (torn_there g ok s sized op can e r k short) ∙ ap (λ (c : Content). byte c (slot_of op) (written_from g op + k)) same
      ∙ whole_byte g ok s sized op can whole makes k short) in
      let f : false ≡ true = no_ ∙ yes in absurd cc

  case_torn : IsTorn (tearing_of e) g op s v
  case_torn = record { whole = whole; makes = makes; kept = by_slot; sizes = ch.sizes; unfinished = differs }

pub cases_are_torn : CasesAreTorn
cases_are_torn e g op s whole r ok sized can makes case = case_torn e g op s whole r ok sized can makes case
