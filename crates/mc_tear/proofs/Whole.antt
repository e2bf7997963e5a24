-- What a whole operation makes of each byte, and what the flash of a reading has there.
use Rattle.std.proofs.{Common.{ap, arith, inl, inr, subst, sym, ◌∙◌}, lemmas.Bool.{cases_lt}, lemmas.Bool.Decides.{nat_tests}, lemmas.List.{get_or-replicate, length-replicate}}
use Rattle.std.proofs.{lemmas.List.Edits.{get_or-between}, lemmas.List.FromFn.{get_or-map-range_with_len}}
use Rattle.std.specs.Prelude.{Bool, List, Some, false, if◌then◌else◌, length, refl, replicate, slice_index, ℕ, ◌+◌, ◌-◌, ◌<◌, ◌≡◌, ◌≤◌}
use Rattle.mc_boot.proofs.TornSwaps.{erase_is, program_is}
use Rattle.mc_flash.specs.{Flash.{CanTry, Content, IsSized, apply, byte, bytes_of}, Geometry.{Geometry, IsLayout}, declared.op.Op.{Op}}
use Rattle.mc_flash.specs.{declared.op.Op.TheVariants.{Copy, Erase, Program}, facts.Changes.{Changed, changed, copied, length-copied, sized_is}}
use Rattle.mc_tear.proofs.Ranges.{range_of, torn_len}
use Rattle.mc_tear.specs.Cases.{may_change, may_change_at, slot_of, torn, torn_byte, torn_bytes, value_at, value_or, written_byte, written_from, written_len}
use Rattle.mc_tear.specs.{declared.reading.Reading.{Reading}, declared.torn.Erasing.{Erasing}}

-- The bytes that it writes.
abbrev pub written : Geometry → Op → Content → List ℕ
written g (Erase slot sector) s = replicate g.sector 255
written g (Program slot at bytes) s = bytes
written g (Copy from at to offset len) s = copied s from at len

module _ (g : Geometry) (ok : IsLayout g) (s : Content) (sized : IsSized g s) where
  pub written_long : (op : Op) → CanTry g op → length (written g op s) ≡ written_len g op
  written_long (Erase slot sector) can = length-replicate {A = ℕ} g.sector 255
  written_long (Program slot at bytes) can = refl
  written_long (Copy from at to offset len) can = length-copied s from at len (omega (arith, can.0.inside, sized_is g s from sized))

  pub written_is : (op : Op) → CanTry g op → (k : ℕ) → k < written_len g op → slice_index (written g op s) k ≡ written_byte op s k
  written_is (Erase slot sector) can k short = get_or-replicate g.sector k 255 0 short
  written_is (Program slot at bytes) can k short = refl
  written_is (Copy from at to offset len) can k short = get_or-between (bytes_of s from) at (at + len) k 0 (omega (arith, short))

  pub whole_is : (op : Op) (whole : Content) → CanTry g op → apply g op s ≡ Some whole → Changed s whole (slot_of op) (written_from g op) (written g op s)
  unfolding apply
  whole_is (Erase slot sector) whole can is = erase_is g s whole slot sector sized (range_of g (Erase slot sector) ok can).inside is
  whole_is (Program slot at bytes) whole can is = program_is g s whole slot at bytes sized can.inside is
  whole_is (Copy from at to offset len) whole can is =
      let long = written_long (Copy from at to offset len) can in
      program_is g s whole to offset (copied s from at len) sized (omega (arith, long, can.1.inside)) is

  module _ (op : Op) (can : CanTry g op) where
    fits : written_from g op + written_len g op ≤ length (bytes_of s (slot_of op))
    fits = let range = range_of g op ok can in omega (arith, range.inside, sized_is g s (slot_of op) sized)

    pub whole_byte : (whole : Content) → apply g op s ≡ Some whole → (k : ℕ) → k < written_len g op → byte whole (slot_of op) (written_from g op + k) ≡ written_byte op s k
    whole_byte whole is k short =
        let long = written_long op can in
        (whole_is op whole can is).inside k (omega (arith, short, long)) ∙ written_is op can k short

    module _ (e : Erasing) (r : Reading) where
      pub torn_is : Changed s (torn e g op s r) (slot_of op) (written_from g op) (torn_bytes e g op s r)
      torn_is = changed s (slot_of op) (written_from g op) (torn_bytes e g op s r) (omega (arith, fits, torn_len e g op s r))

      pub torn_there : (k : ℕ) → k < written_len g op → byte (torn e g op s r) (slot_of op) (written_from g op + k) ≡ torn_byte e g op s r k
      torn_there k short =
          torn_is.inside k (omega (arith, short, torn_len e g op s r))
          ∙ get_or-map-range_with_len (torn_byte e g op s r) 0 (written_len g op) k k 0 short (omega arith)

      abbrev pub said : ℕ → ℕ
      said i = if may_change_at e g op s i then value_or (byte s (slot_of op) i) (value_at g op r i) else byte s (slot_of op) i

      outside : (i : ℕ) → may_change_at e g op s i ≡ false → said i ≡ byte s (slot_of op) i
      outside i no_ = rw no_ refl

      below_not : (i : ℕ) → i < written_from g op → may_change_at e g op s i ≡ false
      below_not i low = grind (arith, nat_tests)

      beyond_not : (i : ℕ) → written_from g op + written_len g op ≤ i → may_change_at e g op s i ≡ false
      beyond_not i high = grind (arith, nat_tests)

      within_is : (i k : ℕ) → written_from g op + k ≡ i → k < written_len g op → may_change_at e g op s i ≡ may_change e g op s k
      within_is i k is short = grind (arith, nat_tests)

      inner : (i k : ℕ) → written_from g op + k ≡ i → k < written_len g op → byte (torn e g op s r) (slot_of op) i ≡ said i
      inner i k is short = subst (λ n. byte (torn e g op s r) (slot_of op) n ≡ said n) is (
          let here : may_change_at e g op s (written_from g op + k) ≡ may_change e g op s k = within_is (written_from g op + k) k refl short in
          torn_there k short ∙ sym (ap (λ (b : Bool). if b then value_or (byte s (slot_of op) (written_from g op + k)) (value_at g op r (written_from g op + k)) else byte s (slot_of op)
          (written_from g op + k)) here))

      -- Each byte of the slot is as the reading says where it may change, and else as before.
      pub torn_at : (i : ℕ) → byte (torn e g op s r) (slot_of op) i ≡ said i
      torn_at i = elim (cases_lt i (written_from g op)) [
        | inl low ↦ torn_is.before i low ∙ sym (outside i (below_not i low))
        | inr high ↦ elim (cases_lt i (written_from g op + written_len g op)) [
          | inl low ↦ inner i (i - written_from g op) (omega (arith, high)) (omega (arith, high, low))
          | inr beyond ↦ torn_is.beyond i (omega (arith, beyond, torn_len e g op s r)) ∙ sym (outside i (beyond_not i beyond))
        ]
      ]
