-- What an operation changes and what it keeps, byte by byte. Proved here, so that the crates above can cite it.
use Rattle.std.proofs.{Common.{arith, ◌∙◌}, lemmas.Bool.Decides.{nat_tests}, lemmas.Grind.{common_steps}}
use Rattle.std.proofs.lemmas.List.{get_or-append_right, get_or-drop, get_or-take, get_or_append_left, length-replicate, length-take-le}
use Rattle.std.proofs.lemmas.List.Edits.{get_or-between, length-between}
use Rattle.std.specs.List.{between}
use Rattle.std.specs.Prelude.{Bool, List, None, Option, Some, [], false, length, refl, replicate, slice_index, suc, true, zero, ℕ, ◌&&◌, ◌*◌, ◌+◌, ◌<◌, ◌==◌, ◌∷◌, ◌≡◌, ◌≢◌, ◌≤◌}
use Rattle.mc_flash.specs.{Flash.{Content, IsSized, apply, byte, bytes_of, in_slot, is_blank, programmed, put, size_of, with_bytes}, Geometry.{Geometry}}
use Rattle.mc_flash.specs.{declared.op.Slot.{Slot}, declared.op.Slot.TheVariants.{Primary, Secondary}}
use Rattle.mc_flash.specs.declared.op.Op.TheVariants as ops

pub length-put : (xs new : List ℕ) (at : ℕ) → at + length new ≤ length xs → length (put xs at new) ≡ length xs
length-put xs new at fits = grind (arith, common_steps)

pub put_inside : (xs new : List ℕ) (at i : ℕ) → at + length new ≤ length xs → i < length new → slice_index (put xs at new) (at + i) ≡ slice_index new i
put_inside xs new at i fits within = grind (arith, length-take-le, get_or-append_right, get_or_append_left)

pub put_before : (xs new : List ℕ) (at i : ℕ) → at + length new ≤ length xs → i < at → slice_index (put xs at new) i ≡ slice_index xs i
put_before xs new at i fits outside = grind (arith, length-take-le, get_or_append_left, get_or-take)

pub put_beyond : (xs new : List ℕ) (at i : ℕ) → at + length new ≤ length xs → at + length new ≤ i → slice_index (put xs at new) i ≡ slice_index xs i
put_beyond xs new at i fits outside = grind (arith, length-take-le, get_or-append_right, get_or-drop)

-- bytes are blank exactly where each of them is 0xff
pub all_blank : (xs : List ℕ) → ((i : ℕ) → i < length xs → slice_index xs i ≡ 255) → is_blank xs ≡ true
all_blank [] each = refl
all_blank (x ∷ xs) each = rw (each 0 (omega arith)) (all_blank xs (λ i below. each (suc i) (omega (arith, below))))

pub and_true : (a b : Bool) → (a && b) ≡ true → b ≡ true
and_true true b e = e
and_true false b e = absurd cc

pub blank_each : (xs : List ℕ) (i : ℕ) → is_blank xs ≡ true → i < length xs → slice_index xs i ≡ 255
blank_each [] i blank below = absurd (omega (arith, below))
blank_each (x ∷ xs) zero blank below = grind (arith, nat_tests)
blank_each (x ∷ xs) (suc i) blank below = blank_each xs i (and_true (x == 255) (is_blank xs) blank) (omega (arith, below))

pub blank_range : (xs : List ℕ) (at n : ℕ) → at + n ≤ length xs → ((i : ℕ) → i < n → slice_index xs (at + i) ≡ 255) → is_blank (between at (at + n) xs) ≡ true
blank_range xs at n fits each = grind (arith, all_blank, length-between, get_or-between)

pub range_blank : (xs : List ℕ) (at n i : ℕ) → at + n ≤ length xs → is_blank (between at (at + n) xs) ≡ true → i < n → slice_index xs (at + i) ≡ 255
range_blank xs at n i fits blank short = grind (arith, get_or-between, blank_each, length-between)

-- Two contents that differ at most in some bytes of one slot, from an offset on, which are `new` in the second.
pub record Changed (s t : Content) (slot : Slot) (at : ℕ) (new : List ℕ) : Type 0 where
  pub inside : (i : ℕ) → i < length new → byte t slot (at + i) ≡ slice_index new i
  pub before : (i : ℕ) → i < at → byte t slot i ≡ byte s slot i
  pub beyond : (i : ℕ) → at + length new ≤ i → byte t slot i ≡ byte s slot i
  pub other : (o : Slot) (i : ℕ) → o ≢ slot → byte t o i ≡ byte s o i
  pub sizes : (o : Slot) → length (bytes_of t o) ≡ length (bytes_of s o)

pub changed : (s : Content) (slot : Slot) (at : ℕ) (new : List ℕ) → at + length new ≤ length (bytes_of s slot) → Changed s (with_bytes s slot (put (bytes_of s slot) at new)) slot at new
changed s Primary at new fits = record {
  inside = λ i within. put_inside s.primary new at i fits within;
  before = λ i outside. put_before s.primary new at i fits outside;
  beyond = λ i outside. put_beyond s.primary new at i fits outside;
  other = elim [ Primary ↦ λ i no_. absurd (no_ refl) | Secondary ↦ λ i _. refl ];
  sizes = elim [ Primary ↦ length-put s.primary new at fits | Secondary ↦ refl ];
}
changed s Secondary at new fits = record {
  inside = λ i within. put_inside s.secondary new at i fits within;
  before = λ i outside. put_before s.secondary new at i fits outside;
  beyond = λ i outside. put_beyond s.secondary new at i fits outside;
  other = elim [ Primary ↦ λ i _. refl | Secondary ↦ λ i no_. absurd (no_ refl) ];
  sizes = elim [ Primary ↦ refl | Secondary ↦ length-put s.secondary new at fits ];
}

pub changed_sized : (g : Geometry) (s t : Content) (slot : Slot) (at : ℕ) (new : List ℕ) → Changed s t slot at new → IsSized g s → IsSized g t
changed_sized g s t slot at new ch sized = record {
  primary = ch.sizes Primary ∙ sized.primary;
  secondary = ch.sizes Secondary ∙ sized.secondary;
}

pub sized_is : (g : Geometry) (s : Content) (slot : Slot) → IsSized g s → length (bytes_of s slot) ≡ size_of g slot
sized_is g s Primary sized = sized.primary
sized_is g s Secondary sized = sized.secondary

pub same_content : (s t : Content) → Some s ≡ Some t → s ≡ t
same_content s t e = cc

-- Every erase of a sector of the slot is defined, and changes that sector alone.
pub erase_changes : (g : Geometry) (s : Content) (slot : Slot) (sector : ℕ) → sector * g.sector + g.sector ≤ length (bytes_of s slot)
    → (t : Content) × (apply g (ops.Erase slot sector) s ≡ Some t) × Changed s t slot (sector * g.sector) (replicate g.sector 255)
unfolding apply
erase_changes g s slot sector fits = (
  with_bytes s slot (put (bytes_of s slot) (sector * g.sector) (replicate g.sector 255)),
  refl,
  changed s slot (sector * g.sector) (replicate g.sector 255) (omega (arith, fits, length-replicate {A = ℕ} g.sector 255)),
)

programs : (s : Content) (slot : Slot) (at : ℕ) (new : List ℕ) → is_blank (between at (at + length new) (bytes_of s slot)) ≡ true
    → in_slot s slot (programmed (bytes_of s slot) at new) ≡ Some (with_bytes s slot (put (bytes_of s slot) at new))
programs s slot at new blank = rw blank refl

-- A program is defined where each byte is 0xff, and changes these bytes alone.
pub program_changes : (g : Geometry) (s : Content) (slot : Slot) (at : ℕ) (new : List ℕ) → at + length new ≤ length (bytes_of s slot) → ((i : ℕ) → i < length new → byte s slot (at + i) ≡ 255)
    → (t : Content) × (apply g (ops.Program slot at new) s ≡ Some t) × Changed s t slot at new
unfolding apply
program_changes g s slot at new fits blank =
    (with_bytes s slot (put (bytes_of s slot) at new), programs s slot at new (blank_range (bytes_of s slot) at (length new) fits blank), changed s slot at new fits)

-- Where a program is defined, each byte was 0xff.
pub program_was_blank : (g : Geometry) (s t : Content) (slot : Slot) (at : ℕ) (new : List ℕ) → at + length new ≤ length (bytes_of s slot) → apply g (ops.Program slot at new) s ≡ Some t
    → (i : ℕ) → i < length new → byte s slot (at + i) ≡ 255
unfolding apply
program_was_blank g s t slot at new fits is = go (is_blank (between at (at + length new) (bytes_of s slot))) refl
  where
    go : (b : Bool) → is_blank (between at (at + length new) (bytes_of s slot)) ≡ b → (i : ℕ) → i < length new → byte s slot (at + i) ≡ 255
    go true blank i short = range_blank (bytes_of s slot) at (length new) i fits blank short
    go false other i short = absurd (nothing (programmed (bytes_of s slot) at new) (rw other refl) is)
      where
        nothing : (p : Option (List ℕ)) → p ≡ None → in_slot s slot p ≡ Some t → ⊥
        nothing None e given = let q : None ≡ Some t = given in absurd cc
        nothing (Some x) e given = absurd cc

-- The bytes that a copy writes.
abbrev pub copied : Content → Slot → ℕ → ℕ → List ℕ
copied s from at len = between at (at + len) (bytes_of s from)

pub length-copied : (s : Content) (from : Slot) (at len : ℕ) → at + len ≤ length (bytes_of s from) → length (copied s from at len) ≡ len
length-copied s from at len fits = omega (arith, length-between (bytes_of s from) at (at + len) fits)

-- A copy is the program of the bytes that its source holds.
pub copy_is_program : (g : Geometry) (s : Content) (from to : Slot) (at offset len : ℕ) → apply g (ops.Copy from at to offset len) s ≡ apply g (ops.Program to offset (copied s from at len)) s
unfolding apply
copy_is_program g s from to at offset len = refl
