-- The lines of a patch, and the digits of bytes, one after another.
use Rattle.std.specs.Prelude.{◌≡◌, ℕ, ◌+◌, ◌-◌, ◌/◌, ◌%◌, ◌<◌, Bool, true, false, if◌then◌else◌, List, [], ◌∷◌, ◌++◌, bytes_eq, length, take, drop, slice_index, refl}
use Rattle.hex.specs.Hex.{encode_lower, encode_with, lower_digits}
use Rattle.std.proofs.{Common.{arith, sym, ap, ◌∙◌, append-nil, take-append-drop}, lemmas.List.{nil_from_length}, lemmas.List.Concat.{flat_map-append}}
use Rattle.mc_flash.specs.{Flash.{Content, bytes_of, sectors_of}, Geometry.{Geometry}, declared.op.Slot.{Slot}}
use Rattle.mc_flash.specs.declared.op.Slot.TheVariants.{Primary, Secondary}
use Rattle.mc_trace.specs.{Patch.{Change, change_of, changes_from, line_text, lines_text, patch_text, slot_changes, source_of}, Sectors.{sector_of}}

encode_with-append : (t a b : List ℕ) → encode_with t (a ++ b) ≡ encode_with t a ++ encode_with t b
unfolding encode_with
encode_with-append t [] b = refl
encode_with-append t (x ∷ a) b = ap (λ l. slice_index t (x / 16) ∷ slice_index t (x % 16) ∷ l) (encode_with-append t a b)

-- The digits of some bytes are those of the first n of them, and of the others.
pub digits_next : (bytes : List ℕ) (n : ℕ) → encode_lower bytes ≡ encode_lower (take n bytes) ++ encode_lower (drop n bytes)
digits_next bytes n = ap encode_lower (sym (take-append-drop n bytes)) ∙ encode_with-append lower_digits (take n bytes) (drop n bytes)

pub digits_none : (bytes : List ℕ) → length bytes ≡ 0 → encode_lower bytes ≡ []
unfolding encode_with
digits_none bytes none = ap encode_lower (nil_from_length bytes none)

-- A sector that holds these bytes.
module _ (g : Geometry) (start : Content) (slot : Slot) (i : ℕ) (bytes : List ℕ) where
  -- Whether it held them at the start.
  abbrev pub as_was : Bool
  as_was = bytes_eq bytes (sector_of g (bytes_of start slot) i)

  abbrev change : Change
  change = record { slot = slot; sector = i; source = source_of g start bytes }

  pub no_line : as_was ≡ true → lines_text (change_of g start slot i bytes) ≡ []
  unfolding change_of
  no_line same = ap (λ (t : Bool). lines_text (if t then [] else change ∷ [])) same

  pub one_line : as_was ≡ false → lines_text (change_of g start slot i bytes) ≡ line_text change
  unfolding change_of
  one_line other = ap (λ (t : Bool). lines_text (if t then [] else change ∷ [])) other ∙ append-nil (line_text change)

-- A slot that holds these bytes.
module _ (g : Geometry) (start : Content) (slot : Slot) (bytes : List ℕ) where
  -- The lines of its sectors from i on.
  abbrev pub left : ℕ → List ℕ
  left i = lines_text (changes_from g start slot bytes i (sectors_of g slot - i))

  pub left_next : (i : ℕ) → i < sectors_of g slot → left i ≡ lines_text (change_of g start slot i (sector_of g bytes i)) ++ left (i + 1)
  left_next i more = grind (arith, flat_map-append)

-- The lines of both slots.
pub two_slots : (g : Geometry) (start s : Content) → patch_text g start s ≡ lines_text (slot_changes g start Primary s.primary) ++ lines_text (slot_changes g start Secondary s.secondary)
two_slots g start s = flat_map-append line_text (slot_changes g start Primary s.primary) (slot_changes g start Secondary s.secondary)
