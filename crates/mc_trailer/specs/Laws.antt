-- What the laws of trailers say.
use Rattle.std.specs.Prelude.{◌≡◌, ◌≢◌, ◌⊎◌, ◌↔◌, ℕ, ◌+◌, ◌*◌, ◌^◌, ◌<◌, ◌≤◌, true, false, List, length, Some}
use Rattle.mc_flash.specs.{Geometry.{Geometry, IsLayout}, Flash.{Content, IsSized, size_of}, facts.Changes.{Changed}, declared.op.Slot.{Slot}}
use Rattle.mc_flash.specs.declared.op.Slot.TheVariants.{Primary}
use Rattle.mc_trailer.specs.Trailer.{highest_entry, is_written, one_unit, size_bytes, trailer_of, entry_place, magic_bytes, place, room}
use Rattle.mc_trailer.specs.{Tables.{Asks, asks_perm, asks_revert, asks_test, swap_type}, declared.places.Field.{Field}}
use Rattle.mc_trailer.specs.declared.places.Field.TheVariants as field
use Rattle.mc_trailer.specs.{declared.tables.Profile.{Profile}, declared.tables.SwapType.{SwapType}}
use Rattle.mc_trailer.specs.declared.trailer.Flag.TheVariants as flags
use Rattle.mc_trailer.specs.declared.trailer.Magic.TheVariants as magics
use Rattle.mc_trailer.specs.declared.trailer.Trailer.{Trailer}

-- The same of any field: it is read as before.
abbrev pub SameReading : Field → Trailer → Trailer → Type 0
SameReading field.Magic t u = t.magic ≡ u.magic
SameReading field.ImageOk t u = t.image_ok ≡ u.image_ok
SameReading field.CopyDone t u = t.copy_done ≡ u.copy_done
SameReading field.SwapInfo t u = t.swap_info ≡ u.swap_info
SameReading field.SwapSize t u = t.swap_size ≡ u.swap_size

-- What is written for each field is read back.
abbrev pub ReadsBack : Type 0
ReadsBack = (g : Geometry) (s t : Content) (slot : Slot) → IsLayout g → IsSized g s
    → (Changed s t slot (place g slot field.Magic) magic_bytes → (trailer_of g t slot).magic ≡ magics.Good)
    × (Changed s t slot (place g slot field.ImageOk) (one_unit g 1) → (trailer_of g t slot).image_ok ≡ flags.Set)
    × (Changed s t slot (place g slot field.CopyDone) (one_unit g 1) → (trailer_of g t slot).copy_done ≡ flags.Set)
    × ((value : ℕ) → Changed s t slot (place g slot field.SwapInfo) (one_unit g value) → (trailer_of g t slot).swap_info ≡ value)
    × ((size : ℕ) → size < 256 ^ 4 → Changed s t slot (place g slot field.SwapSize) (size_bytes g size) → (trailer_of g t slot).swap_size ≡ size)

-- A write keeps the trailer of the other slot, the reading of each field that it does not touch, and so the whole trailer of
-- its own slot where it ends before the fields.
abbrev pub WritesKeep : Type 0
WritesKeep = (g : Geometry) (s t : Content) (slot : Slot) (at : ℕ) (new : List ℕ) → IsLayout g → IsSized g s → Changed s t slot at new
    → ((o : Slot) → o ≢ slot → trailer_of g t o ≡ trailer_of g s o)
    × ((f : Field) → (at + length new ≤ place g slot f) ⊎ (place g slot f + room f ≤ at) → SameReading f (trailer_of g t slot) (trailer_of g s slot))
    × (at + length new + 48 ≤ size_of g slot → trailer_of g t slot ≡ trailer_of g s slot)

-- After an entry above all written ones was written it is the highest.
abbrev pub WritesHighest : Type 0
WritesHighest = (g : Geometry) (s t : Content) (e : ℕ) → IsLayout g → IsSized g s → e < 3 * g.max_sectors
    → ((d : ℕ) → e < d → d < 3 * g.max_sectors → is_written g s d ≡ false)
    → Changed s t Primary (entry_place g e) (one_unit g 1) → highest_entry g t ≡ Some e

-- No two rows hold together.
abbrev pub RowsApart : Type 0
RowsApart = (profile : Profile) (p s : Trailer)
    → (asks_test p s ≡ true → asks_perm p s ≡ false)
    × (asks_test p s ≡ true → asks_revert profile p s ≡ false)
    × (asks_perm p s ≡ true → asks_revert profile p s ≡ false)

-- The type of the tables is that whose row holds, and no other is.
abbrev pub TypesAreRows : Type 0
TypesAreRows = (profile : Profile) (p s : Trailer) (kind : SwapType) → (swap_type profile p s ≡ kind) ↔ Asks profile p s kind
