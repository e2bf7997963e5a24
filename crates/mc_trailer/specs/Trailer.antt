-- The trailer of a slot: where its fields and entries stand, and how they are read (docs/MODEL.md, "Trailers").
use Rattle.std.specs.List.{between}
use Rattle.std.specs.Prelude.{Bool, List, MatchOption, None, Option, Some, [], bytes_eq, if◌then◌else◌, not, replicate, suc, true, zero, ℕ, ◌*◌, ◌++◌, ◌+◌, ◌-◌, ◌<◌, ◌==◌, ◌∷◌, ◌≡◌, ◌≤◌}
use Rattle.byteorder.specs.Endian.{little_bytes, little_number}
use Rattle.mc_flash.specs.{Flash.{Content, byte, bytes_of, is_blank, size_of}, Geometry.{Geometry}, declared.op.Slot.{Slot}}
use Rattle.mc_flash.specs.declared.op.Slot.TheVariants.{Primary}
use Rattle.mc_trailer.specs.{declared.places.Field.{Field}, declared.trailer.Flag.{Flag}, declared.trailer.Magic.{Magic}, declared.trailer.Trailer.{Trailer}}
use Rattle.mc_trailer.specs.declared.places.Field.TheVariants as field
use Rattle.mc_trailer.specs.declared.trailer.Flag.TheVariants as flags
use Rattle.mc_trailer.specs.declared.trailer.Magic.TheVariants as magics

-- Where a trailer stands. That a slot ends in these fields and status entries, and the bytes of the magic, are from
-- MCUboot's design document ("image trailer"). How far each lies before the slot's end is this project's own choice.

-- How many bytes before the slot's end a field begins.
abbrev pub before_end : Field → ℕ
before_end field.Magic = 16
before_end field.ImageOk = 24
before_end field.CopyDone = 32
before_end field.SwapInfo = 40
before_end field.SwapSize = 48

-- The first byte of a field, counted from the slot's start.
abbrev pub place : Geometry → Slot → Field → ℕ
place g slot f = size_of g slot - before_end f

-- The first byte of status entry e of the primary. The three entries of each sector of an image, a unit each, stand
-- before the fields, entry 0 first.
abbrev pub entry_place : Geometry → ℕ → ℕ
entry_place g e = size_of g Primary - (48 + 3 * g.max_sectors * g.unit - e * g.unit)

-- The magic of a trailer that is meant.
abbrev pub magic_bytes : List ℕ
magic_bytes = 0x77 ∷ 0xc2 ∷ 0x95 ∷ 0xf3 ∷ 0x60 ∷ 0xd2 ∷ 0xef ∷ 0x7f ∷ 0x35 ∷ 0x52 ∷ 0x50 ∷ 0x0f ∷ 0x2c ∷ 0xb6 ∷ 0x79 ∷ 0x80 ∷ []

-- How many bytes a field may take, up to the next field or the slot's end.
abbrev pub room : Field → ℕ
room field.Magic = 16
room field.ImageOk = 8
room field.CopyDone = 8
room field.SwapInfo = 8
room field.SwapSize = 8

-- The fields of a trailer: how they are read from a slot's bytes, and the bytes that are written for them. The fields and
-- their readings are from MCUboot's design document ("image trailer"). The values of swap-info and of a status entry are
-- this project's own choice.

-- A magic is good if it is the 16 bytes, unset if all its bytes are 0xff, and else bad.
abbrev pub magic_of : List ℕ → Magic
magic_of bytes = if bytes_eq bytes magic_bytes then magics.Good else if is_blank bytes then magics.Unset else magics.Bad

-- A flag is set if its byte is 1, unset if it is 0xff, and else bad.
abbrev pub flag_of : ℕ → Flag
flag_of byte = if byte == 1 then flags.Set else if byte == 255 then flags.Unset else flags.Bad

-- The n bytes of a slot from an offset on.
abbrev pub bytes_at : Content → Slot → ℕ → ℕ → List ℕ
bytes_at s slot at n = between at (at + n) (bytes_of s slot)

-- The trailer of a slot: 16 bytes of magic, a byte each of two flags and swap-info, and 4 bytes of swap-size, the lowest
-- first. Of swap-info the whole byte is kept: 2 for a test, 3 for a swap that stays, 4 for a revert.
unfoldable pub trailer_of : Geometry → Content → Slot → Trailer
trailer_of g s slot = record {
  magic = magic_of (bytes_at s slot (place g slot field.Magic) 16);
  image_ok = flag_of (byte s slot (place g slot field.ImageOk));
  copy_done = flag_of (byte s slot (place g slot field.CopyDone));
  swap_info = byte s slot (place g slot field.SwapInfo);
  swap_size = little_number 4 (bytes_at s slot (place g slot field.SwapSize) 4);
}

-- What is written for a flag, for swap-info or for a status entry: one unit, the value and then 0xff. The value of a
-- status entry is 1.
abbrev pub one_unit : Geometry → ℕ → List ℕ
one_unit g value = value ∷ replicate (g.unit - 1) 255

-- What is written for swap-size: its 4 bytes, and then 0xff up to whole units.
abbrev pub size_bytes : Geometry → ℕ → List ℕ
size_bytes g size = little_bytes 4 size ++ replicate (g.unit - 4) 255

-- The status entries of the primary, and the highest that is written. That a swap leaves an entry for each of its steps is
-- from MCUboot's design document ("image trailer"). How the entries are numbered is this project's own choice.

-- The bytes of an entry are not all 0xff.
abbrev pub is_written : Geometry → Content → ℕ → Bool
is_written g s e = not (is_blank (bytes_at s Primary (entry_place g e) g.unit))

-- The written entries: those of the three for each sector of an image whose bytes are not all 0xff.
pub record IsWritten (g : Geometry) (s : Content) (e : ℕ) : Type 0 where
  pub below : e < 3 * g.max_sectors
  pub written : is_written g s e ≡ true

-- The highest of the written entries: one of them that none is above; or none, where none is written.
abbrev pub IsHighest : Geometry → Content → Option ℕ → Type 0
IsHighest g s highest = MatchOption highest
    ((e : ℕ) → ¬ IsWritten g s e)
    (λ e. IsWritten g s e × ((d : ℕ) → IsWritten g s d → d ≤ e))

-- The greatest number below n that passes.
abbrev pub greatest : (ℕ → Bool) → ℕ → Option ℕ
greatest p zero = None
greatest p (suc n) = if p n then Some n else greatest p n

-- The highest of the written entries, computed.
abbrev pub highest_entry : Geometry → Content → Option ℕ
highest_entry g s = greatest (is_written g s) (3 * g.max_sectors)
