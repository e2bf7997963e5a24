-- Which flashes of a torn operation the next boot can tell apart, and how a reading gives each (docs/MODEL.md, "Power lost within an
-- operation"): this project's own.
use Rattle.std.specs.List.{list_all, range_with_len}
use Rattle.std.specs.Option.{is_some}
use Rattle.std.specs.Bool.{beq}
use Rattle.std.specs.Prelude.{Bool, List, None, Option, Some, false, filter, if◌then◌else◌, length, map, nat_le, nat_lt, not, option_map, slice_index, true, ℕ, ◌&&◌, ◌*◌, ◌+◌, ◌-◌, ◌==◌, ◌||◌}
use Rattle.mc_boot.specs.Torn.{Tearing, gently, roughly}
use Rattle.mc_flash.specs.{Flash.{Content, byte, bytes_of, put, with_bytes}, Geometry.{Geometry}, declared.op.Op.{Op}, declared.op.Slot.{Slot}}
use Rattle.mc_flash.specs.{declared.op.Op.TheVariants.{Copy, Erase, Program}, declared.op.Slot.TheVariants.{Primary, Secondary}}
use Rattle.mc_tear.specs.{Readings.{reading_of}, declared.reading.Entry.{Entry}, declared.named.Fields.{Fields}, declared.reading.Reading.{Reading}, declared.torn.Erasing.{Erasing}}
use Rattle.mc_trailer.specs.{Tables.{is_absent, is_good, is_set, is_unset}, Trailer.{entry_place, magic_bytes, place, trailer_of}}
use Rattle.mc_trailer.specs.{declared.trailer.Flag.{Flag}, declared.trailer.Magic.{Magic}, declared.trailer.Trailer.{Trailer}}
use Rattle.mc_trailer.specs.declared.places.Field.TheVariants as field
use Rattle.mc_trailer.specs.declared.trailer.Flag.TheVariants as flags
use Rattle.mc_trailer.specs.declared.trailer.Magic.TheVariants as magics
use Rattle.mc_tear.specs.declared.reading.Entry.TheVariants as entries
use Rattle.mc_tear.specs.declared.torn.Erasing.TheVariants as erasings

-- ---- what an operation writes

-- The slot that it writes in, the first byte that it writes, and how many.
abbrev pub slot_of : Op → Slot
slot_of (Erase slot sector) = slot
slot_of (Program slot at bytes) = slot
slot_of (Copy from at to offset len) = to

abbrev pub written_from : Geometry → Op → ℕ
written_from g (Erase slot sector) = sector * g.sector
written_from g (Program slot at bytes) = at
written_from g (Copy from at to offset len) = offset

abbrev pub written_len : Geometry → Op → ℕ
written_len g (Erase slot sector) = g.sector
written_len g (Program slot at bytes) = length bytes
written_len g (Copy from at to offset len) = len

-- What it makes of the k-th byte of those.
abbrev pub written_byte : Op → Content → ℕ → ℕ
written_byte (Erase slot sector) s k = 255
written_byte (Program slot at bytes) s k = slice_index bytes k
written_byte (Copy from at to offset len) s k = byte s from (at + k)

-- ---- what it may change where it is torn

abbrev pub tearing_of : Erasing → Tearing
tearing_of erasings.Gentle = gently
tearing_of erasings.Rough = roughly

-- Where an erase is torn roughly, each byte of its sector; else what the whole operation changes.
abbrev pub is_rough : Erasing → Op → Bool
is_rough erasings.Rough (Erase slot sector) = true
is_rough erasings.Rough (Program slot at bytes) = false
is_rough erasings.Rough (Copy from at to offset len) = false
is_rough erasings.Gentle op = false

-- That of the k-th byte that it writes, and of a byte of its slot.
abbrev pub may_change : Erasing → Geometry → Op → Content → ℕ → Bool
may_change e g op s k = is_rough e op || not (written_byte op s k == byte s (slot_of op) (written_from g op + k))

abbrev pub is_within : ℕ → ℕ → ℕ → Bool
is_within at len i = nat_le at i && nat_lt i (at + len)

abbrev pub may_change_at : Erasing → Geometry → Op → Content → ℕ → Bool
may_change_at e g op s i = is_within (written_from g op) (written_len g op) i && may_change e g op s (i - written_from g op)

-- ---- the fields that it may change

-- One of so many bytes from there on.
abbrev pub may_change_some : Erasing → Geometry → Op → Content → ℕ → ℕ → Bool
may_change_some e g op s at len = not (list_all (λ i. not (may_change_at e g op s i)) (range_with_len at len))

abbrev pub is_primary : Slot → Bool
is_primary Primary = true
is_primary Secondary = false

-- It writes a status entry.
abbrev pub is_entry : Geometry → Op → Bool
is_entry g (Erase slot sector) = false
is_entry g (Program Primary at bytes) = is_within (entry_place g 0) (3 * g.max_sectors * g.unit) at
is_entry g (Program Secondary at bytes) = false
is_entry g (Copy from at to offset len) = false

-- The fields that it may change.
abbrev pub fields_of : Erasing → Geometry → Op → Content → Fields
fields_of e g op s = record {
  magic = may_change_some e g op s (place g (slot_of op) field.Magic) 16;
  image_ok = may_change_at e g op s (place g (slot_of op) field.ImageOk);
  copy_done = is_primary (slot_of op) && may_change_at e g op s (place g (slot_of op) field.CopyDone);
  entry = is_entry g op && may_change_at e g op s (written_from g op);
}

-- A reading names these fields, and no other.
abbrev pub names : Fields → Reading → Bool
names f r =
    (beq (is_some r.magic) f.magic && beq (is_some r.image_ok) f.image_ok)
    && (beq (is_some r.copy_done) f.copy_done && beq (is_some r.entry) f.entry)

-- ---- the flash of a reading

-- Byte k of a magic that is read so, a flag, and the first byte of an entry.
abbrev pub magic_byte : ℕ → Magic → ℕ
magic_byte k magics.Good = slice_index magic_bytes k
magic_byte k magics.Unset = 255
magic_byte k magics.Bad = 0x55

abbrev pub flag_byte : Flag → ℕ
flag_byte flags.Set = 1
flag_byte flags.Unset = 255
flag_byte flags.Bad = 3

abbrev pub entry_byte : Entry → ℕ
entry_byte entries.Written = 0x7f
entry_byte entries.Unset = 255

-- What a reading puts at byte i of the slot, if it names a field there.
abbrev pub value_at : Geometry → Op → Reading → ℕ → Option ℕ
value_at g op r i =
    let magic = place g (slot_of op) field.Magic in
    if is_within magic 16 i then option_map (magic_byte (i - magic)) r.magic
    else if i == place g (slot_of op) field.ImageOk then option_map flag_byte r.image_ok
    else if i == place g (slot_of op) field.CopyDone then option_map flag_byte r.copy_done
    else if is_entry g op && i == written_from g op then option_map entry_byte r.entry
    else None

abbrev pub value_or : ℕ → Option ℕ → ℕ
value_or old None = old
value_or old (Some value) = value

-- The k-th byte that the operation writes: where it may change, as the reading says; else as before.
abbrev pub torn_byte : Erasing → Geometry → Op → Content → Reading → ℕ → ℕ
torn_byte e g op s r k =
    let i = written_from g op + k in
    let old = byte s (slot_of op) i in
    if may_change e g op s k then value_or old (value_at g op r i) else old

abbrev pub torn_bytes : Erasing → Geometry → Op → Content → Reading → List ℕ
torn_bytes e g op s r = map (torn_byte e g op s r) (range_with_len 0 (written_len g op))

-- Bytes in the place of those that it writes. All others are as before.
abbrev pub put_in : Geometry → Op → Content → List ℕ → Content
put_in g op s bytes = with_bytes s (slot_of op) (put (bytes_of s (slot_of op)) (written_from g op) bytes)

abbrev pub torn : Erasing → Geometry → Op → Content → Reading → Content
torn e g op s r = put_in g op s (torn_bytes e g op s r)

-- ---- which readings are cases

-- Something is not as the whole operation makes it.
abbrev pub is_unfinished : Erasing → Geometry → Op → Content → Reading → Bool
is_unfinished e g op s r =
    not (list_all (λ k. torn_byte e g op s r k == written_byte op s k) (range_with_len 0 (written_len g op)))

abbrev pub is_magic : Magic → Magic → Bool
is_magic magics.Good m = is_good m
is_magic magics.Unset m = is_absent m
is_magic magics.Bad m = not (is_good m || is_absent m)

abbrev pub is_flag : Flag → Flag → Bool
is_flag flags.Set f = is_set f
is_flag flags.Unset f = is_unset f
is_flag flags.Bad f = not (is_set f || is_unset f)

-- What is named of a field is so.
abbrev pub if_named : {A B : Type 0} → (A → B → Bool) → Option A → B → Bool
if_named same None value = true
if_named same (Some named) value = same named value

-- A trailer is read as a reading says.
abbrev pub reads_as : Reading → Trailer → Bool
reads_as r t =
    if_named is_magic r.magic t.magic
    && (if_named is_flag r.image_ok t.image_ok && if_named is_flag r.copy_done t.copy_done)

-- A reading is a case of an operation: it names what the operation may change, some bytes there are read so, and the operation is
-- not finished.
abbrev pub is_case : Erasing → Geometry → Op → Content → Reading → Bool
is_case e g op s r =
    names (fields_of e g op s) r
    && (is_unfinished e g op s r && reads_as r (trailer_of g (torn e g op s r) (slot_of op)))

-- The cases of an operation, in order.
unfoldable pub cases_of : Erasing → Geometry → Op → Content → List Reading
cases_of e g op s = filter (is_case e g op s) (map reading_of (range_with_len 0 192))
