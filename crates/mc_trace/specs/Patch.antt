-- A flash as a patch of the flash of a start: a line for each sector that is not what it was.
use Rattle.std.specs.Prelude.{List, None, Option, Some, [], bytes_eq, codes, decimal, flat_map, if◌then◌else◌, replicate, suc, zero, ℕ, ◌*◌, ◌++◌, ◌+◌, ◌∷◌}
use Rattle.hex.specs.Hex.{encode_lower}
use Rattle.mc_flash.specs.{Flash.{Content, bytes_of, is_blank, put, sectors_of, slot_text, with_bytes}, Geometry.{Geometry}, declared.op.Slot.{Slot}}
use Rattle.mc_flash.specs.declared.op.Slot.TheVariants.{Primary, Secondary}
use Rattle.mc_trace.specs.Sectors.{origin_of, sector_of}

-- What a line says that a sector holds: nothing but 0xff; what that sector of the start held; or these bytes.
pub data Source : Type 0 where
  Blank : Source
  Held : (slot : Slot) → (sector : ℕ) → Source
  Bytes : (bytes : List ℕ) → Source

-- A line: that sector of that slot is not what it was, and holds this.
pub record Change : Type 0 where
  pub slot : Slot
  pub sector : ℕ
  pub source : Source

-- Which lines a flash has.

-- The sector of the start, else the bytes themselves.
abbrev pub held_or : Option (Slot × ℕ) → List ℕ → Source
held_or (Some (slot, i)) bytes = Held slot i
held_or None bytes = Bytes bytes

-- What is said of a sector that holds these bytes: that it is blank, else the first sector of the start that held them, else the bytes.
unfoldable pub source_of : Geometry → Content → List ℕ → Source
source_of g start bytes = if is_blank bytes then Blank else held_or (origin_of g start bytes) bytes

-- The change of a sector that holds these bytes: none where it held them at the start.
unfoldable pub change_of : Geometry → Content → Slot → ℕ → List ℕ → List Change
change_of g start slot i bytes =
    if bytes_eq bytes (sector_of g (bytes_of start slot) i) then []
    else record { slot = slot; sector = i; source = source_of g start bytes } ∷ []

-- The changes of n sectors from i on, of a slot that holds these bytes.
abbrev pub changes_from : Geometry → Content → Slot → List ℕ → ℕ → ℕ → List Change
changes_from g start slot bytes i zero = []
changes_from g start slot bytes i (suc n) = change_of g start slot i (sector_of g bytes i) ++ changes_from g start slot bytes (i + 1) n

-- Those of all its sectors.
abbrev pub slot_changes : Geometry → Content → Slot → List ℕ → List Change
slot_changes g start slot bytes = changes_from g start slot bytes 0 (sectors_of g slot)

-- Those of a flash s, the primary's first.
abbrev pub changes : Geometry → Content → Content → List Change
changes g start s = slot_changes g start Primary s.primary ++ slot_changes g start Secondary s.secondary

-- How they are written: this project's own text.

-- A sector: `primary 3`.
abbrev pub sector_text : Slot → ℕ → List ℕ
sector_text slot i = slot_text slot ++ (codes " " ++ decimal i)

-- What it holds: `blank`, a sector of the start, or its bytes in lower-case hexadecimal digits.
abbrev pub source_text : Source → List ℕ
source_text Blank = codes "blank"
source_text (Held slot i) = sector_text slot i
source_text (Bytes bytes) = encode_lower bytes

-- A line: the sector, a space, and what it holds.
abbrev pub line_text : Change → List ℕ
line_text c = sector_text c.slot c.sector ++ (codes " " ++ (source_text c.source ++ 10 ∷ []))

-- Lines, one after another.
abbrev pub lines_text : List Change → List ℕ
lines_text cs = flat_map line_text cs

-- The patch that makes a flash s of the start's.
abbrev pub patch_text : Geometry → Content → Content → List ℕ
patch_text g start s = lines_text (changes g start s)

-- What a patch does.

-- The bytes that a line says. Those of a sector are what it held at the start, whatever the lines before have changed.
abbrev pub source_bytes : Geometry → Content → Source → List ℕ
source_bytes g start Blank = replicate g.sector 255
source_bytes g start (Held slot i) = sector_of g (bytes_of start slot) i
source_bytes g start (Bytes bytes) = bytes

-- The flash s with these bytes in a sector.
abbrev pub with_sector : Geometry → Content → Slot → ℕ → List ℕ → Content
with_sector g s slot i bytes = with_bytes s slot (put (bytes_of s slot) (i * g.sector) bytes)

-- The flash s after some changes, one after another.
abbrev pub changed : Geometry → Content → List Change → Content → Content
changed g start [] s = s
changed g start (c ∷ cs) s = changed g start cs (with_sector g s c.slot c.sector (source_bytes g start c.source))

-- What they make of the start's flash.
abbrev pub patched : Geometry → Content → List Change → Content
patched g start cs = changed g start cs start
