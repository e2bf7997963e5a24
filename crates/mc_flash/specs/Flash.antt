-- What a flash contains, and what the operations on it do (docs/MODEL.md, "Flash").
use Rattle.std.specs.List.{between, list_all}
use Rattle.std.specs.Prelude.{Bool, Err, List, None, Ok, Option, Result, Some, codes, drop, if◌then◌else◌, length, replicate, slice_index, take, ℕ, ◌%◌, ◌*◌, ◌++◌, ◌+◌, ◌<◌, ◌==◌, ◌≡◌, ◌≤◌, ◌⊎◌}
use Rattle.mc_flash.specs.{Geometry.{Geometry}, declared.flash.FlashError.{FlashError}, declared.flash.Grain.{Grain}, declared.op.Op.{Op}}
use Rattle.mc_flash.specs.{declared.op.Slot.{Slot}, declared.op.Slot.TheVariants.{Primary, Secondary}}
use Rattle.mc_flash.specs.declared.flash.FlashError.TheVariants as errors
use Rattle.mc_flash.specs.declared.flash.Grain.TheVariants as grains
use Rattle.mc_flash.specs.declared.op.Op.TheVariants as ops

-- What a flash holds: the bytes of its two slots.

pub record Content : Type 0 where
  pub primary : List ℕ
  pub secondary : List ℕ

-- The bytes of a slot.
abbrev pub bytes_of : Content → Slot → List ℕ
bytes_of s Primary = s.primary
bytes_of s Secondary = s.secondary

-- One byte of a slot, counted from the slot's start.
abbrev pub byte : Content → Slot → ℕ → ℕ
byte s slot i = slice_index (bytes_of s slot) i

-- The same content with other bytes in a slot.
abbrev pub with_bytes : Content → Slot → List ℕ → Content
with_bytes s Primary bytes = record { primary = bytes; secondary = s.secondary }
with_bytes s Secondary bytes = record { primary = s.primary; secondary = bytes }

-- How many sectors a slot has, and how many bytes.
abbrev pub sectors_of : Geometry → Slot → ℕ
sectors_of g Primary = g.primary
sectors_of g Secondary = g.secondary

abbrev pub size_of : Geometry → Slot → ℕ
size_of g slot = sectors_of g slot * g.sector

-- A content of the slots' lengths.
pub record IsSized (g : Geometry) (s : Content) : Type 0 where
  pub primary : length s.primary ≡ size_of g Primary
  pub secondary : length s.secondary ≡ size_of g Secondary

-- Bytes with others in the place of those from an offset on.
abbrev pub put : List ℕ → ℕ → List ℕ → List ℕ
put bytes at new = take at bytes ++ (new ++ drop (at + length new) bytes)

-- Bytes that may be written: all of them erased.

-- Each byte is 0xff.
abbrev pub is_blank : List ℕ → Bool
is_blank bytes = list_all (λ b. b == 255) bytes

-- What an operation does to a flash: this project's own model of one. An erase makes a sector 0xff; a program puts bytes
-- where every byte is 0xff, and is undefined elsewhere; a copy is the program of the bytes that its source holds.

-- A sector made 0xff.
abbrev pub erased : ℕ → ℕ → List ℕ → List ℕ
erased size sector bytes = put bytes (sector * size) (replicate size 255)

-- Bytes put where each byte is 0xff; undefined elsewhere.
abbrev pub programmed : List ℕ → ℕ → List ℕ → Option (List ℕ)
programmed bytes at new =
    if is_blank (between at (at + length new) bytes) then Some (put bytes at new) else None

-- The content with these bytes in a slot, where they are defined.
abbrev pub in_slot : Content → Slot → Option (List ℕ) → Option Content
in_slot s slot None = None
in_slot s slot (Some bytes) = Some (with_bytes s slot bytes)

-- What an operation leaves, where it is defined.
unfoldable pub apply : Geometry → Op → Content → Option Content
apply g (ops.Erase slot sector) s = Some (with_bytes s slot (erased g.sector sector (bytes_of s slot)))
apply g (ops.Program slot at bytes) s = in_slot s slot (programmed (bytes_of s slot) at bytes)
apply g (ops.Copy from at to offset len) s =
    in_slot s to (programmed (bytes_of s to) offset (between at (at + len) (bytes_of s from)))

-- Whole units in a slot, and at least one.
pub record IsRange (g : Geometry) (slot : Slot) (at len : ℕ) : Type 0 where
  pub inside : at + len ≤ size_of g slot
  pub start : at % g.unit ≡ 0
  pub units : len % g.unit ≡ 0
  pub some : 0 < len

-- In one slot the source of a copy and its target have no byte in common.
abbrev pub AreApart : Slot → ℕ → Slot → ℕ → ℕ → Type 0
AreApart from at to offset len = from ≡ to → (at + len ≤ offset) ⊎ (offset + len ≤ at)

-- The caller's condition of an operation.
abbrev pub CanTry : Geometry → Op → Type 0
CanTry g (ops.Erase slot sector) = sector < sectors_of g slot
CanTry g (ops.Program slot at bytes) = IsRange g slot at (length bytes)
CanTry g (ops.Copy from at to offset len) = IsRange g from at len × IsRange g to offset len × AreApart from at to offset len

-- What bytes become where the operation would give `given`; where it is undefined it is refused, and all is as it was.
abbrev pub Becomes : Option Content → Result (Unit {0}) FlashError → Content → Content → Type 0
Becomes (Some given) (Ok _) old new = new ≡ given
Becomes None (Err errors.NotErased) old new = new ≡ old
Becomes _ _ old new = ⊥

-- How grains and slots are written: this project's own texts.

abbrev pub grain_text : Grain → List ℕ
grain_text grains.Call = codes "call"
grain_text grains.Unit = codes "unit"

abbrev pub slot_text : Slot → List ℕ
slot_text Primary = codes "primary"
slot_text Secondary = codes "secondary"
