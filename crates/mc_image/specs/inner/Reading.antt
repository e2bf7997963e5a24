-- What a header's fields, a room for the first bytes, and a walk along entries say of the bytes that came so far.
use Rattle.std.specs.Prelude.{List, Option, [], drop, is_none, is_some, length, nat_lt, not, take, true, ℕ, ◌++◌, ◌+◌, ◌<◌, ◌==◌, ◌||◌, ◌∷◌, ◌≡◌, ◌≢◌, ◌≤◌}
use Rattle.mc_image.specs.{Image.{digests, entries_in, entries_of, u16_at, u32_at, version_in}, Valid.{digest_fault, fault_if, ◌<+>◌}}
use Rattle.mc_image.specs.{declared.areas.DigestValue.{DigestValue}, declared.areas.Found.{Found}, declared.areas.EntryPart.{EntryPart}}
use Rattle.mc_image.specs.{declared.areas.ProtectedArea.{ProtectedArea}, declared.areas.EntryScan.{EntryScan}, declared.error.ImageError.{ImageError}}
use Rattle.mc_image.specs.{declared.error.ImageError.TheVariants.{BadTlvLength, BadTlvMagic}, declared.gather.Gather.{Gather}, declared.header.Header.{Header}}
use Rattle.mc_image.specs.declared.areas.Found.TheVariants as found
use Rattle.mc_image.specs.declared.areas.EntryPart.TheVariants as parts_of

-- What the heads of an image and of its plain area say by themselves.

-- the fields of a header that stands in the bytes
pub record IsHeader (h : Header) (bytes : List ℕ) : Type 0 where
  pub size : h.size ≡ u16_at 8 bytes
  pub protected : h.protected ≡ u16_at 10 bytes
  pub payload : h.payload ≡ u32_at 12 bytes
  pub version : h.version ≡ version_in bytes

-- what is wrong with a plain area by its first four bytes
unfoldable pub head_fault : List ℕ → Option ImageError
head_fault bytes =
    fault_if (nat_lt (length bytes) 4 || not (u16_at 0 bytes == 0x6907)) BadTlvMagic
    <+> fault_if (nat_lt (u16_at 2 bytes) 4) BadTlvLength

-- what is wrong with a plain area by the bytes after these
unfoldable pub entries_fault : List ℕ → Option ImageError
entries_fault bytes =
    fault_if (is_none (entries_of bytes)) BadTlvLength
    <+> digest_fault (digests (entries_in bytes))

-- The bytes that a room holds.

-- the first of its bytes, as many as it counts
unfoldable pub held : {n : ℕ} → Gather n → List ℕ
held g = take g.count g.bytes

-- What a walk along the entries of an area, which come in pieces, says of the bytes so far.

-- the bytes of an entry end in its value, of which so many are left
pub record IsInValue (begun : List ℕ) (left : ℕ) : Type 0 where
  pub head : 4 ≤ length begun
  pub rest : length begun + left ≡ 4 + u16_at 2 begun

-- the value of the entry that is begun after so many bytes, as far as it has come: its first 33 bytes are kept
pub record IsKept (v : DigestValue) (before : ℕ) (begun : List ℕ) : Type 0 where
  pub start : v.start ≡ before + 4
  pub bytes : held v.bytes ≡ take 33 (drop 4 begun)

-- the bytes of the entry that is begun after so many bytes: its head, or all of it with no bytes or more of its value left
abbrev pub IsAt : EntryPart → ℕ → List ℕ → Type 0
IsAt (parts_of.Head head) before begun = (length begun < 4) × (held head ≡ begun)
IsAt (parts_of.Value left) before begun = IsInValue begun left × (u16_at 0 begun ≢ 0x10)
IsAt (parts_of.Digest left value) before begun = IsInValue begun left × (u16_at 0 begun ≡ 0x10) × IsKept value before begun

-- a digest's entry after so many bytes is complete
pub record IsEntered (v : DigestValue) (before : ℕ) (begun : List ℕ) : Type 0 where
  pub value : IsInValue begun 0
  pub kind : u16_at 0 begun ≡ 0x10
  pub kept : IsKept v before begun

-- something of the entry is left
abbrev pub IsOpen : EntryPart → Type 0
IsOpen (parts_of.Head head) = Unit {0}
IsOpen (parts_of.Value left) = 0 < left
IsOpen (parts_of.Digest left value) = 0 < left

-- the one value of the digest's type in whole entries: where it starts, and its first 33 bytes
pub record IsOne (v : DigestValue) (whole : List ℕ) : Type 0 where
  pub value : List ℕ
  pub one : digests (entries_in whole) ≡ value ∷ []
  pub bytes : held v.bytes ≡ take 33 value
  pub prefix : List ℕ
  pub back : List ℕ
  pub stands : whole ≡ prefix ++ (value ++ back)
  pub start : v.start ≡ length prefix

-- what was found in whole entries
abbrev pub Finds : Found → List ℕ → Type 0
Finds found.Nothing whole = digests (entries_in whole) ≡ []
Finds (found.One v) whole = IsOne v whole
Finds found.Many whole = 2 ≤ length (digests (entries_in whole))

-- the bytes so far are whole entries and the entry that is begun, which may be complete
pub record Reaches (w : EntryScan) (bytes : List ℕ) : Type 0 where
  pub whole : List ℕ
  pub begun : List ℕ
  pub split : bytes ≡ whole ++ begun
  pub filled : is_some (entries_of whole) ≡ true
  pub scanned : w.scanned ≡ length bytes
  pub at : IsAt w.part (length whole) begun
  pub found : Finds w.found whole

-- the same, and the entry that is begun is not complete
pub record Scans (w : EntryScan) (bytes : List ℕ) : Type 0 where
  pub reaches : Reaches w bytes
  pub more : IsOpen w.part

-- the bytes of an area so far are its head and the entries after it
pub record Follows (a : ProtectedArea) (bytes : List ℕ) : Type 0 where
  pub head : held a.head ≡ take 4 bytes
  pub scan : Scans a.scan (drop 4 bytes)

-- a part of a piece is taken, one byte at least, and what held of the bytes before it holds of those with it
pub record Goes (old new : List ℕ → Type 0) (piece rest : List ℕ) : Type 0 where
  pub taken : List ℕ
  pub split : piece ≡ taken ++ rest
  pub some : 0 < length taken
  pub holds : (bytes : List ℕ) → old bytes → new (bytes ++ taken)
