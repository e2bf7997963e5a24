-- What the texts of cursors are made of: fields with a colon after each.
use Rattle.std.specs.{Borrow.{Bor}, Prelude.{Err, IsSomeAnd, List, Ok, Option, Result, codes, decimal, length, ℕ, ◌++◌, ◌≡◌, ◌≤◌}}
use Rattle.hex.specs.Hex.{IsBytes, encode_lower}
use Rattle.mc_boot.specs.Plan.{PowerOn}
use Rattle.mc_flash.specs.{Flash.{grain_text}, declared.flash.Grain.{Grain}}
use Rattle.mc_start.specs.{Start.{IsSchedule, schedule_text, start_digest}, declared.cursor.Cursor.{Cursor}, declared.cursor.CursorError.{CursorError}}
use Rattle.mc_start.specs.declared.cursor_fields.StartField.{StartField}
use Rattle.mc_trailer.specs.{Tables.{profile_text}, declared.tables.Profile.{Profile}}
use Rattle.mc_flash.specs.declared.flash.Grain.TheVariants as grains
use Rattle.mc_trailer.specs.declared.tables.Profile.TheVariants as profiles

-- The rules: the grain and the profile.
abbrev pub rules_text : Grain → Profile → List ℕ
rules_text grain profile = grain_text grain ++ (codes ":" ++ (profile_text profile ++ codes ":"))

-- The digest of the start in 64 digits, the most cuts, and what follows them.
abbrev pub start_text : List ℕ → ℕ → List ℕ → List ℕ
start_text digest bound rest = encode_lower digest ++ (codes ":" ++ (decimal bound ++ (codes ":" ++ rest)))

-- A digest of 32 bytes, and at most 16 cuts.
pub record IsStartField (field : StartField) : Type 0 where
  pub digest : length field.digest ≡ 32
  pub bytes : IsBytes field.digest
  pub at_most : field.bound ≤ 16

-- A value was read from the beginning of a text, and this is left of it.
abbrev pub IsRead : {A : Type 0} → Option (A × Bor (List ℕ)) → A → List ℕ → Type 0
IsRead result value rest = IsSomeAnd result (λ found. (found.0 ≡ value) × (found.1.now ≡ rest))

-- Where to go on with an exploration, as text: this project's own.

-- The rules. Whole calls and the first profile have a form of their own.
abbrev pub head_text : Grain → Profile → List ℕ
head_text grains.Call profiles.One = codes "mc1:"
head_text grain profile = codes "mc2:" ++ rules_text grain profile

-- Then the digest of the start in 64 digits, the most cuts, and the schedule.
abbrev pub cursor_text : Cursor → List ℕ
cursor_text c = head_text c.rules.grain c.rules.profile ++ start_text c.digest c.bound (schedule_text c.schedule)

-- The cursor that goes on after a schedule, of a start and at most so many cuts.
abbrev pub cursor_of : PowerOn → ℕ → List ℕ → Cursor
cursor_of start bound l = record { rules = start.rules; digest = start_digest start; bound = bound; schedule = l }

-- A cursor of 32 bytes, at most 16 cuts, and a schedule that can be printed.
pub record IsCursor (c : Cursor) : Type 0 where
  pub digest : length c.digest ≡ 32
  pub bytes : IsBytes c.digest
  pub at_most : c.bound ≤ 16
  pub schedule : IsSchedule c.schedule

-- A text is read as the cursor of that text, and is refused where it is that of none.
abbrev pub ReadsCursor : List ℕ → Result Cursor CursorError → Type 0
ReadsCursor text (Ok c) = text ≡ cursor_text c
ReadsCursor text (Err _) = (c : Cursor) → IsCursor c → text ≡ cursor_text c → ⊥
