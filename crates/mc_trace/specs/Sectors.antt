-- A flash as bytes: the primary slot, and then the secondary.
use Rattle.std.specs.{Io.KnownBytes.{Appends}, List.{between}}
use Rattle.std.specs.Prelude.{Bool, Err, List, None, Ok, Option, Result, Some, [], bytes_eq, codes, decimal, if◌then◌else◌, length, nat_le, nat_lt, suc}
use Rattle.std.specs.Prelude.{take, zero, ℕ, ⊤, ◌&&◌, ◌*◌, ◌++◌, ◌+◌, ◌-◌, ◌==◌, ◌∷◌, ◌≡◌}
use Rattle.mc_boot.specs.{Outcome.{after, left_by}, Plan.{PowerOn, again}}
use Rattle.mc_explore.specs.Schedules.{CannotOccurAt}
use Rattle.mc_flash.specs.{Flash.{Content, bytes_of, is_blank, sectors_of, slot_text}, Geometry.{Geometry, trailer_sectors}, declared.op.Slot.{Slot}}
use Rattle.mc_flash.specs.declared.op.Slot.TheVariants.{Primary, Secondary}
use Rattle.mc_output.specs.Text.{AppendsPrefix}
use Rattle.mc_trace.specs.declared.error.TraceError.{TraceError}
use Rattle.mc_trace.specs.declared.error.TraceError.TheVariants as errors
use Rattle.mc_trace.specs.declared.cells.Cell.{Cell}
use Rattle.mc_trace.specs.declared.cells.Cell.TheVariants as cells
use Rattle.mc_trace.specs.declared.cells.Words.{Words}
use Rattle.mc_trace.specs.declared.cells.Words.TheVariants as words
use Rattle.mc_trace.specs.declared.sectors.Moment.{Moment}
use Rattle.mc_trace.specs.declared.sectors.Moment.TheVariants as moments
use Rattle.mc_trace.specs.declared.sectors.View.{View}

abbrev pub slots_bytes : Content → List ℕ
slots_bytes c = c.primary ++ c.secondary

-- What lies where in a flash: this project's own picture of its sectors.

-- The bytes of a sector of a slot.
abbrev pub sector_of : Geometry → List ℕ → ℕ → List ℕ
sector_of g slot i = between (i * g.sector) (i * g.sector + g.sector) slot

-- The first of n sectors from i on that begins with these bytes.
abbrev pub first_like : Geometry → List ℕ → List ℕ → ℕ → ℕ → Option ℕ
first_like g slot bytes i zero = None
first_like g slot bytes i (suc n) =
    if bytes_eq (take (length bytes) (sector_of g slot i)) bytes then Some i else first_like g slot bytes (i + 1) n

abbrev pub first_of : Option ℕ → Option ℕ → Option (Slot × ℕ)
first_of (Some i) second = Some (Primary, i)
first_of None (Some i) = Some (Secondary, i)
first_of None None = None

-- The first sector of the start's primary that began with these bytes, else of its secondary, else none.
abbrev pub origin_of : Geometry → Content → List ℕ → Option (Slot × ℕ)
origin_of g start bytes = first_of (first_like g start.primary bytes 0 g.primary) (first_like g start.secondary bytes 0 g.secondary)

-- There is a sector of that number among n of a slot, and it begins with these bytes.
abbrev pub is_like : Geometry → List ℕ → List ℕ → ℕ → ℕ → Bool
is_like g slot bytes i n = nat_lt i n && bytes_eq (take (length bytes) (sector_of g slot i)) bytes

abbrev pub second_of : Option ℕ → Option ℕ → Option (Slot × ℕ)
second_of first (Some i) = Some (Secondary, i)
second_of (Some i) None = Some (Primary, i)
second_of None None = None

-- Where bytes in a sector of a slot come from. Of several sectors of the start that began with them it is the same one of the other slot, or
-- the one before it in its own (the first sector has itself there), since a swap moves these there; else the first of the other slot, else of its own.
abbrev pub origin_in : Geometry → Content → Slot → ℕ → List ℕ → Option (Slot × ℕ)
origin_in g start Primary i bytes =
    if is_like g start.secondary bytes i g.secondary then Some (Secondary, i)
    else if is_like g start.primary bytes (i - 1) g.primary then Some (Primary, i - 1)
    else second_of (first_like g start.primary bytes 0 g.primary) (first_like g start.secondary bytes 0 g.secondary)
origin_in g start Secondary i bytes =
    if is_like g start.primary bytes i g.primary then Some (Primary, i)
    else if is_like g start.secondary bytes (i - 1) g.secondary then Some (Secondary, i - 1)
    else origin_of g start bytes

-- So many of some bytes come before the blank ones at their end.
abbrev pub used : List ℕ → ℕ
used [] = 0
used (b ∷ bs) = if used bs == 0 && b == 255 then 0 else suc (used bs)

abbrev pub half_cell : Option (Slot × ℕ) → Cell
half_cell (Some (slot, i)) = cells.Half slot i
half_cell None = cells.Other

-- A sector of a slot is one of its trailer.
abbrev pub is_in_trailer : Geometry → Slot → ℕ → Bool
is_in_trailer g slot i = nat_le (sectors_of g slot - trailer_sectors g) i

-- A sector that holds neither nothing nor what one of the start did: one of the trailer; or one that begins with what one of the start
-- began with, and is blank then; or anything else.
abbrev pub other_cell : Geometry → Content → Slot → ℕ → List ℕ → Cell
other_cell g start slot i bytes =
    if is_in_trailer g slot i then cells.Trailer else half_cell (origin_in g start slot i (take (used bytes) bytes))

abbrev pub held_or : Option (Slot × ℕ) → Cell → Cell
held_or (Some (slot, i)) rest = cells.Held slot i
held_or None rest = rest

-- What lies in a sector of a slot: nothing; what it held itself at the start; what another held; or something else.
unfoldable pub cell_of : Geometry → Content → Slot → ℕ → List ℕ → Cell
cell_of g start slot i bytes =
    if is_blank bytes then cells.Blank
    else if bytes_eq (sector_of g (bytes_of start slot) i) bytes then cells.Held slot i
    else held_or (origin_in g start slot i bytes) (other_cell g start slot i bytes)

-- The same where no start is known.
abbrev pub plain_cell : Geometry → Slot → ℕ → List ℕ → Cell
plain_cell g slot i bytes = if is_blank bytes then cells.Blank else if is_in_trailer g slot i then cells.Trailer else cells.Other

abbrev pub cell_by : Geometry → Option Content → Slot → ℕ → List ℕ → Cell
cell_by g (Some start) slot i bytes = cell_of g start slot i bytes
cell_by g None slot i bytes = plain_cell g slot i bytes

abbrev pub letter : Slot → List ℕ
letter Primary = codes "a"
letter Secondary = codes "b"

-- The word for it.
abbrev pub cell_word : Words → Cell → List ℕ
cell_word kind cells.Blank = codes "-"
cell_word kind (cells.Held slot i) = letter slot ++ decimal i
cell_word words.All cells.Trailer = codes "t"
cell_word words.All (cells.Half slot i) = letter slot ++ (decimal i ++ codes "~")
cell_word words.All cells.Other = codes "*"
cell_word words.Plain cells.Trailer = codes "*"
cell_word words.Plain (cells.Half slot i) = codes "*"
cell_word words.Plain cells.Other = codes "*"

abbrev pub sector_word : Words → Geometry → Content → Slot → ℕ → List ℕ → List ℕ
sector_word kind g start slot i bytes = cell_word kind (cell_of g start slot i bytes)

-- A word for each of n sectors from i on, each after a space.
abbrev pub sector_words : Words → Geometry → Content → Slot → List ℕ → ℕ → ℕ → List ℕ
sector_words kind g start slot bytes i zero = []
sector_words kind g start slot bytes i (suc n) =
    codes " " ++ (sector_word kind g start slot i (sector_of g bytes i) ++ sector_words kind g start slot bytes (i + 1) n)

-- The line of a slot that holds these bytes.
abbrev pub line_of : Words → Geometry → Content → List ℕ → Slot → List ℕ
line_of kind g start bytes slot = slot_text slot ++ (sector_words kind g start slot bytes 0 (sectors_of g slot) ++ 10 ∷ [])

-- Both slots of a flash, by the sectors of the start.
abbrev pub picture : Words → Geometry → Content → Content → List ℕ
picture kind g start s = line_of kind g start s.primary Primary ++ line_of kind g start s.secondary Secondary

-- The flash that is shown: when the last cut falls, or what the last boot leaves.
abbrev pub IsAt : Moment → PowerOn → List ℕ → Content → Type 0
IsAt moments.AtCut x cuts u = after x cuts ≡ Some u
IsAt moments.AtEnd x cuts z = (u : Content) × (after x cuts ≡ Some u) × (left_by (again x u) ≡ Some z)

-- What a picture of a flash leaves of a writer.

-- Why nothing is made of a schedule: from that cut on it can't occur, or an allocation failed.
abbrev pub RefusesWalk : PowerOn → List ℕ → TraceError → Type 0
RefusesWalk x cuts (errors.CannotOccur index) = CannotOccurAt x cuts index
RefusesWalk x cuts errors.Memory = ⊤
RefusesWalk x cuts errors.Write = ⊥

-- The picture of that flash is made, or there is none.
abbrev pub PicturesAs : {A : Type 0} → View → PowerOn → List ℕ → (A → List ℕ) → Result A TraceError → Type 0
PicturesAs v x cuts text (Ok made) = (u : Content) × IsAt v.moment x cuts u × (text made ≡ picture v.words x.geometry x.content u)
PicturesAs v x cuts text (Err e) = RefusesWalk x cuts e

-- It is out, or a beginning of it where a write failed; else nothing is written.
abbrev pub Pictures : {A : Type 0} → View → PowerOn → List ℕ → Option (List ℕ) → Option (List ℕ) → Result A TraceError → Type 0
Pictures v x cuts old new (Ok _) = (u : Content) × IsAt v.moment x cuts u × Appends old new (picture v.words x.geometry x.content u)
Pictures v x cuts old new (Err errors.Write) = (u : Content) × IsAt v.moment x cuts u × AppendsPrefix old new (picture v.words x.geometry x.content u)
Pictures v x cuts old new (Err (errors.CannotOccur index)) = CannotOccurAt x cuts index × (new ≡ old)
Pictures v x cuts old new (Err errors.Memory) = new ≡ old
