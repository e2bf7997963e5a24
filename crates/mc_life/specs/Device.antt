-- A device as callers see it, what can happen to it, what is refused of that, and how often its sectors were erased (docs/LIFE.md).
use Rattle.std.specs.{Int.{next_multiple_of}, List.{between}}
use Rattle.std.specs.Prelude.{Bool, IfSome, List, None, Option, Some, [], codes, decimal, drop, false, get_or, if◌then◌else◌, length, map, min, replicate, slice_get, suc, take, true, zero, ℕ, ⊤, ◌%◌, ◌++◌, ◌+◌, ◌-◌, ◌<◌, ◌^◌, ◌∷◌, ◌≡◌, ◌≢◌, ◌≤◌, ◌⊎◌}
use Rattle.mc_boot.specs.{Life.{Event, Lives, Moment, all_erases, boot, cut}, Outcome.{Report, after, at, cut_at, ops_of, outcome_of}, Torn.{IsTorn, roughly}}
use Rattle.mc_boot.specs.Plan.{PowerOn, again, image_ok_write, powered}
use Rattle.mc_flash.specs.{Flash.{Content, apply, is_blank, put, sectors_of, size_of, with_bytes}, Geometry.{Geometry}, Usage.{Seen}}
use Rattle.mc_flash.specs.{declared.flash.FlashError.{FlashError}, declared.op.Op.{Op}, declared.op.Op.TheVariants.{Erase, Program}, declared.op.Slot.{Slot}}
use Rattle.mc_flash.specs.declared.op.Slot.TheVariants.{Primary, Secondary}
use Rattle.mc_life.specs.{declared.error.EventError.{EventError}, declared.request.Request.{Request}}
use Rattle.mc_start.specs.Start.{Started}
use Rattle.mc_tear.specs.{Cases.{is_case, torn}, declared.reading.Reading.{Reading}}
use Rattle.mc_tear.specs.declared.torn.Erasing.TheVariants as erasings
use Rattle.mc_trailer.specs.{Tables.{is_set}, Trailer.{magic_bytes, one_unit, place, room, trailer_of}, declared.tables.Rules.{Rules}}
use Rattle.mc_life.specs.declared.error.EventError.TheVariants as errors
use Rattle.mc_trailer.specs.declared.places.Field.TheVariants as field
use Rattle.mc_flash.specs.declared.flash.FlashError.TheVariants as flashes
use Rattle.mc_life.specs.declared.request.Request.TheVariants as requests

-- Power cuts, one after another, and the boot after them.

-- The power is lost after so many operations and leaves t; or the boot makes no more than that.
abbrev pub Cuts : PowerOn → ℕ → Bool → Content → Type 0
Cuts x count true t = cut_at x count ≡ Some t
Cuts x count false t = cut_at x count ≡ None

-- What is reported of a boot from there, where something is left.
abbrev pub from : {A : Type 0} → PowerOn → (PowerOn → List A) → Option Content → List A
from x beyond None = []
from x beyond (Some t) = beyond (again x t)

-- The operations of boots that are cut.
abbrev pub cut_ops : PowerOn → List ℕ → List Op
cut_ops x [] = []
cut_ops x (c ∷ cuts) = take c (ops_of x) ++ from x (λ y. cut_ops y cuts) (cut_at x c)

-- And those of the boot after them.
abbrev pub boot_ops : PowerOn → List ℕ → List Op
boot_ops x cuts = cut_ops x cuts ++ from x ops_of (after x cuts)

-- The cuts before that one can occur, one after another, and the one there can't.
pub record FailsAt (x : PowerOn) (cuts : List ℕ) (index : ℕ) : Type 0 where
  pub left : Content
  pub before : after x (take index cuts) ≡ Some left
  pub cut : ℕ
  pub there : slice_get cuts index ≡ Some cut
  pub fails : cut_at (again x left) cut ≡ None

-- The boot after the cuts has that outcome.
pub record EndsAs (x : PowerOn) (cuts : List ℕ) (outcome : Report) : Type 0 where
  pub left : Content
  pub occurs : after x cuts ≡ Some left
  pub outcome_is : outcome_of (again x left) ≡ Some outcome

-- The boot comes to operation number count, before which it leaves s.
pub record ComesTo (x : PowerOn) (count : ℕ) (op : Op) (s : Content) : Type 0 where
  pub next : slice_get (ops_of x) count ≡ Some op
  pub reached : at x count ≡ Some s

-- It comes to its next operation, if there is one, or makes no more than so many.
abbrev pub Stops : PowerOn → ℕ → Content → Option Op → Type 0
Stops x count s None = cut_at x count ≡ None
Stops x count s (Some op) = ComesTo x count op s

-- What is left of s where power is lost within an operation and the next boot reads so: as a gentle erase leaves it, or, where that is no case
-- of one, as a rough one does (docs/FORMAT.md, "Torn operations"). None where it is no case of either.
abbrev pub torn_so : Geometry → Op → Content → Reading → Option Content
torn_so g op s r =
    if is_case erasings.Gentle g op s r then Some (torn erasings.Gentle g op s r)
    else if is_case erasings.Rough g op s r then Some (torn erasings.Rough g op s r)
    else None

-- Power is lost within operation number count, the next boot reads so, and t is left, as the operation may leave it.
pub record LosesSo (x : PowerOn) (count : ℕ) (r : Reading) (t : Content) : Type 0 where
  pub op : Op
  pub before : Content
  pub comes : ComesTo x count op before
  pub leaves : torn_so x.geometry op before r ≡ Some t
  pub is_torn : IsTorn roughly x.geometry op before t

-- It is no case.
pub record NoCase (x : PowerOn) (count : ℕ) (r : Reading) : Type 0 where
  pub op : Op
  pub before : Content
  pub comes : ComesTo x count op before
  pub none : torn_so x.geometry op before r ≡ None

-- How often each sector was erased. Counts stay at the greatest 64-bit number.

-- One count for each sector of a slot.
pub record Counts : Type 0 where
  pub primary : List ℕ
  pub secondary : List ℕ

-- Each count is a 64-bit number.
abbrev pub AreCounts : List ℕ → Type 0
AreCounts ns = (i d : ℕ) → i < length ns → get_or ns i d < 2 ^ 64

abbrev pub none_worn : Geometry → Counts
none_worn g = record { primary = replicate g.primary 0; secondary = replicate g.secondary 0 }

abbrev pub counts_of : Counts → Slot → List ℕ
counts_of w Primary = w.primary
counts_of w Secondary = w.secondary

-- The counts of the sectors of a slot from a sector on, after more operations.
abbrev pub worn_from : Slot → ℕ → List ℕ → List Op → List ℕ
worn_from slot sector [] ops = []
worn_from slot sector (n ∷ ns) ops = min (2 ^ 64 - 1) (n + all_erases slot sector ops) ∷ worn_from slot (sector + 1) ns ops

-- All counts after more operations.
abbrev pub worn : Counts → List Op → Counts
worn w ops = record { primary = worn_from Primary 0 w.primary ops; secondary = worn_from Secondary 0 w.secondary ops }

-- The most erases of a sector, and the first sector that was erased as often.
pub record Most : Type 0 where
  pub count : ℕ
  pub sector : ℕ

pub record IsMost (counts : List ℕ) (m : Most) : Type 0 where
  pub value : get_or counts m.sector 0 ≡ m.count
  pub greatest : (i : ℕ) → i < length counts → get_or counts i 0 ≤ m.count
  pub first : (i : ℕ) → i < m.sector → get_or counts i 0 < m.count

abbrev pub sum_of : List ℕ → ℕ
sum_of [] = 0
sum_of (n ∷ ns) = n + sum_of ns

-- All erases of a slot.
abbrev pub total : List ℕ → ℕ
total counts = min (2 ^ 64 - 1) (sum_of counts)

-- A slot's line: the most erases of a sector, that sector, and all erases.
abbrev pub slot_wear : List ℕ → Most → List ℕ → List ℕ
slot_wear name m counts =
    codes "wear " ++ (name ++ (codes " " ++ (decimal m.count ++ (codes " " ++ (decimal m.sector ++ (codes " " ++ (decimal (total counts) ++ codes "\n")))))))

abbrev pub wear_text : Most → Most → Counts → List ℕ
wear_text p q w = slot_wear (codes "primary") p w.primary ++ slot_wear (codes "secondary") q w.secondary

-- Of the text of these counts, with the most of each slot, that holds.
abbrev pub OfWear : Counts → (List ℕ → Type 0) → Type 0
OfWear w P = (p q : Most) × IsMost w.primary p × IsMost w.secondary q × P (wear_text p q w)

-- A device as callers see it, and the events that lead from where it stands to where it stands later.

-- Its flash, the rules of its boots, whether an image runs, and how often its sectors were erased.
pub record Standing : Type 0 where
  pub seen : Seen
  pub rules : Rules
  pub runs : Bool
  pub wear : Counts

-- A device that was just made of a start: the power is off, and no sector was erased.
pub record IsNew (s : Started) (d : Standing) : Type 0 where
  pub geometry : d.seen.geometry ≡ s.geometry
  pub content : d.seen.content ≡ s.content
  pub rules : d.rules ≡ s.rules
  pub runs : d.runs ≡ false
  pub wear : d.wear ≡ none_worn s.geometry

-- Its moment, where this is what its flash contained when it last rested.
abbrev pub moment : Standing → Content → Moment
moment d rested = record { content = d.seen.content; rested = rested; runs = d.runs }

-- These events lead from d to e, whatever d last rested on; and of the operations that happened these are all that erase.
pub record Goes (d : Standing) (events : List Event) (ops : List Op) (e : Standing) : Type 0 where
  pub lives : (rested : Content) → (later : Content) × Lives d.rules d.seen.geometry (moment d rested) events (moment e later)
  pub rules : e.rules ≡ d.rules
  pub geometry : e.seen.geometry ≡ d.seen.geometry
  pub wear : e.wear ≡ worn d.wear ops

-- Power is lost within operation number count of the boot from d, the next boot reads so, and e is left. What erases a sector and is torn
-- wears it as the whole operation does.
pub record IsTornTo (d : Standing) (count : ℕ) (r : Reading) (e : Standing) : Type 0 where
  pub loses : LosesSo (powered d.rules d.seen) count r e.seen.content
  pub off : e.runs ≡ false
  pub rules : e.rules ≡ d.rules
  pub geometry : e.seen.geometry ≡ d.seen.geometry
  pub wear : e.wear ≡ worn d.wear (take (count + 1) (ops_of (powered d.rules d.seen)))

-- What a running image does to the flash.

-- The erases of so many sectors of the secondary, the last first.
abbrev pub wipes : ℕ → List Op
wipes zero = []
wipes (suc n) = Erase Secondary n ∷ wipes n

-- A secondary all of whose bytes are 0xff.
abbrev pub wiped : Geometry → List ℕ
wiped g = replicate (size_of g Secondary) 255

-- What is downloaded of a file: all of it, or as many bytes as come until it is stopped.
abbrev pub loaded : List ℕ → Option ℕ → List ℕ
loaded file None = file
loaded file (Some n) = take n file

-- Bytes with 0xff after them, up to a whole number of units.
abbrev pub padded : ℕ → List ℕ → List ℕ
padded unit bytes = bytes ++ replicate (next_multiple_of (length bytes) unit - length bytes) 255

-- What is written of a part of a file: so many bytes from an offset on, padded to whole units.
abbrev pub part_of : Geometry → List ℕ → ℕ → ℕ → List ℕ
part_of g file from count = padded g.unit (take count (drop from file))

-- Whether each byte of the secondary is 0xff where these bytes are written.
abbrev pub is_free : Content → ℕ → List ℕ → Bool
is_free s at bytes = is_blank (between at (at + length bytes) s.secondary)

-- The secondary once that part stands at the same offset there.
abbrev pub with_part : Geometry → List ℕ → ℕ → ℕ → List ℕ → List ℕ
with_part g file from count bytes = put bytes from (part_of g file from count)

-- The secondary once it asks for a test.
abbrev pub with_magic : Geometry → List ℕ → List ℕ
with_magic g bytes = put bytes (place g Secondary field.Magic) magic_bytes

-- And once it asks for an upgrade for good.
abbrev pub with_image_ok : Geometry → List ℕ → List ℕ
with_image_ok g bytes = put bytes (place g Secondary field.ImageOk) (one_unit g 1)

-- The secondary once that was requested.
abbrev pub asked : Geometry → Request → List ℕ → List ℕ
asked g requests.Test bytes = with_magic g bytes
asked g requests.Perm bytes = with_image_ok g (with_magic g bytes)

-- The write that requests a test.
abbrev pub magic_write : Geometry → Op
magic_write g = Program Secondary (place g Secondary field.Magic) magic_bytes

-- These bytes stand at the primary's image-ok.
abbrev pub marked : Geometry → Content → List ℕ → Content
marked g s bytes = with_bytes s Primary (put s.primary (place g Primary field.ImageOk) bytes)

-- Boots that are cut, and one that is left alone.
abbrev pub boots : List ℕ → List Event
boots cuts = map cut cuts ++ boot ∷ []

-- What is refused of an event, where it can't happen. For want of memory any may be.

-- What a flash refuses.
abbrev pub of_flash : FlashError → EventError
of_flash flashes.NotErased = errors.NotErased
of_flash flashes.Memory = errors.Memory

-- The first cut that can't occur.
abbrev pub RefusesCuts : PowerOn → List ℕ → EventError → Type 0
RefusesCuts x cuts (errors.CannotOccur index) = FailsAt x cuts index
RefusesCuts x cuts errors.Memory = ⊤
RefusesCuts x cuts _ = ⊥

-- The boot makes no such operation; or it does, and it is no case of that.
abbrev pub RefusesTear : PowerOn → ℕ → Reading → EventError → Type 0
RefusesTear x count r (errors.CannotOccur index) = FailsAt x (count ∷ []) index
RefusesTear x count r errors.NoCase = NoCase x count r
RefusesTear x count r errors.Memory = ⊤
RefusesTear x count r _ = ⊥

-- No image runs.
abbrev pub RefusesConfirm : Standing → EventError → Type 0
RefusesConfirm d errors.NotRunning = d.runs ≡ false
RefusesConfirm d errors.Memory = ⊤
RefusesConfirm d _ = ⊥

-- No image runs; or it does, and the secondary has no such sector.
abbrev pub RefusesErase : Standing → ℕ → EventError → Type 0
RefusesErase d sector errors.NotRunning = d.runs ≡ false
RefusesErase d sector errors.NoSector = (d.runs ≡ true) × (sectors_of d.seen.geometry Secondary ≤ sector)
RefusesErase d sector errors.Memory = ⊤
RefusesErase d sector _ = ⊥

-- No image runs; or the bytes are not as many as the secondary has.
abbrev pub RefusesStore : Standing → List ℕ → EventError → Type 0
RefusesStore d bytes errors.NotRunning = d.runs ≡ false
RefusesStore d bytes errors.NotThatLong = (d.runs ≡ true) × (length bytes ≢ size_of d.seen.geometry Secondary)
RefusesStore d bytes errors.Memory = ⊤
RefusesStore d bytes _ = ⊥

-- The file has as many bytes as are downloaded, and the secondary holds them.
pub record FitsDownload (d : Standing) (file : List ℕ) (count : Option ℕ) : Type 0 where
  pub in_file : IfSome count (λ n. n ≤ length file)
  pub in_slot : length (loaded file count) ≤ size_of d.seen.geometry Secondary

-- No image runs; or there are not that many bytes, or more than the secondary holds.
abbrev pub RefusesDownload : Standing → List ℕ → Option ℕ → EventError → Type 0
RefusesDownload d file count errors.NotRunning = d.runs ≡ false
RefusesDownload d file count errors.NotThatLong = (d.runs ≡ true) × (FitsDownload d file count → ⊥)
RefusesDownload d file count errors.Memory = ⊤
RefusesDownload d file count _ = ⊥

-- A download that may happen.
pub record AllowsDownload (d : Standing) (file : List ℕ) (count : Option ℕ) : Type 0 where
  pub runs : d.runs ≡ true
  pub fits : FitsDownload d file count

-- The file has those bytes, and the secondary holds them at the same offset.
pub record FitsPart (d : Standing) (file : List ℕ) (from count : ℕ) : Type 0 where
  pub in_file : from + count ≤ length file
  pub in_slot : from + count ≤ size_of d.seen.geometry Secondary

-- It begins with a unit.
abbrev pub IsAligned : Standing → ℕ → Type 0
IsAligned d from = from % d.seen.geometry.unit ≡ 0

-- Nothing is written yet where it writes.
abbrev pub IsFree : Standing → List ℕ → ℕ → ℕ → Type 0
IsFree d file from count = is_free d.seen.content from (part_of d.seen.geometry file from count) ≡ true

-- No image runs; or else there are not that many bytes, in the file or in the secondary; or else its first byte begins no unit; or else
-- something is written already where it writes.
abbrev pub RefusesWrite : Standing → List ℕ → ℕ → ℕ → EventError → Type 0
RefusesWrite d file from count errors.NotRunning = d.runs ≡ false
RefusesWrite d file from count errors.NotThatLong = (d.runs ≡ true) × (FitsPart d file from count → ⊥)
RefusesWrite d file from count errors.NotAligned = (d.runs ≡ true) × FitsPart d file from count × (IsAligned d from → ⊥)
RefusesWrite d file from count errors.NotErased =
    (d.runs ≡ true) × FitsPart d file from count × IsAligned d from × (IsFree d file from count → ⊥)
RefusesWrite d file from count errors.Memory = ⊤
RefusesWrite d file from count _ = ⊥

-- A write that may happen.
pub record AllowsWrite (d : Standing) (file : List ℕ) (from count : ℕ) : Type 0 where
  pub runs : d.runs ≡ true
  pub fits : FitsPart d file from count
  pub aligned : IsAligned d from
  pub free : IsFree d file from count

-- A write of a request is refused: that of the magic, or, for good, that of image-ok after it.
abbrev pub AskFails : Geometry → Content → Request → FlashError → Type 0
AskFails g s request flashes.NotErased =
    (apply g (magic_write g) s ≡ None)
    ⊎ ((request ≡ requests.Perm) × (apply g (image_ok_write g Secondary) (with_bytes s Secondary (with_magic g s.secondary)) ≡ None))
AskFails g s request flashes.Memory = ⊤

-- No image runs; or something is written already where it writes.
abbrev pub RefusesRequest : Standing → Request → EventError → Type 0
RefusesRequest d request errors.NotRunning = d.runs ≡ false
RefusesRequest d request errors.NotErased = (d.runs ≡ true) × AskFails d.seen.geometry d.seen.content request flashes.NotErased
RefusesRequest d request errors.Memory = ⊤
RefusesRequest d request _ = ⊥

-- No image runs; or no swap is finished, or there is more than its room.
abbrev pub RefusesMark : Standing → List ℕ → EventError → Type 0
RefusesMark d bytes errors.NotRunning = d.runs ≡ false
RefusesMark d bytes errors.CannotMark =
    (d.runs ≡ true)
    × ((is_set (trailer_of d.seen.geometry d.seen.content Primary).copy_done ≡ false) ⊎ (room field.ImageOk < length bytes))
RefusesMark d bytes errors.Memory = ⊤
RefusesMark d bytes _ = ⊥
