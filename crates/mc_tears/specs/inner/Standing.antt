-- Where the boot from a start has come to, and what is known of it.
use Rattle.std.specs.{Io.KnownBytes.{Appends}, Prelude.{Bool, Err, List, Ok, Option, Result, Some, [], drop, false, if◌then◌else◌, length, slice_get, slice_index, true, ℕ, ⊤, ◌+◌, ◌<◌, ◌≡◌, ◌≢◌, ◌≤◌}}
use Rattle.mc_boot.specs.{Boot.{left_of, progress}, Outcome.{ops_of}, Plan.{PowerOn, again}, declared.boot.Boot.{Boot}}
use Rattle.mc_explore.specs.{Boots.{at_cut}, inner.OneRound.{IsSummary, most_of, round_model}}
use Rattle.mc_flash.specs.{Flash.{Content, IsSized, apply, size_of}, Geometry.{Geometry, IsLayout}, Usage.{Allows, Counts, HasRoom, Keeps, LeaveRoom, Seen, Stays, no_counts, plus}}
use Rattle.mc_flash.specs.{declared.op.Op.{Op}, declared.op.Slot.{Slot}}
use Rattle.mc_image.specs.Image.{IsBytes}
use Rattle.mc_output.specs.Text.{AppendsPrefix}
use Rattle.mc_tear.specs.{Cases.{is_case, torn}, declared.reading.Reading.{Reading}, declared.torn.Erasing.{Erasing}, inner.Room.{Applies, tear_counts}}
use Rattle.mc_tears.specs.Ends.{end_of, ends_right, is_busy, left_of as left, shown_end}
use Rattle.mc_tears.specs.Tears.{case_end, case_text, cut_end}
use Rattle.mc_tears.specs.{declared.cases.Asked.{Asked}, declared.cases.Between.{Between}, declared.end.End.{End}, declared.end.Whole.{Whole}, declared.error.TearError.{TearError}, declared.tears.Here.{Here}}
use Rattle.mc_tears.specs.declared.error.TearError.TheVariants as errors
use Rattle.mc_walk.specs.TreeModel.{IsAt}

-- What the boot from x leaves has the slots' lengths, and is made of bytes.
pub record LeavesBytes (x : PowerOn) : Type 0 where
  pub sized : IsSized x.geometry (left x)
  pub primary : IsBytes (left x).primary
  pub secondary : IsBytes (left x).secondary

-- The boot from x was run: its summary, and whether what it leaves says that a swap is under way.
pub record IsWhole (x : PowerOn) (whole : Whole) : Type 0 where
  pub summary : IsSummary x whole.summary
  pub busy : whole.busy ≡ is_busy x.geometry (left x)
  pub bytes : LeavesBytes x

-- Torn bytes are put in, and a boot is run.
abbrev pub case_counts : PowerOn → Counts
case_counts x = plus (tear_counts x.geometry) (most_of x)

-- A buffer has room for the bytes of a slot.
abbrev pub HoldsSlot : Geometry → ℕ → Type 0
HoldsSlot g capacity = (slot : Slot) → size_of g slot ≤ capacity

-- The flash stands before that operation of the boot from x, and there is room for a case of it.
pub record StandsBefore (x : PowerOn) (b : Between) (f : Seen) : Type 0 where
  pub layout : f.geometry ≡ x.geometry
  pub content : f.content ≡ at_cut x b.number
  pub op : slice_get (ops_of x) b.number ≡ Some b.op
  pub applies : Applies b.op f
  pub before : shown_end b.before ≡ cut_end x b.number
  pub after : shown_end b.after ≡ cut_end x (b.number + 1)
  pub bytes : LeavesBytes (again x (at_cut x (b.number + 1)))
  pub room : HasRoom (case_counts x) f

-- The boot from x has come so far, and the flash stands there. There is room for what it has left, and for a case.
pub record Stands (x : PowerOn) (at : Boot) (f : Seen) : Type 0 where
  pub layout : IsLayout x.geometry
  pub at_is : IsAt (round_model x) x at.done at f
  pub allows : Allows (plus (left_of x.geometry (progress at)) (case_counts x)) f

-- There is room for so many checkpoints.
abbrev pub CanMark : ℕ → Seen → Type 0
CanMark marks f = length f.checkpoints + marks ≤ f.usage.limits.checkpoints

-- A start is loaded for each case of its boot, which was run: the flash stands where the boot begins.
pub record IsLoaded (counts : Bool) (x : PowerOn) (whole : Whole) (f : Seen) (capacity : ℕ) : Type 0 where
  pub is_whole : IsWhole x whole
  pub stands : Stands x whole.summary.boot f
  pub marks : CanMark 2 f
  pub buffer : HoldsSlot f.geometry capacity
  pub counted : f.usage.limits.counted ≡ counts

-- The flash is as it was, with its limits.
pub record IsBack (old new : Seen) : Type 0 where
  pub stays : Stays old new
  pub limits : new.usage.limits ≡ old.usage.limits

-- A call goes back there; memory fails only a flash that does not count.
abbrev pub Returns : {A E : Type 0} → Seen → Result A E → Seen → Type 0
Returns old (Ok _) new = IsBack old new
Returns old (Err _) new = old.usage.limits.counted ≡ false

-- The same of one that may fail to write.
abbrev pub Goes : {A : Type 0} → Seen → Result A TearError → Seen → Type 0
Goes old (Ok _) new = IsBack old new
Goes old (Err errors.Memory) new = old.usage.limits.counted ≡ false
Goes old (Err errors.Write) new = ⊤

-- A text comes out whole, or where the call fails a prefix of it.
abbrev pub WritesText : {A : Type 0} → Result A TearError → Option (List ℕ) → Option (List ℕ) → List ℕ → Type 0
WritesText (Ok _) before after text = Appends before after text
WritesText (Err _) before after text = AppendsPrefix before after text

-- What is written of a reading, and whether it is right, if it is a case.
unfoldable pub case_at : Asked → PowerOn → ℕ → Op → Reading → Bool
case_at a x n op r = is_case a.erasing x.geometry op (at_cut x n) r

unfoldable pub reading_text_at : Asked → PowerOn → ℕ → Op → Reading → List ℕ
reading_text_at a x n op r = if case_at a x n op r then case_text a x n op r else []

unfoldable pub reading_right : Asked → PowerOn → ℕ → Op → Reading → Bool
reading_right a x n op r = if case_at a x n op r then ends_right a.expectation (case_end a.erasing x n op r) else true

-- The reading is a case of the operation, and the flash is that of it; or it is none, and all stays.
pub record Puts (e : Erasing) (op : Op) (r : Reading) (old new : Seen) (is : Bool) : Type 0 where
  pub case : is ≡ is_case e old.geometry op old.content r
  pub put : is ≡ true → new.content ≡ torn e old.geometry op old.content r
  pub stays : is ≡ false → new.content ≡ old.content
  pub keeps : Keeps old new
  pub limits : new.usage.limits ≡ old.usage.limits
  pub counts : LeaveRoom new.usage.counts no_counts (plus old.usage.counts (tear_counts old.geometry))

-- How the boot ends from where the whole operation was made, and that what it leaves is made of bytes.
abbrev pub EndsAfter : PowerOn → Op → Seen → End → Type 0
EndsAfter x op f end = (u : Content) → apply f.geometry op f.content ≡ Some u → (shown_end end ≡ end_of (again x u)) × LeavesBytes (again x u)

-- Bytes that differ in the first alone, which is 0xff in neither.
pub record DifferFirst (xs ys : List ℕ) : Type 0 where
  pub first : slice_index xs 0 ≢ 255
  pub second : slice_index ys 0 ≢ 255
  pub some : 0 < length xs
  pub rest : drop 1 xs ≡ drop 1 ys
  pub long : length xs ≡ length ys

-- The boot from x has come so far, and this is how it ends after a power cut there. There is room for what it has left, and for a case.
pub record IsHere (x : PowerOn) (here : Here) (f : Seen) : Type 0 where
  pub stands : Stands x here.at f
  pub before : shown_end here.before ≡ cut_end x here.at.done
  pub marks : CanMark 2 f

-- It has come one operation further, with the same limits; memory fails only a flash that does not count.
abbrev pub GoesOn : {A : Type 0} → PowerOn → Here → Seen → Result A TearError → Here → Seen → Type 0
GoesOn x old f (Ok _) new h = IsHere x new h × (new.at.done ≡ old.at.done + 1) × (h.usage.limits ≡ f.usage.limits)
GoesOn x old f (Err errors.Memory) new h = f.usage.limits.counted ≡ false
GoesOn x old f (Err errors.Write) new h = ⊤
