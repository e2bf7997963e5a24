-- What a flash counts that works in room which it took when it was loaded, and how far it may count. Of another flash,
-- which takes memory as it goes, the counts stand still and the limits are never met.
use Rattle.std.specs.Int.{div_ceil}
use Rattle.std.specs.Prelude.{Bool, Err, IsSome, List, None, Ok, Option, Result, Some, [], false, length, min, option_map, slice_index_or, take, true, ℕ, ◌*◌, ◌++◌, ◌+◌, ◌-◌, ◌/◌, ◌<◌, ◌^◌, ◌∷◌, ◌≡◌, ◌≤◌, ◌⊎◌}
use Rattle.mc_flash.specs.{Flash.{Content, apply}, Geometry.{Geometry, greatest_sectors, trailer_sectors}, declared.flash.FlashError.{FlashError}}
use Rattle.mc_flash.specs.{declared.flash.Grain.{Grain}, declared.op.Op.{Op}}
use Rattle.mc_flash.specs.declared.flash.FlashError.TheVariants as errors
use Rattle.mc_flash.specs.declared.flash.Grain.TheVariants as grains
use Rattle.mc_flash.specs.declared.op.Op.TheVariants as ops

-- The operations that can be taken back, and the bytes that are saved for it.
pub record Counts : Type 0 where
  pub entries : ℕ
  pub saved : ℕ

-- Whether a flash counts; and the most of each, and the most checkpoints.
pub record Limits : Type 0 where
  pub counted : Bool
  pub entries : ℕ
  pub saved : ℕ
  pub checkpoints : ℕ

-- Limits of a flash that counts.
abbrev pub room_for : ℕ → ℕ → ℕ → Limits
room_for entries saved checkpoints = record { counted = true; entries = entries; saved = saved; checkpoints = checkpoints }

-- All that is counted of a flash. `applied` counts the operations since it was loaded, and stays at the greatest 64-bit
-- number; `failed` says whether a growth was refused at some time.
pub record Usage : Type 0 where
  pub counts : Counts
  pub limits : Limits
  pub applied : ℕ
  pub failed : Bool

-- A marked content, with the counts there.
pub record Checkpoint : Type 0 where
  pub content : Content
  pub counts : Counts

abbrev pub no_counts : Counts
no_counts = record { entries = 0; saved = 0 }

-- the usage of a flash that was just loaded
abbrev pub fresh : Limits → Usage
fresh limits = record { counts = no_counts; limits = limits; applied = 0; failed = false }

-- The most operations of a boot: 3T + 9 + 3 nmax (S / C + 2) where each call is one, and
-- 3T + 5 + 2 ceil(4 / W) + 32 / W + 3 nmax (S / W + 2) where each unit is.
abbrev pub most_operations : Grain → Geometry → ℕ
most_operations grains.Call g =
    3 * trailer_sectors g + 9 + 3 * greatest_sectors g * (g.sector / g.chunk + 2)
most_operations grains.Unit g =
    3 * trailer_sectors g + 5 + 2 * div_ceil 4 g.unit + 32 / g.unit + 3 * greatest_sectors g * (g.sector / g.unit + 2)

-- The most bytes that its erases save: 3T + 3 nmax sectors.
abbrev pub most_saved : Geometry → ℕ
most_saved g = (3 * trailer_sectors g + 3 * greatest_sectors g) * g.sector

-- The limits of a flash for so many boots: as much as that many make at most, and one checkpoint more.
unfoldable pub limits_for : Grain → Geometry → ℕ → Limits
limits_for grain g boots = record {
  counted = true;
  entries = boots * most_operations grain g;
  saved = boots * most_saved g;
  checkpoints = boots + 1;
}

-- One set of limits allows all that another does.
pub record IsWithin (least limits : Limits) : Type 0 where
  pub entries : least.entries ≤ limits.entries
  pub saved : least.saved ≤ limits.saved
  pub checkpoints : least.checkpoints ≤ limits.checkpoints

-- the bytes that an operation saves
abbrev pub saves : Geometry → Op → ℕ
saves g (ops.Erase slot sector) = g.sector
saves g (ops.Program slot at bytes) = 0
saves g (ops.Copy from at to offset len) = 0

-- The operation would pass a limit.
abbrev pub IsFull : Geometry → Op → Usage → Type 0
IsFull g op usage =
    (usage.limits.entries < usage.counts.entries + 1) ⊎ (usage.limits.saved < usage.counts.saved + saves g op)

-- the usage with one operation more, which stands still where nothing is counted
abbrev pub noted_by : Bool → Geometry → Op → Usage → Usage
noted_by true g op usage = record {
  counts = record { entries = usage.counts.entries + 1; saved = usage.counts.saved + saves g op };
  limits = usage.limits;
  applied = min (usage.applied + 1) (2 ^ 64 - 1);
  failed = usage.failed;
}
noted_by false g op usage = usage

abbrev pub noted : Geometry → Op → Usage → Usage
noted g op usage = noted_by usage.limits.counted g op usage

-- the usage of a flash that memory has failed
abbrev pub run_out : Usage → Usage
run_out usage = record { counts = usage.counts; limits = usage.limits; applied = usage.applied; failed = true }

-- the usage with the counts of a checkpoint
abbrev pub back_at : Counts → Usage → Usage
back_at counts usage = record { counts = counts; limits = usage.limits; applied = usage.applied; failed = usage.failed }

-- A flash, seen as one value, and what its calls do to it.

-- Its layout, the bytes of its slots, the contents that were marked and not given up, the oldest first, and its usage.
pub record Seen : Type 0 where
  pub geometry : Geometry
  pub content : Content
  pub checkpoints : List Checkpoint
  pub usage : Usage

-- The same with another content and another usage.
abbrev pub with_content : Seen → Content → Usage → Seen
with_content f content usage = record { geometry = f.geometry; content = content; checkpoints = f.checkpoints; usage = usage }

-- ---- operations

-- The flash after an operation, where it is defined.
unfoldable pub done : Op → Seen → Option Seen
done op f = option_map (λ content. with_content f content (noted f.geometry op f.usage)) (apply f.geometry op f.content)

-- The flash that memory has failed.
abbrev pub failed : Seen → Seen
failed f = with_content f f.content (run_out f.usage)

-- An allocation failed: a flash that counts was full, and nothing changed; another was refused a growth.
abbrev pub GivesUp : Type 0 → Seen → Seen → Type 0
GivesUp full old new =
    ((old.usage.limits.counted ≡ true) × full × (new ≡ old))
    ⊎ ((old.usage.limits.counted ≡ false) × (new ≡ failed old))

-- A flash that counts was not full.
abbrev pub HadRoom : Type 0 → Seen → Type 0
HadRoom full old = old.usage.limits.counted ≡ true → full → ⊥

-- What a call does: the operation, for which there was room; or it is undefined, and always refused; or an allocation failed.
abbrev pub Does : Op → Seen → Result (Unit {0}) FlashError → Seen → Type 0
Does op old (Ok _) new = (done op old ≡ Some new) × HadRoom (IsFull old.geometry op old.usage) old
Does op old (Err errors.NotErased) new = (done op old ≡ None) × (new ≡ old)
Does op old (Err errors.Memory) new = IsSome (done op old) × GivesUp (IsFull old.geometry op old.usage) old new

-- The layout and the checkpoints stay.
pub record Keeps (old new : Seen) : Type 0 where
  pub geometry : new.geometry ≡ old.geometry
  pub checkpoints : new.checkpoints ≡ old.checkpoints

-- ---- checkpoints

-- The content now, with the counts.
abbrev pub checkpoint_of : Seen → Checkpoint
checkpoint_of f = record { content = f.content; counts = f.usage.counts }

-- The flash with its content marked.
abbrev pub marked : Seen → Seen
marked f = record { geometry = f.geometry; content = f.content; checkpoints = f.checkpoints ++ checkpoint_of f ∷ []; usage = f.usage }

-- No checkpoint more has room.
abbrev pub NoMarkFits : Seen → Type 0
NoMarkFits f = f.usage.limits.checkpoints < length f.checkpoints + 1

-- The content is marked, and the answer is the checkpoint's number; or an allocation failed.
abbrev pub Marks : Seen → Result ℕ FlashError → Seen → Type 0
Marks old (Ok number) new = (number ≡ length old.checkpoints) × (new ≡ marked old) × HadRoom (NoMarkFits old) old
Marks old (Err errors.Memory) new = GivesUp (NoMarkFits old) old new
Marks old (Err errors.NotErased) new = ⊥

abbrev pub no_checkpoint : Checkpoint
no_checkpoint = record { content = record { primary = []; secondary = [] }; counts = no_counts }

-- The checkpoint of a number.
abbrev pub checkpoint_at : Seen → ℕ → Checkpoint
checkpoint_at f number = slice_index_or f.checkpoints number no_checkpoint

-- The flash back at a checkpoint, which is given up, and all later ones.
unfoldable pub went_back : ℕ → Seen → Seen
went_back number f = record {
  geometry = f.geometry;
  content = (checkpoint_at f number).content;
  checkpoints = take number f.checkpoints;
  usage = back_at (checkpoint_at f number).counts f.usage;
}

-- ---- loading

-- A flash of these bytes that was just loaded, with room for so many boots of that grain, and for no more where it counts.
pub record Loads (counted : Bool) (g : Geometry) (primary secondary : List ℕ) (grain : Grain) (boots : ℕ) (f : Seen) : Type 0 where
  pub geometry_is : f.geometry ≡ g
  pub content_is : f.content ≡ record { primary = primary; secondary = secondary }
  pub none : f.checkpoints ≡ []
  pub usage_is : f.usage ≡ fresh f.usage.limits
  pub counted_is : f.usage.limits.counted ≡ counted
  pub room : IsWithin (limits_for grain g boots) f.usage.limits
  pub exact : counted ≡ true → f.usage.limits ≡ limits_for grain g boots

-- What calls spend of a flash, and the room that it has. Of a flash that does not count all of this holds as well, since its
-- counts stand still.

-- At most so many operations were done, and memory did not fail.
pub record Spent (n : ℕ) (old new : Seen) : Type 0 where
  pub applied : new.usage.applied ≤ old.usage.applied + n
  pub limits : new.usage.limits ≡ old.usage.limits
  pub failed : new.usage.failed ≡ old.usage.failed

-- Memory has failed a flash that takes some as it goes.
pub record RanOut (old new : Seen) : Type 0 where
  pub counted : old.usage.limits.counted ≡ false
  pub limits : new.usage.limits ≡ old.usage.limits
  pub failed : new.usage.failed ≡ true

-- A call does at most so many operations, and fails only where memory fails a flash that does not count.
abbrev pub Spends : {A E : Type 0} → ℕ → Seen → Result A E → Seen → Type 0
Spends n old (Ok _) new = Spent n old new
Spends n old (Err _) new = RanOut old new

-- All stays but the number of operations that were done.
pub record Stays (old new : Seen) : Type 0 where
  pub geometry : new.geometry ≡ old.geometry
  pub content : new.content ≡ old.content
  pub checkpoints : new.checkpoints ≡ old.checkpoints
  pub counts : new.usage.counts ≡ old.usage.counts

-- Counts that leave room for so much more among the most.
pub record LeaveRoom (counts more most : Counts) : Type 0 where
  pub entries : counts.entries + more.entries ≤ most.entries
  pub saved : counts.saved + more.saved ≤ most.saved

-- So many times those counts.
abbrev pub times : ℕ → Counts → Counts
times n most = record { entries = n * most.entries; saved = n * most.saved }

-- Both counts together.
abbrev pub plus : Counts → Counts → Counts
plus a b = record { entries = a.entries + b.entries; saved = a.saved + b.saved }

-- The most counts that a flash has room for.
abbrev pub room_of : Limits → Counts
room_of limits = record { entries = limits.entries; saved = limits.saved }

-- There is room for so much more.
abbrev pub Allows : Counts → Seen → Type 0
Allows more f = LeaveRoom f.usage.counts more (room_of f.usage.limits)

-- And for a checkpoint.
pub record HasRoom (more : Counts) (f : Seen) : Type 0 where
  pub allows : Allows more f
  pub mark : length f.checkpoints < f.usage.limits.checkpoints
