-- The room of a journal, as limits.
use Rattle.std.specs.{List.{AllByRecursion}, Prelude.{List, [], drop, false, length, map, replicate, take, ℕ, ◌+◌, ◌∷◌, ◌≡◌, ◌≤◌}}
use Rattle.mc_flash.specs.{Flash.{Content, bytes_of, put, size_of, with_bytes}, Geometry.{Geometry, IsLayout}}
use Rattle.mc_flash.specs.{Usage.{Checkpoint, IsWithin, Limits, Seen, room_for}, declared.entry.Entry.{Entry}}
use Rattle.mc_flash.specs.{declared.entry.Entry.TheVariants.{Erased, Written}, declared.op.Slot.{Slot}, declared.reserve.Reserve.{Reserve}}

abbrev pub limits_of : Reserve → Limits
limits_of reserve = room_for reserve.entries reserve.saved reserve.checkpoints

-- A journal of operations, and what taking them back gives.

-- Bytes of a slot that were changed, from an offset on, as they were before.
pub record Change : Type 0 where
  pub slot : Slot
  pub at : ℕ
  pub old : List ℕ

-- The changes that entries stand for: bytes that were written were 0xff, and those of erased sectors were saved, one
-- after the other.
abbrev pub changes : List Entry → List ℕ → List Change
changes [] saved = []
changes (Written slot at len ∷ entries) saved =
    record { slot = slot; at = at; old = replicate len 255 } ∷ changes entries saved
changes (Erased slot at len ∷ entries) saved =
    record { slot = slot; at = at; old = take len saved } ∷ changes entries (drop len saved)

-- The content before a change.
abbrev pub taken_back : Change → Content → Content
taken_back change s = with_bytes s change.slot (put (bytes_of s change.slot) change.at change.old)

-- The content before several, the newest of which is taken back first.
abbrev pub all_taken_back : List Change → Content → Content
all_taken_back [] s = s
all_taken_back (change ∷ rest) s = taken_back change (all_taken_back rest s)

-- How many bytes entries have saved.
abbrev pub saved_by : Entry → ℕ
saved_by (Written slot at len) = 0
saved_by (Erased slot at len) = len

abbrev pub all_saved : List Entry → ℕ
all_saved [] = 0
all_saved (entry ∷ rest) = saved_by entry + all_saved rest

-- What can be taken back: the entries, and the bytes that those of erases saved, one after the other.
pub record Journal : Type 0 where
  pub entries : List Entry
  pub saved : List ℕ

abbrev pub journal_with : List Entry → List ℕ → Journal
journal_with entries saved = record { entries = entries; saved = saved }

-- What the flash held after so many of the entries, where it holds this after all of them, and the counts there.
abbrev pub checkpoint_after : Journal → Content → ℕ → Checkpoint
checkpoint_after j s n = record {
  content = all_taken_back (drop n (changes j.entries j.saved)) s;
  counts = record { entries = n; saved = all_saved (take n j.entries) };
}

-- A flash with a journal, as it is seen; each checkpoint is a number of entries.
abbrev pub seen_of : Geometry → Content → Limits → Journal → List ℕ → ℕ → Seen
seen_of g s limits j checkpoints applied = record {
  geometry = g;
  content = s;
  checkpoints = map (checkpoint_after j s) checkpoints;
  usage = record {
    counts = record { entries = length j.entries; saved = length j.saved };
    limits = limits;
    applied = applied;
    failed = false;
  };
}

-- The bytes of an entry lie in its slot.
abbrev pub IsInside : Geometry → Entry → Type 0
IsInside g (Written slot at len) = at + len ≤ size_of g slot
IsInside g (Erased slot at len) = at + len ≤ size_of g slot

-- Entries whose bytes lie in their slots, with as many saved bytes as they saved.
pub record IsJournal (g : Geometry) (j : Journal) : Type 0 where
  pub saved_for : length j.saved ≡ all_saved j.entries
  pub inside : AllByRecursion (IsInside g) j.entries

-- Of a journal the first entries are left, so many of them, with as many saved bytes as they saved: what the flash held after
-- each of them is the same by what is left as by all.
pub record IsUndoneTo (count : ℕ) (j : Journal) (s : Content) (j' : Journal) (s' : Content) : Type 0 where
  pub left : j'.entries ≡ take count j.entries
  pub saved_for : length j'.saved ≡ all_saved j'.entries
  pub same : (n : ℕ) → n ≤ count → checkpoint_after j' s' n ≡ checkpoint_after j s n

-- Each number is at most the next, and all are between the two.
abbrev pub Ascend : ℕ → List ℕ → ℕ → Type 0
Ascend low [] top = low ≤ top
Ascend low (n ∷ rest) top = (low ≤ n) × Ascend n rest top

-- A journal of a layout with checkpoints in order, within the limits, which lie within the room that was taken.
pub record IsSound (g : Geometry) (limits taken : Limits) (j : Journal) (checkpoints : List ℕ) : Type 0 where
  pub layout : IsLayout g
  pub room : IsWithin limits taken
  pub at_most : IsWithin (room_for (length j.entries) (length j.saved) (length checkpoints)) limits
  pub journal : IsJournal g j
  pub ascend : Ascend 0 checkpoints (length j.entries)
