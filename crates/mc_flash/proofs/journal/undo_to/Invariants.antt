use Rattle.std.proofs.Common.{◌≡◌, ℕ, ◌≤◌, length, take}
use Rattle.std.specs.Vec.{vec_capacity}
use Rattle.mc_flash.specs.inner.Journal.{journal_with, IsJournal, checkpoint_after}
use Rattle.mc_flash.proofs.journal.undo_to.Given as goal

abbrev pub invariant-undo : goal.invariant-undo
invariant-undo l =
    record {
      above : l.count ≤ length l.entries.items;
      left : take l.count l.entries.items ≡ take l.count l.fn.entries.items;
      journal : IsJournal l.slots.layout (journal_with l.entries.items l.saved.items);
      layout : l.slots.layout ≡ l.fn.slots.layout;
      room_entries : vec_capacity l.entries ≡ vec_capacity l.fn.entries;
      room_saved : vec_capacity l.saved ≡ vec_capacity l.fn.saved;
      same : (n : ℕ) → n ≤ l.count → checkpoint_after (journal_with l.entries.items l.saved.items) l.slots.content n
          ≡ checkpoint_after (journal_with l.fn.entries.items l.fn.saved.items) l.fn.slots.content n;
    }

abbrev pub decreases-undo : goal.decreases-undo
decreases-undo l = length l.entries.items
