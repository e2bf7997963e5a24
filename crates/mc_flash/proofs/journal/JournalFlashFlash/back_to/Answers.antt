use Rattle.std.proofs.Common.{arith}
use Rattle.std.specs.Vec.{vec_capacity}
use Rattle.mc_flash.specs.{Usage.{room_for}, inner.Journal.{limits_of, Journal, journal_with}}
use Rattle.mc_flash.proofs.Undo.{checkpoint_below, sound_back, mark_fits, back}
use Rattle.mc_flash.proofs.journal.JournalFlashFlash.back_to.Goals as goal

pub undo_to-requires-clause-above : goal.undo_to-requires-clause-above
undo_to-requires-clause-above c =
    let f = c.self.inside in
    let below = mark_fits f.slots.layout f.slots.content f.reserve (journal_with f.entries.items f.saved.items) f.checkpoints.items f.applied _ c.self.view_is c.args.number c.requires in
    checkpoint_below f.entries.items f.checkpoints.items c.args.number c.index-count.result.now c.self.invariant.ascend c.index-count.ensures below

pub returns : goal.returns
returns c =
    let f = c.self.inside in
    let u = c.undo_to.ensures in
    let j : Journal = journal_with f.entries.items f.saved.items in
    let below = mark_fits f.slots.layout f.slots.content f.reserve j f.checkpoints.items f.applied _ c.self.view_is c.args.number c.requires in
    back f.slots.layout f.slots.content f.reserve j f.checkpoints.items f.applied _ c.self.view_is
    c.undo_to.new.slots.layout c.undo_to.new.slots.content (journal_with c.undo_to.new.entries.items c.undo_to.new.saved.items) c.truncate.new.self.items c.args.number
    c.index-count.result.now u.undone c.truncate.ensures.items c.index-count.ensures below c.self.invariant.ascend u.layout

pub invariant_of-self : goal.invariant_of-self
invariant_of-self c =
    let f = c.self.inside in
    let u = c.undo_to.ensures in
    let j : Journal = journal_with f.entries.items f.saved.items in
    let below = mark_fits f.slots.layout f.slots.content f.reserve j f.checkpoints.items f.applied _ c.self.view_is c.args.number c.requires in
    sound_back f.slots.layout (limits_of f.reserve) _ j f.checkpoints.items c.self.invariant
    c.undo_to.new.slots.layout (room_for (vec_capacity c.undo_to.new.entries) (vec_capacity c.undo_to.new.saved) (vec_capacity c.truncate.new.self)) f.slots.content c.undo_to.new.slots.content
    (journal_with c.undo_to.new.entries.items c.undo_to.new.saved.items) c.truncate.new.self.items c.args.number c.index-count.result.now u.undone c.truncate.ensures.items
    c.index-count.ensures below u.layout
    (record { entries = omega (arith, u.room_entries); saved = omega (arith, u.room_saved); checkpoints = omega (arith, c.truncate.ensures.capacity) })
