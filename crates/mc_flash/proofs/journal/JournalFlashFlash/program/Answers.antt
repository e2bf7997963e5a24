use Rattle.std.proofs.Common.{◌+◌, ◌≤◌, length, inl, refl, subst, sym, arith}
use Rattle.std.specs.Vec.{vec_capacity}
use Rattle.mc_flash.specs.{Flash.{Content, bytes_of, with_bytes, put, size_of}, facts.Changes.{sized_is}, Usage.{room_for, Seen}}
use Rattle.mc_flash.specs.{inner.Journal.{limits_of, Journal, journal_with}, declared.op.Op.TheVariants.{Program}}
use Rattle.mc_flash.proofs.Undo.{by_write, write_back, sound_grown, refuses, is_full, does, program_done, program_refused}
use Rattle.mc_flash.proofs.journal.JournalFlashFlash.program.Goals as goal

pub invariant_of-self-2 : goal.invariant_of-self-2
invariant_of-self-2 c =
    let f = c.self.inside in
    let j : Journal = journal_with f.entries.items f.saved.items in
    let j' : Journal = journal_with c.push.new.self.items f.saved.items in
    let fits : c.args.offset + length c.args.bytes.now ≤ size_of f.slots.layout c.args.slot =
    subst (λ (old : Seen). c.args.offset + length c.args.bytes.now ≤ size_of old.geometry c.args.slot) (sym c.self.view_is) c.requires.inside in
    sound_grown f.slots.layout (limits_of f.reserve) _ j f.checkpoints.items c.self.invariant c.put.new.self.layout
    (room_for (vec_capacity c.push.new.self) (vec_capacity f.saved) (vec_capacity f.checkpoints)) j' _ _
    (by_write j j' c.args.slot c.args.offset (length c.args.bytes.now) c.in_ok-push.ensures.items refl) c.put.ensures.layout
    (record { entries = c.push.ensures.capacity; saved = omega arith; checkpoints = omega arith }) (omega (arith, f.entries.ok.0)) (omega (arith, c.self.invariant.at_most.saved)) fits

pub returns-then-not-is_blank : goal.returns-then-not-is_blank
returns-then-not-is_blank c =
    let f = c.self.inside in
    refuses f.slots.layout f.slots.content f.reserve (journal_with f.entries.items f.saved.items) f.checkpoints.items f.applied c.args.self.now c.self.view_is
    (Program c.args.slot c.args.offset c.args.bytes.now)
    (program_refused f.slots.layout f.slots.content f.slots.content c.args.slot c.args.offset c.args.bytes.now (sym c.if-not-is_blank.ensures))

pub returns-then-len-self : goal.returns-then-len-self
returns-then-len-self c =
    let f = c.self.inside in
    let t : Content = with_bytes f.slots.content c.args.slot (put (bytes_of f.slots.content c.args.slot) c.args.offset c.args.bytes.now) in
    is_full f.slots.layout f.slots.content f.reserve (journal_with f.entries.items f.saved.items) f.checkpoints.items f.applied c.args.self.now c.self.view_is
    (Program c.args.slot c.args.offset c.args.bytes.now) t
    (program_done f.slots.layout f.slots.content t c.args.slot c.args.offset c.args.bytes.now (sym c.if-not-is_blank.ensures) refl) (inl (omega (arith, f.entries.ok.0)))

pub returns : goal.returns
returns c =
    let f = c.self.inside in
    let s = f.slots.content in
    let t = c.put.new.self.content in
    let j : Journal = journal_with f.entries.items f.saved.items in
    let j' : Journal = journal_with c.push.new.self.items f.saved.items in
    let fits : c.args.offset + length c.args.bytes.now ≤ size_of f.slots.layout c.args.slot =
    subst (λ (old : Seen). c.args.offset + length c.args.bytes.now ≤ size_of old.geometry c.args.slot) (sym c.self.view_is) c.requires.inside in
    let long = sized_is f.slots.layout s c.args.slot f.slots.sized in
    let blank = sym c.if-not-is_blank.ensures in
    does f.slots.layout s f.reserve j f.checkpoints.items f.applied c.args.self.now c.self.view_is (Program c.args.slot c.args.offset c.args.bytes.now)
    c.put.new.self.layout t j' c.saturating_add-self-inside.result _ _ (by_write j j' c.args.slot c.args.offset (length c.args.bytes.now) c.in_ok-push.ensures.items refl) refl
    (write_back s t c.args.slot c.args.offset (length c.args.bytes.now) c.args.bytes.now c.put.ensures.content refl (omega (arith, fits, long)) blank)
    (program_done f.slots.layout s t c.args.slot c.args.offset c.args.bytes.now blank c.put.ensures.content) c.put.ensures.layout c.self.invariant.ascend
    c.saturating_add-self-inside.ensures (omega (arith, f.entries.ok.0)) (omega (arith, c.self.invariant.at_most.saved))

pub invariant_of-self : goal.invariant_of-self
invariant_of-self c = absurd (omega (arith, c.in_err-push.ensures.full, c.if-len-self.false, c.self.invariant.room.entries))

pub returns-in_err-push : goal.returns-in_err-push
returns-in_err-push c = absurd (omega (arith, c.in_err-push.ensures.full, c.if-len-self.false, c.self.invariant.room.entries))
