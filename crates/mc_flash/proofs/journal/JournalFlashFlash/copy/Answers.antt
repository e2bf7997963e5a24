use Rattle.std.proofs.{Common.{◌≡◌, ◌+◌, length, inl, refl, subst, sym, arith}, lemmas.List.Edits.{length-between}}
use Rattle.std.specs.{List.{between}, Vec.{vec_capacity}}
use Rattle.mc_flash.specs.{Flash.{Content, bytes_of, with_bytes, put, CanTry}, facts.Changes.{sized_is}, Usage.{room_for, Seen}}
use Rattle.mc_flash.specs.{inner.Journal.{limits_of, Journal, journal_with}, declared.op.Op.{Op}, declared.op.Op.TheVariants.{Copy}}
use Rattle.mc_flash.proofs.Undo.{by_write, write_back, sound_grown, refuses, is_full, does, copy_done, copy_refused}
use Rattle.mc_flash.proofs.journal.JournalFlashFlash.copy.Goals as goal

pub invariant_of-self-2 : goal.invariant_of-self-2
invariant_of-self-2 c =
    let f = c.self.inside in
    let j : Journal = journal_with f.entries.items f.saved.items in
    let j' : Journal = journal_with c.push.new.self.items f.saved.items in
    let can : CanTry f.slots.layout (Copy c.args.from c.args.at c.args.to c.args.offset c.args.len) =
    subst (λ (old : Seen). CanTry old.geometry (Copy c.args.from c.args.at c.args.to c.args.offset c.args.len)) (sym c.self.view_is) c.requires in
    sound_grown f.slots.layout (limits_of f.reserve) _ j f.checkpoints.items c.self.invariant c.put_copy.new.self.layout
    (room_for (vec_capacity c.push.new.self) (vec_capacity f.saved) (vec_capacity f.checkpoints)) j' _ _
    (by_write j j' c.args.to c.args.offset c.args.len c.in_ok-push.ensures.items refl) c.put_copy.ensures.layout
    (record { entries = c.push.ensures.capacity; saved = omega arith; checkpoints = omega arith }) (omega (arith, f.entries.ok.0)) (omega (arith, c.self.invariant.at_most.saved)) can.1.inside

pub returns-then-not-is_blank : goal.returns-then-not-is_blank
returns-then-not-is_blank c =
    let f = c.self.inside in
    let op : Op = Copy c.args.from c.args.at c.args.to c.args.offset c.args.len in
    let can : CanTry f.slots.layout op = subst (λ (old : Seen). CanTry old.geometry op) (sym c.self.view_is) c.requires in
    let long = sized_is f.slots.layout f.slots.content c.args.from f.slots.sized in
    refuses f.slots.layout f.slots.content f.reserve (journal_with f.entries.items f.saved.items) f.checkpoints.items f.applied c.args.self.now c.self.view_is op
    (copy_refused f.slots.layout f.slots.content f.slots.content c.args.from c.args.to c.args.at c.args.offset c.args.len (omega (arith, can.0.inside, long)) (sym c.if-not-is_blank.ensures))

pub returns-then-len-self : goal.returns-then-len-self
returns-then-len-self c =
    let f = c.self.inside in
    let op : Op = Copy c.args.from c.args.at c.args.to c.args.offset c.args.len in
    let can : CanTry f.slots.layout op = subst (λ (old : Seen). CanTry old.geometry op) (sym c.self.view_is) c.requires in
    let long = sized_is f.slots.layout f.slots.content c.args.from f.slots.sized in
    let moved = between c.args.at (c.args.at + c.args.len) (bytes_of f.slots.content c.args.from) in
    let t : Content = with_bytes f.slots.content c.args.to (put (bytes_of f.slots.content c.args.to) c.args.offset moved) in
    is_full f.slots.layout f.slots.content f.reserve (journal_with f.entries.items f.saved.items) f.checkpoints.items f.applied c.args.self.now c.self.view_is op t
    (copy_done f.slots.layout f.slots.content t c.args.from c.args.to c.args.at c.args.offset c.args.len (omega (arith, can.0.inside, long)) (sym c.if-not-is_blank.ensures) refl)
    (inl (omega (arith, f.entries.ok.0)))

pub returns : goal.returns
returns c =
    let f = c.self.inside in
    let s = f.slots.content in
    let t = c.put_copy.new.self.content in
    let op : Op = Copy c.args.from c.args.at c.args.to c.args.offset c.args.len in
    let j : Journal = journal_with f.entries.items f.saved.items in
    let j' : Journal = journal_with c.push.new.self.items f.saved.items in
    let can : CanTry f.slots.layout op = subst (λ (old : Seen). CanTry old.geometry op) (sym c.self.view_is) c.requires in
    let source = sized_is f.slots.layout s c.args.from f.slots.sized in
    let target = sized_is f.slots.layout s c.args.to f.slots.sized in
    let new = between c.args.at (c.args.at + c.args.len) (bytes_of s c.args.from) in
    let n : length new ≡ c.args.len = omega (arith, length-between (bytes_of s c.args.from) c.args.at (c.args.at + c.args.len) (omega (arith, can.0.inside, source))) in
    let blank = sym c.if-not-is_blank.ensures in
    does f.slots.layout s f.reserve j f.checkpoints.items f.applied c.args.self.now c.self.view_is op
    c.put_copy.new.self.layout t j' c.saturating_add-self-inside.result _ _ (by_write j j' c.args.to c.args.offset c.args.len c.in_ok-push.ensures.items refl) refl
    (write_back s t c.args.to c.args.offset c.args.len new c.put_copy.ensures.content n (omega (arith, can.1.inside, target)) blank)
    (copy_done f.slots.layout s t c.args.from c.args.to c.args.at c.args.offset c.args.len (omega (arith, can.0.inside, source)) blank c.put_copy.ensures.content)
    c.put_copy.ensures.layout c.self.invariant.ascend c.saturating_add-self-inside.ensures (omega (arith, f.entries.ok.0)) (omega (arith, c.self.invariant.at_most.saved))

pub invariant_of-self : goal.invariant_of-self
invariant_of-self c = absurd (omega (arith, c.in_err-push.ensures.full, c.if-len-self.false, c.self.invariant.room.entries))

pub returns-in_err-push : goal.returns-in_err-push
returns-in_err-push c = absurd (omega (arith, c.in_err-push.ensures.full, c.if-len-self.false, c.self.invariant.room.entries))
