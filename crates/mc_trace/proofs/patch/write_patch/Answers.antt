use Rattle.std.proofs.{Common.{refl}, lemmas.Result.{err_from_is_err_and}}
use Rattle.mc_flash.specs.declared.op.Slot.TheVariants.{Primary, Secondary}
use Rattle.mc_trace.specs.Patch.{lines_text, slot_changes}
use Rattle.mc_trace.proofs.{PatchLines.{two_slots}, Patched.{patch_makes, sized}, Writing.{first_begun, writes_then}}
use Rattle.mc_trace.proofs.patch.write_patch.Goals as goal

pub returns-in_err-write_slot-clause-written : goal.returns-in_err-write_slot-clause-written
returns-in_err-write_slot-clause-written g c =
    let s = (g.F.Flash.seen c.args.flash.now).content in
    let failed = err_from_is_err_and c.from_residual.result c.from_residual.ensures.1 in
    rw (failed.1, two_slots c.args.start.now.geometry c.args.start.now.content s) (first_begun _ _ _ _ (rw c.read.ensures.value at c.in_err-write_slot.ensures.written))

pub returns-in_err-write_slot-clause-back : goal.returns-in_err-write_slot-clause-back
returns-in_err-write_slot-clause-back g c =
    let l = c.args.start.now.geometry in
    let start = c.args.start.now.content in
    let seen = g.F.Flash.seen c.args.flash.now in
    patch_makes l start seen.content
    (sized l l start _ _ refl c.primary.ensures.value c.primary.ensures.len c.secondary.ensures.value c.secondary.ensures.len)
    (sized l seen.geometry seen.content _ _ c.requires c.read.ensures.value c.read.ensures.len c.read-2.ensures.value c.read-2.ensures.len)

pub returns-clause-written : goal.returns-clause-written
returns-clause-written g c =
    let l = c.args.start.now.geometry in
    let start = c.args.start.now.content in
    let s = (g.F.Flash.seen c.args.flash.now).content in
    rw (two_slots l start s)
    (writes_then (g.W.Write.contents c.args.writer.now) (g.W.Write.contents c.write_slot.new.writer) (g.W.Write.contents c.write_slot-2.new.writer)
    (lines_text (slot_changes l start Primary s.primary)) (lines_text (slot_changes l start Secondary s.secondary)) c.write_slot-2.result
    (rw c.read.ensures.value at c.in_ok-write_slot.ensures.written) (rw c.read-2.ensures.value at c.write_slot-2.ensures.written))

pub returns-clause-back : goal.returns-clause-back
returns-clause-back g c =
    let l = c.args.start.now.geometry in
    let start = c.args.start.now.content in
    let seen = g.F.Flash.seen c.args.flash.now in
    patch_makes l start seen.content
    (sized l l start _ _ refl c.primary.ensures.value c.primary.ensures.len c.secondary.ensures.value c.secondary.ensures.len)
    (sized l seen.geometry seen.content _ _ c.requires c.read.ensures.value c.read.ensures.len c.read-2.ensures.value c.read-2.ensures.len)
