use Rattle.std.proofs.lemmas.Result.{err_from_is_err_and}
use Rattle.mc_trace.proofs.Out.{primary_begun, secondary_begun, slots_out}
use Rattle.mc_trace.proofs.slots.write_slots.Goals as goal

pub returns-in_err-write_text-clause-prefix : goal.returns-in_err-write_text-clause-prefix
returns-in_err-write_text-clause-prefix g c =
    let failed = err_from_is_err_and c.from_residual.result c.from_residual.ensures.1 in
    rw failed.1
    (primary_begun (g.F.Flash.seen c.args.flash.now).content (g.W.Write.contents c.args.writer.now) (g.W.Write.contents c.write_text.new.writer)
    c.read.result.now c.read.ensures.value c.in_err-write_text.ensures.prefix)

pub returns-in_err-write_text-2-clause-prefix : goal.returns-in_err-write_text-2-clause-prefix
returns-in_err-write_text-2-clause-prefix g c =
    let failed = err_from_is_err_and c.from_residual-in_err-write_text-2.result c.from_residual-in_err-write_text-2.ensures.1 in
    rw failed.1
    (secondary_begun (g.F.Flash.seen c.args.flash.now).content (g.W.Write.contents c.args.writer.now) (g.W.Write.contents c.write_text.new.writer)
    c.read.result.now c.read.ensures.value c.in_ok-write_text.ensures.whole (g.W.Write.contents c.write_text-2.new.writer) c.read-2.result.now c.read-2.ensures.value
    c.in_err-write_text-2.ensures.prefix)

pub returns-clause-whole : goal.returns-clause-whole
returns-clause-whole g c =
    slots_out (g.F.Flash.seen c.args.flash.now).content (g.W.Write.contents c.args.writer.now) (g.W.Write.contents c.write_text.new.writer)
    c.read.result.now c.read.ensures.value c.in_ok-write_text.ensures.whole (g.W.Write.contents c.write_text-2.new.writer) c.read-2.result.now c.read-2.ensures.value
    c.in_ok-write_text-2.ensures.whole
