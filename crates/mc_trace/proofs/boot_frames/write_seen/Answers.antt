use Rattle.std.proofs.{Common.{sym, ◌∙◌}, lemmas.Result.{err_from_is_err_and}}
use Rattle.mc_trace.specs.Frames.{frame_text, torn_row}
use Rattle.mc_trace.specs.inner.Walking.{shown_frame}
use Rattle.mc_trace.proofs.Writing.{first_begun, writes_then}
use Rattle.mc_trace.proofs.boot_frames.write_seen.Goals as goal

pub returns-in_err-write_frame : goal.returns-in_err-write_frame
returns-in_err-write_frame g c =
    let s = c.args.start.now in
    let text = frame_text c.args.look.now s.geometry s.content (g.F.Flash.seen c.args.flash.now).content (shown_frame c.args.frame.now) in
    let failed = err_from_is_err_and c.from_residual.result c.from_residual.ensures.1 in
    rw (failed.1, sym c.has.ensures ∙ c.if-not-has.false) (first_begun _ _ text (torn_row c.args.lines.now) c.in_err-write_frame.ensures)

pub returns : goal.returns
returns g c =
    let s = c.args.start.now in
    let text = frame_text c.args.look.now s.geometry s.content (g.F.Flash.seen c.args.flash.now).content (shown_frame c.args.frame.now) in
    rw (sym c.has.ensures ∙ c.if-not-has.false) (writes_then _ _ _ text (torn_row c.args.lines.now) c.write_torn.result c.in_ok-write_frame.ensures c.write_torn.ensures)
