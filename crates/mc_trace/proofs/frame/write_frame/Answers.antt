use Rattle.std.proofs.lemmas.Result.{err_from_is_err_and}
use Rattle.mc_trace.specs.{Frames.{flash_cells, frame_begin, frame_end, target_of}, inner.Walking.{shown_frame}}
use Rattle.mc_trace.proofs.Writing.{first_begun, then_begun, written, writes_then}
use Rattle.mc_trace.proofs.frame.write_frame.Goals as goal

pub returns-in_err-write_line : goal.returns-in_err-write_line
returns-in_err-write_line g c =
    let f = shown_frame c.args.frame.now in
    let failed = err_from_is_err_and c.from_residual.result c.from_residual.ensures.1 in
    rw failed.1 (first_begun _ _ (frame_begin c.args.look.now.form c.args.start.now.geometry f) _ (rw (c.begin.ensures, c.layout-layout.ensures.value) at c.in_err-write_line.ensures.prefix))

pub returns-in_err-write_flash : goal.returns-in_err-write_flash
returns-in_err-write_flash g c =
    let s = c.args.start.now in
    let look = c.args.look.now in
    let f = shown_frame c.args.frame.now in
    let cells = flash_cells look s.geometry s.content (g.F.Flash.seen c.args.flash.now).content (target_of s.geometry f.op) in
    let failed = err_from_is_err_and c.from_residual-in_err-write_flash.result c.from_residual-in_err-write_flash.ensures.1 in
    let first = rw (c.begin.ensures, c.layout-layout.ensures.value) at c.in_ok-write_line.ensures.whole in
    rw failed.1 (then_begun _ _ _ (frame_begin look.form s.geometry f) _ first
    (first_begun _ _ cells (frame_end look.form s.geometry look.expectation f)
    (rw (c.target_of.ensures, c.layout-layout.ensures.value) at c.in_err-write_flash.ensures)))

pub returns : goal.returns
returns g c =
    let s = c.args.start.now in
    let look = c.args.look.now in
    let f = shown_frame c.args.frame.now in
    let cells = flash_cells look s.geometry s.content (g.F.Flash.seen c.args.flash.now).content (target_of s.geometry f.op) in
    let first = rw (c.begin.ensures, c.layout-layout.ensures.value) at c.in_ok-write_line.ensures.whole in
    let second = rw (c.target_of.ensures, c.layout-layout.ensures.value) at c.in_ok-write_flash.ensures in
    let last = rw (c.end.ensures, c.layout-layout.ensures.value) at c.write_line-2.ensures in
    writes_then _ _ _ (frame_begin look.form s.geometry f) _ c.write_line-2.result first
    (writes_then _ _ _ cells (frame_end look.form s.geometry look.expectation f)
    c.write_line-2.result second (written c.write_line-2.result _ _ _ last.whole last.prefix))
