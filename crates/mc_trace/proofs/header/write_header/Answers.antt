use Rattle.std.proofs.lemmas.Result.{err_from_is_err_and}
use Rattle.mc_trace.specs.Frames.{board_text, expectation_text, images_text, schedule_line}
use Rattle.mc_trace.proofs.Writing.{first_begun, then_begun, written, writes_then}
use Rattle.mc_trace.proofs.header.write_header.Goals as goal

pub returns-in_err-write_line : goal.returns-in_err-write_line
returns-in_err-write_line g c =
    let failed = err_from_is_err_and c.from_residual.result c.from_residual.ensures.1 in
    rw failed.1 (first_begun _ _ (board_text c.args.version.now c.args.start.now) _ (rw c.board_line.ensures at c.in_err-write_line.ensures.prefix))

pub returns-in_err-write_line-2 : goal.returns-in_err-write_line-2
returns-in_err-write_line-2 g c =
    let board = rw c.board_line.ensures at c.in_ok-write_line.ensures.whole in
    let failed = err_from_is_err_and c.from_residual-in_err-write_line-2.result c.from_residual-in_err-write_line-2.ensures.1 in
    rw failed.1 (then_begun _ _ _ (board_text c.args.version.now c.args.start.now) _ board
    (first_begun _ _ (images_text c.args.start.now) _ (rw c.images_line.ensures at c.in_err-write_line-2.ensures.prefix)))

pub returns-in_err-write_line-3 : goal.returns-in_err-write_line-3
returns-in_err-write_line-3 g c =
    let board = rw c.board_line.ensures at c.in_ok-write_line.ensures.whole in
    let images = rw c.images_line.ensures at c.in_ok-write_line-2.ensures.whole in
    let failed = err_from_is_err_and c.from_residual-in_err-write_line-3.result c.from_residual-in_err-write_line-3.ensures.1 in
    rw failed.1 (then_begun _ _ _ (board_text c.args.version.now c.args.start.now) _ board
    (then_begun _ _ _ (images_text c.args.start.now) _ images
    (first_begun _ _ (expectation_text c.args.expectation.now) (schedule_line c.args.schedule.now) (rw c.expectation_line.ensures at c.in_err-write_line-3.ensures.prefix))))

pub returns : goal.returns
returns g c =
    let board = rw c.board_line.ensures at c.in_ok-write_line.ensures.whole in
    let images = rw c.images_line.ensures at c.in_ok-write_line-2.ensures.whole in
    let expected = rw c.expectation_line.ensures at c.in_ok-write_line-3.ensures.whole in
    let last = rw c.schedule_line.ensures at c.write_line-4.ensures in
    writes_then _ _ _ (board_text c.args.version.now c.args.start.now) _ c.write_line-4.result board
    (writes_then _ _ _ (images_text c.args.start.now) _ c.write_line-4.result images
    (writes_then _ _ _ (expectation_text c.args.expectation.now) (schedule_line c.args.schedule.now) c.write_line-4.result expected (written c.write_line-4.result _ _ _ last.whole last.prefix)))
