use Rattle.std.specs.Prelude.{◌++◌}
use Rattle.std.proofs.lemmas.Result.{err_from_is_err_and}
use Rattle.mc_trace.specs.{Picture.{verdict_text}, declared.page.TheConstants.{HEAD, NOTE}}
use Rattle.mc_trace.proofs.Writing.{first_begun, then_begun, written, writes_then}
use Rattle.mc_trace.proofs.picture.write_opening.Goals as goal

pub returns-in_err-write_text : goal.returns-in_err-write_text
returns-in_err-write_text g c =
    let failed = err_from_is_err_and c.from_residual.result c.from_residual.ensures.1 in
    rw failed.1 (first_begun _ _ HEAD.now (verdict_text c.args.verdict.now ++ NOTE.now) (rw c.as_bytes.ensures.value at c.in_err-write_text.ensures.prefix))

pub returns-in_err-write : goal.returns-in_err-write
returns-in_err-write g c =
    let head = rw c.as_bytes.ensures.value at c.in_ok-write_text.ensures.whole in
    let failed = err_from_is_err_and c.from_residual-in_err-write.result c.from_residual-in_err-write.ensures.1 in
    rw failed.1 (then_begun _ _ _ HEAD.now _ head (first_begun _ _ (verdict_text c.args.verdict.now) NOTE.now c.in_err-write.ensures))

pub returns : goal.returns
returns g c =
    let head = rw c.as_bytes.ensures.value at c.in_ok-write_text.ensures.whole in
    let last = rw c.as_bytes-2.ensures.value at c.write_text-2.ensures in
    writes_then _ _ _ HEAD.now _ c.write_text-2.result head
    (writes_then _ _ _ (verdict_text c.args.verdict.now) NOTE.now c.write_text-2.result c.in_ok-write.ensures (written c.write_text-2.result _ _ _ last.whole last.prefix))
