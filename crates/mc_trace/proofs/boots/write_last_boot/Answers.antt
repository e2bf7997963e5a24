use Rattle.std.proofs.lemmas.Result.{err_from_is_err_and}
use Rattle.mc_boot.specs.Boot.{progress}
use Rattle.mc_trace.proofs.{CutBoots.{head_begun, last_begun, last_out}, OperationLines.{writes_ok, writes_err}}
use Rattle.mc_output.specs.facts.Results.{on_err, on_ok}
use Rattle.mc_trace.proofs.boots.write_last_boot.Goals as goal
use Rattle.mc_boot.specs.Plan.{powered}

pub returns-in_err-write_line-clause-prefix : goal.returns-in_err-write_line-clause-prefix
returns-in_err-write_line-clause-prefix g c =
    let f = g.F.Flash.seen c.args.flash.now in
    let failed = err_from_is_err_and c.from_residual.result c.from_residual.ensures.1 in
    rw failed.1 (head_begun c.args.span (powered c.args.rules f) (progress c.cold-machine.result) c.cold-machine.ensures.cold.boot c.args.boot c.kind.result c.kind.ensures _ _ _
    (rw c.head_line.ensures at c.in_err-write_line.ensures.prefix))

pub returns-clause-whole : goal.returns-clause-whole
returns-clause-whole g c =
    let f = g.F.Flash.seen c.args.flash.now in
    on_ok c.write_operations.result _ _ (last_out c.args.span (powered c.args.rules f) (progress c.cold-machine.result) c.cold-machine.ensures.cold.boot c.args.boot c.kind.result c.kind.ensures
    _ _ (rw c.head_line.ensures at c.in_ok-write_line.ensures.whole) _) (writes_ok c.write_operations.result _ _ _ c.write_operations.ensures.written)

pub returns-clause-prefix : goal.returns-clause-prefix
returns-clause-prefix g c =
    let f = g.F.Flash.seen c.args.flash.now in
    on_err c.write_operations.result _ _ (last_begun c.args.span (powered c.args.rules f) (progress c.cold-machine.result) c.cold-machine.ensures.cold.boot c.args.boot c.kind.result
    c.kind.ensures _ _ (rw c.head_line.ensures at c.in_ok-write_line.ensures.whole) _) (writes_err c.write_operations.result _ _ _ c.write_operations.ensures.written)
