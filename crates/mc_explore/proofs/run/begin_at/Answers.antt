use Rattle.std.proofs.Common.{arith, sym}
use Rattle.mc_explore.proofs.Runs.{begin_past, first_is}
use Rattle.mc_explore.proofs.run.begin_at.Goals as goal

pub returns-then-index-runs : goal.returns-then-index-runs
returns-then-index-runs g c = first_is c.args.runs.now c.args.count c.args.index c.index-runs-index.result c.if-index-runs.true

pub returns-else-index-runs : goal.returns-else-index-runs
returns-else-index-runs g c = sym (begin_past c.args.runs.now c.args.count c.args.index (omega (arith, c.if-index-runs.false)))
