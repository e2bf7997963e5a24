use Rattle.std.proofs.Common.{◌+◌, ◌-◌, ◌<◌}
use Rattle.mc_explore.specs.inner.{BootEnds.{report_of}, BootTree.{model_of}, Table.{PassesAlike}}
use Rattle.mc_explore.proofs.column.pass_alike.Given as goal

abbrev pub invariant-alike : goal.invariant-alike
invariant-alike g l = record {
  passes : PassesAlike model_of report_of l.fn.walk l.passed l.walk;
  within : l.number + l.passed < l.count;
}

abbrev pub decreases-alike : goal.decreases-alike
decreases-alike g l = l.count - l.passed
