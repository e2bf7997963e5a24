use Rattle.std.proofs.Common.{None, ℕ, ◌<◌}
use Rattle.mc_start.specs.Start.{begun}
use Rattle.mc_verdict.specs.Shortest.{HasFirst}
use Rattle.mc_verdict.proofs.shortest.shortest_wrong.Given as goal

abbrev pub invariant-loop-bound : goal.invariant-loop-bound
invariant-loop-bound g l = (m : ℕ) → m < l.bound → HasFirst g.X.Subject.subject l.expectation (begun l.start) l.chosen m None
