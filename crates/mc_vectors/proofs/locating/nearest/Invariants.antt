use Rattle.mc_start.specs.Start.{begun}
use Rattle.mc_vectors.proofs.Nearest.{IsNearestYet}
use Rattle.mc_vectors.proofs.locating.nearest.Given as goal

abbrev pub invariant-loop-case : goal.invariant-loop-case
invariant-loop-case g l = IsNearestYet (begun l.start) l.wanted l.cases l.case-index l.best l.least
