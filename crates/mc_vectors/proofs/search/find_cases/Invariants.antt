use Rattle.mc_start.specs.Start.{begun}
use Rattle.mc_vectors.specs.inner.Searching.{IsDoneAt}
use Rattle.mc_vectors.proofs.search.find_cases.Given as goal

abbrev pub invariant-loop-index : goal.invariant-loop-index
invariant-loop-index g l = IsDoneAt (begun l.fn.start) l.fn.bound l.fn.start.geometry.sector l.search l.index
