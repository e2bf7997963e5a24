use Rattle.mc_start.specs.Start.{begun}
use Rattle.mc_tears.specs.inner.Losing.{IsDoneAt}
use Rattle.mc_tears.proofs.losses.find_losses.Given as goal

abbrev pub invariant-loop-index : goal.invariant-loop-index
invariant-loop-index g l = IsDoneAt l.fn.erasing (begun l.fn.start) l.bound l.search l.index
