use Rattle.mc_walk.proofs.Along.{IsAlong}
use Rattle.mc_walk.proofs.walk.Walk.follow.Given as goal

abbrev pub invariant-loop-number : goal.invariant-loop-number
invariant-loop-number g l = IsAlong g.B.FlashTree.model l.path l.number-index l.fn.self l.self
