use Rattle.mc_explore.proofs.Preceding.{IsDown}
use Rattle.mc_explore.proofs.before.go_to_last.Given as goal

abbrev pub invariant-loop-step : goal.invariant-loop-step
invariant-loop-step g l = IsDown g.B.FlashTree.model l._step l.fn.walk l.walk
