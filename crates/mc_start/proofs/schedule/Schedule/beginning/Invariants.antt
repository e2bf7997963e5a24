use Rattle.std.proofs.Common.{◌≡◌, ◌∷◌, take}
use Rattle.mc_start.proofs.schedule.Schedule.beginning.Given as goal

abbrev pub invariant-loop-cut : goal.invariant-loop-cut
invariant-loop-cut l = l.schedule ≡ l.first ∷ take l.cut-index l.later
