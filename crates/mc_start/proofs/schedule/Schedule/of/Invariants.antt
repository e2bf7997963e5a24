use Rattle.std.proofs.Common.{◌≡◌, take}
use Rattle.mc_start.proofs.schedule.Schedule.of.Given as goal

abbrev pub invariant-loop-cut : goal.invariant-loop-cut
invariant-loop-cut l = l.schedule ≡ take l.cut-index l.cuts
