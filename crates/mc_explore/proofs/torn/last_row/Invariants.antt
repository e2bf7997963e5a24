use Rattle.std.proofs.Common.{length}
use Rattle.mc_explore.proofs.TornPages.{IsLastSoFar}
use Rattle.mc_explore.proofs.torn.last_row.Given as goal

abbrev pub invariant-lines : goal.invariant-lines
invariant-lines l = IsLastSoFar l.fn.torn l.rest l.last

abbrev pub decreases-lines : goal.decreases-lines
decreases-lines l = length l.rest
