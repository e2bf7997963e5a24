use Rattle.std.proofs.Common.{◌≡◌}
use Rattle.mc_life.proofs.Worst.{IsSoFar}
use Rattle.mc_life.proofs.wear_text.most_of.Given as goal

abbrev pub invariant-sectors : goal.invariant-sectors
invariant-sectors l = record { sector_is : l.sector ≡ l.count-index; most : IsSoFar l.counts l.count-index l.most.sector l.most.count }
