use Rattle.std.proofs.Common.{arith}
use Rattle.mc_explore.proofs.Passing.{climbs_on}
use Rattle.mc_explore.proofs.children.go_to_child.Goals as goal

pub returns-in_ok-climb-clause-reaches : goal.returns-in_ok-climb-clause-reaches
returns-in_ok-climb-clause-reaches g c = grind (arith, climbs_on)
