use Rattle.std.proofs.Common.{arith}
use Rattle.mc_boot.proofs.Courses.{greatest_pieces}
use Rattle.mc_boot.proofs.boot.Boot.new_swap.Goals as goal
use Rattle.mc_boot.proofs.boot.Boot.new_swap.Goals.{then-not-images-via-then-not-images, then-not-images-via-else-not-images+then-greatest_sectors-sectors}

pub new-requires : goal.new-requires
new-requires c = grind (arith, greatest_pieces)

pub returns-clause-progress : goal.returns-clause-progress
returns-clause-progress c = grind arith

pub returns-then-not-images-clause-progress : goal.returns-then-not-images-clause-progress
returns-then-not-images-clause-progress c = grind arith
