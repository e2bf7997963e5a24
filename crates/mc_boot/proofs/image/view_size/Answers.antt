use Rattle.std.proofs.Common.{arith}
use Rattle.mc_image.specs.facts.Valid.{prefix_within}
use Rattle.mc_boot.proofs.image.view_size.Goals as goal

pub overflow_cast-result : goal.overflow_cast-result
overflow_cast-result c = grind (arith, prefix_within)
