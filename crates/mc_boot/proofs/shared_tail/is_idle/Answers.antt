use Rattle.std.proofs.Common.{arith}
use Rattle.mc_boot.proofs.CourseJoins.{sectors_pieces}
use Rattle.mc_boot.proofs.shared_tail.is_idle.Goals as goal

pub is_erased-requires : goal.is_erased-requires
is_erased-requires g c = grind (arith, sectors_pieces)

pub returns : goal.returns
returns g c blank = grind arith
