use Rattle.std.proofs.Common.{arith}
use Rattle.mc_tear.proofs.Putting.{put_own}
use Rattle.mc_tear.proofs.torn.is_there.Goals as goal

pub returns-clause-same : goal.returns-clause-same
returns-clause-same g c = grind (arith, put_own)
