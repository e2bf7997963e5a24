use Rattle.std.proofs.Common.{arith}
use Rattle.mc_tears.proofs.Standing.{back_is}
use Rattle.mc_tears.proofs.end.run_and_return.Goals as goal

pub returns-clause-returns : goal.returns-clause-returns
returns-clause-returns g c = grind (arith, back_is)
