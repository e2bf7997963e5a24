use Rattle.std.proofs.{Common.{arith}, lemmas.Grind.{common_steps}}
use Rattle.mc_flash.proofs.reserve.most_operations.Goals as goal

pub returns-in-Call-clause-at_most : goal.returns-in-Call-clause-at_most
returns-in-Call-clause-at_most c = grind (arith, common_steps)

pub returns-in-Unit-clause-at_most : goal.returns-in-Unit-clause-at_most
returns-in-Unit-clause-at_most c = grind (arith, common_steps)
