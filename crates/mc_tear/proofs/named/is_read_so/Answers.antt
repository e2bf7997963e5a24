use Rattle.std.proofs.Common.{arith}
use Rattle.mc_flash.specs.facts.Spends.{spent_back, spent_both, spent_marked, spent_more, stays_back}
use Rattle.mc_tear.proofs.named.is_read_so.Goals as goal

pub returns-clause-stays : goal.returns-clause-stays
returns-clause-stays g c = grind (arith, stays_back)

pub returns-clause-spends : goal.returns-clause-spends
returns-clause-spends g c = grind (arith, spent_marked, spent_back, spent_more, spent_both)
