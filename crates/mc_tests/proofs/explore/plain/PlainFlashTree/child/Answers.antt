use Rattle.std.proofs.Common.{arith}
use Rattle.mc_flash.specs.facts.Spends.{spent_back, spent_both, spent_marked, spent_more, stays_back}
use Rattle.mc_explore.specs.inner.OneRound.{one_round}
use Rattle.mc_tests.proofs.explore.plain.PlainFlashTree.child.Goals as goal

pub returns-clause-stays : goal.returns-clause-stays
returns-clause-stays g c = grind (arith, stays_back)

pub returns-clause-spends : goal.returns-clause-spends
returns-clause-spends g c = unfold one_round in grind (arith, spent_marked, spent_back, spent_more, spent_both)

pub run-requires-clause-begun : goal.run-requires-clause-begun
run-requires-clause-begun g c = unfold one_round in grind arith
