use Rattle.std.proofs.Common.{arith}
use Rattle.mc_flash.specs.facts.Spends.{spent_back, spent_both, spent_marked, spent_more, stays_back}
use Rattle.mc_explore.proofs.one_round.OneRound.run_and_return.Goals as goal

pub returns-clause-stays : goal.returns-clause-stays
returns-clause-stays g c = grind (arith, stays_back)

pub returns-clause-spends : goal.returns-clause-spends
returns-clause-spends g c = grind (arith, spent_marked, spent_back, spent_more, spent_both)

pub run-requires-clause-begun : goal.run-requires-clause-begun
run-requires-clause-begun g c = grind arith

pub run-requires-clause-room : goal.run-requires-clause-room
run-requires-clause-room g c = grind arith

pub returns-clause-summary : goal.returns-clause-summary
returns-clause-summary g c = rw c.in_ok-here.ensures.1 at c.in_ok-summary.ensures.ran.summary_is
