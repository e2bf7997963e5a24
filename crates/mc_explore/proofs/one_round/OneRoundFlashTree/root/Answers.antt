use Rattle.mc_explore.specs.inner.OneRound.{one_round}
use Rattle.mc_explore.proofs.one_round.OneRoundFlashTree.root.Goals as goal

pub returns-clause-spends : goal.returns-clause-spends
returns-clause-spends g c = unfold one_round in c.run_and_return.ensures.spends
