use Rattle.mc_explore.specs.facts.Summaries.{width_is}
use Rattle.mc_explore.specs.inner.OneRound.{one_round}
use Rattle.mc_explore.proofs.one_round.OneRoundFlashTree.width.Goals as goal

pub returns : goal.returns
returns c = unfold one_round in λ x is. width_is x c.args.summary.now is.1
