use Rattle.mc_explore.proofs.one_round.OneRound.boot.Goals as goal

pub returns : goal.returns
returns g c = rw c.rules.ensures at c.cold_among.ensures.cold
