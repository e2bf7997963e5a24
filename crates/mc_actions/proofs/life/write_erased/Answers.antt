use Rattle.mc_actions.proofs.life.write_erased.Goals as goal

pub returns-clause-whole : goal.returns-clause-whole
returns-clause-whole g c = rw c.if-not-life.false (rw c.wear.ensures at c.write_wear.ensures.whole)
