use Rattle.mc_explore.proofs.start_census.take_census.Goals as goal

pub returns-clause-census : goal.returns-clause-census
returns-clause-census g c = rw c.any-any.ensures at c.in_ok-census.ensures
