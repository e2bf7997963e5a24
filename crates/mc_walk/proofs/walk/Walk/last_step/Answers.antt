use Rattle.std.proofs.{Common.{arith}, lemmas.Option.{slice_get_within}}
use Rattle.mc_walk.proofs.{Stacks.{last_of}, Steps.{last_there, standing}}
use Rattle.mc_walk.proofs.walk.Walk.last_step.Goals as goal

pub returns-clause-step : goal.returns-clause-step
returns-clause-step g c = grind (arith, standing, last_of, slice_get_within, last_there)
