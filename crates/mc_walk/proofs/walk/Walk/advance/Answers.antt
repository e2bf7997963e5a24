use Rattle.std.proofs.{Common.{arith}, lemmas.List.{length-map}}
use Rattle.mc_walk.proofs.{Along.{advanced_down, advanced_up}, Steps.{standing}}
use Rattle.mc_walk.proofs.walk.Walk.advance.Goals as goal

pub returns-then-branch-clause-step : goal.returns-then-branch-clause-step
returns-then-branch-clause-step g c = grind (arith, advanced_down)

pub returns-clause-step : goal.returns-clause-step
returns-clause-step g c = grind (arith, standing, length-map, advanced_up)
