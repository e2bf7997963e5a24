use Rattle.mc_life.proofs.ReplayProof.{line_refused}
use Rattle.mc_life.proofs.life.happen_line.Goals as goal

pub returns-in-Some-clause-refused : goal.returns-in-Some-clause-refused
returns-in-Some-clause-refused g c = line_refused _ _ _ _ _ c.in-Some.ensures c.happen.ensures.refused
