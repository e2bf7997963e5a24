use Rattle.mc_life.proofs.Saying.{trimmed}
use Rattle.mc_life.proofs.line.without_spaces.Goals as goal

pub returns : goal.returns
returns c = trimmed _ _ c.trim_end_matches.ensures.matches
