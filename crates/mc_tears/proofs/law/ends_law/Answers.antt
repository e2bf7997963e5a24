use Rattle.mc_tears.proofs.EndsSame.{each_torn_ends}
use Rattle.mc_tears.proofs.law.ends_law.Goals as goal

pub returns : goal.returns
returns c = each_torn_ends
