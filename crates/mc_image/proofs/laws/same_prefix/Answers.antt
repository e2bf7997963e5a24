use Rattle.mc_image.proofs.Views.{begins_same, id_same}
use Rattle.mc_image.proofs.laws.same_prefix.Goals as goal

pub returns-clause-begins : goal.returns-clause-begins
returns-clause-begins c = begins_same

pub returns-clause-id : goal.returns-clause-id
returns-clause-id c = id_same
