use Rattle.std.proofs.Common.{rules}
use Rattle.mc_actions.proofs.create.make_from.Goals as goal

pub returns : goal.returns
returns g c = record { printed = λ is. absurd (search rules); written = λ other. c.make_file.ensures _ }
