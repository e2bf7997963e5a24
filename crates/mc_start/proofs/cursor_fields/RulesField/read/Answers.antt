use Rattle.mc_start.proofs.Cursors.{two_fields}
use Rattle.mc_start.proofs.cursor_fields.RulesField.read.Goals as goal

pub returns-clause-some : goal.returns-clause-some
returns-clause-some c = two_fields _ _ _ _ _ _ _ c.in_ok-grain.ensures.some c.in_ok-profile.ensures.some c.in_ok-grain-2.ensures c.in_ok-profile-2.ensures
