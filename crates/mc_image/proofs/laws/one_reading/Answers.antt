use Rattle.std.proofs.Common.{sym, ◌∙◌}
use Rattle.mc_image.proofs.ImageLaws.{begins_is, begins_none, begins_one}
use Rattle.mc_image.proofs.laws.one_reading.Goals as goal

pub returns-clause-begins : goal.returns-clause-begins
returns-clause-begins c = begins_is

pub returns-clause-only : goal.returns-clause-only
returns-clause-only c = begins_none

pub returns-clause-one : goal.returns-clause-one
returns-clause-one c = λ b v w f g. sym (begins_one b v f) ∙ begins_one b w g
