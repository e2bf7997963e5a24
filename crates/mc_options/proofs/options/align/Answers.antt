use Rattle.mc_options.proofs.GivenOptions.{not_ok}
use Rattle.mc_options.proofs.options.align.Goals as goal

pub returns-in_err-unit-clause-taken : goal.returns-in_err-unit-clause-taken
returns-in_err-unit-clause-taken c = λ n given unit. absurd (not_ok (c.in_err-unit.ensures.taken n given))
