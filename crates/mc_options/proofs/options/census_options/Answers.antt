use Rattle.mc_options.proofs.GivenOptions.{not_ok}
use Rattle.mc_options.proofs.options.census_options.Goals as goal

pub returns-in_err-read_required-clause-taken : goal.returns-in_err-read_required-clause-taken
returns-in_err-read_required-clause-taken c = λ n given. absurd (not_ok (c.in_err-read_required.ensures.taken n given))
