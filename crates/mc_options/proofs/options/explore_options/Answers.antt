use Rattle.mc_options.proofs.GivenOptions.{not_ok}
use Rattle.mc_options.proofs.options.explore_options.Goals as goal

pub returns-in_err-cuts-clause-taken : goal.returns-in_err-cuts-clause-taken
returns-in_err-cuts-clause-taken c = λ o given. absurd (not_ok (c.in_err-cuts.ensures.taken o.cuts given.cuts))

pub returns-in_err-limit-clause-taken : goal.returns-in_err-limit-clause-taken
returns-in_err-limit-clause-taken c = λ o given. absurd (not_ok (c.in_err-limit.ensures.taken given.number given.number_given))
