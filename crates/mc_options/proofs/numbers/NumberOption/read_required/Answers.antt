use Rattle.std.specs.Prelude.{Some}
use Rattle.mc_options.proofs.numbers.NumberOption.read_required.Goals as goal

pub returns-in_err-read-clause-taken : goal.returns-in_err-read-clause-taken
returns-in_err-read-clause-taken c = λ n given. absurd (c.in_err-read.ensures.1 (Some n) given)
