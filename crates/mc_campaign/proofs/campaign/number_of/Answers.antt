use Rattle.std.proofs.{Common.{arith}, lemmas.Slice.Eq.{bytes_eq-Decides}}
use Rattle.mc_start.specs.facts.Reading.{read_back}
use Rattle.mc_campaign.proofs.campaign.number_of.Goals as goal

pub returns-in_err-number : goal.returns-in_err-number
returns-in_err-number c = rw c.from_residual.ensures (λ n small is. let read = read_back n c.args.text.now c.parse.result small is c.parse.ensures.value.0 in grind arith)

pub returns-else-eq : goal.returns-else-eq
returns-else-eq c = λ n small is. let read = read_back n c.args.text.now c.parse.result small is c.parse.ensures.value.0 in grind (arith, bytes_eq-Decides)
