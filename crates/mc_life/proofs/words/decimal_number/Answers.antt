use Rattle.mc_start.specs.facts.Reading.{other_text, read_back}
use Rattle.mc_life.proofs.words.decimal_number.Goals as goal

pub returns-in_default : goal.returns-in_default
returns-in_default c = λ n small is.
    absurd (other_text (read_back n c.args.text.now c.parse.result small is c.parse.ensures.value.0) c.in-Ok.is is c.format.ensures.text c.if-eq.ensures)

pub returns-in_default-2 : goal.returns-in_default-2
returns-in_default-2 c = λ n small is. absurd (cc (read_back n c.args.text.now c.parse.result small is c.parse.ensures.value.0))
