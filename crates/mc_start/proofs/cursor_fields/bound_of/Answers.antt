use Rattle.std.specs.Prelude.{◌≡◌}
use Rattle.std.proofs.Common.{arith}
use Rattle.mc_start.proofs.Cursors.{read_byte}
use Rattle.mc_start.specs.facts.Reading.{other_text}
use Rattle.mc_start.proofs.cursor_fields.bound_of.Goals as goal

pub returns-in-Ok-clause-only : goal.returns-in-Ok-clause-only
returns-in-Ok-clause-only c = λ n small is. cc (read_byte n c.args.text.now c.parse.result small is c.parse.ensures.value.0)

pub returns-in_default-clause-only : goal.returns-in_default-clause-only
returns-in_default-clause-only c = λ n small is.
    absurd (other_text (read_byte n c.args.text.now c.parse.result small is c.parse.ensures.value.0) c.in-Ok.is is c.format.ensures.text c.if-eq.ensures)

pub returns-in_default-2-clause-only : goal.returns-in_default-2-clause-only
returns-in_default-2-clause-only c = λ n small is.
    let bound : c.in-Ok.bound ≡ n = cc (read_byte n c.args.text.now c.parse.result small is c.parse.ensures.value.0) in
    absurd (omega (arith, bound, small, c.from.ensures))

pub returns-in_default-3-clause-only : goal.returns-in_default-3-clause-only
returns-in_default-3-clause-only c = λ n small is. absurd (cc (read_byte n c.args.text.now c.parse.result small is c.parse.ensures.value.0))
