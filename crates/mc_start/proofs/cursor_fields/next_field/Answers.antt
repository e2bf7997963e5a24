use Rattle.mc_start.proofs.Cursors.{field_read, field_there}
use Rattle.mc_start.proofs.cursor_fields.next_field.Goals as goal

pub returns-clause-only : goal.returns-clause-only
returns-clause-only c = λ field rest. field_read c.args.text.now field rest c.split_once.result c.split_once.ensures.cases

pub returns-clause-some : goal.returns-clause-some
returns-clause-some c = field_there c.args.text.now c.split_once.result c.split_once.ensures.cases
