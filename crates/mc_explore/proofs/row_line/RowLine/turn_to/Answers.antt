use Rattle.mc_explore.proofs.Lines.{line_on}
use Rattle.mc_explore.proofs.row_line.RowLine.turn_to.Goals as goal

pub returns-then-count_up : goal.returns-then-count_up
returns-then-count_up g c = λ before counted line.
    line_on g.X.Subject.subject g.X.Subject.edge g.met.X.Subject.laws before c.args.row.now _ _ _ _ (counted c.if-counted_up.true) line (c.count_up.ensures.next c.if-count_up.true)
    c.count_up.ensures.key
