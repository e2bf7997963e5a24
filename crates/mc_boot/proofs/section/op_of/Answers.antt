use Rattle.std.proofs.Common.{sym, ◌∙◌}
use Rattle.mc_boot.proofs.Sections.{get_here, get_later}
use Rattle.mc_boot.proofs.section.op_of.Goals as goal

pub returns-then-left-counted-clause-at : goal.returns-then-left-counted-clause-at
returns-then-left-counted-clause-at c =
    let g = c.args.course.now in
    c.op.ensures.at
    ∙ sym (get_here g.grain g.layout g.sectors c.args.sections.now _ c.loop-counted.counted-index c.loop-counted.left c.requires c.loop-counted-test.true c.if-left-counted.true)
    ∙ c.loop-counted.invariant

pub loop-counted-preserved : goal.loop-counted-preserved
loop-counted-preserved c =
    let g = c.args.course.now in
    sym (get_later g.grain g.layout g.sectors c.args.sections.now _ c.loop-counted.counted-index c.loop-counted.left c.requires c.loop-counted-test.true c.if-left-counted.false)
    ∙ c.loop-counted.invariant
