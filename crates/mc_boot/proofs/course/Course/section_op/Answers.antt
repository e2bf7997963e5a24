use Rattle.std.proofs.Common.{arith, sym, ◌-◌, ◌∙◌}
use Rattle.mc_boot.proofs.{Courses.{get_beyond, get_within}, Sections.{revert_is}}
use Rattle.mc_boot.proofs.course.Course.section_op.Goals as goal

pub returns-then-index-len-clause-at : goal.returns-then-index-len-clause-at
returns-then-index-len-clause-at c =
    let s = c.args.self.now in
    let low = rw (c.len_of-len.ensures, c.preparation-preparation.ensures) at c.if-index-len.true in
    rw (c.in-New.is, revert_is s.grain s.layout s.sectors c.in-New.kind c.in-New.size (sym c.is_revert.ensures ∙ c.if-not-is_revert.false))
    ((rw c.preparation-preparation.ensures at c.op_of-then-index-len.ensures.at) ∙ sym (get_within _ _ c.args.index low))

pub returns-else-index-len-clause-at : goal.returns-else-index-len-clause-at
returns-else-index-len-clause-at c =
    let s = c.args.self.now in
    let len = rw c.preparation-preparation.ensures at c.len_of-len.ensures in
    rw (c.in-New.is, revert_is s.grain s.layout s.sectors c.in-New.kind c.in-New.size (sym c.is_revert.ensures ∙ c.if-not-is_revert.false))
    ((rw c.swap-swap.ensures at c.op_of-else-index-len.ensures.at) ∙ sym (get_beyond _ _ c.args.index (c.args.index - c.len_of-len.result) (omega (arith, len, c.if-index-len.false))))
