use Rattle.std.proofs.Common.{arith}
use Rattle.mc_explore.proofs.Preceding.{down_ends, down_here, down_on}
use Rattle.mc_explore.proofs.before.go_to_last.Goals as goal

pub returns-in_default : goal.returns-in_default
returns-in_default g c =
    let mid = c.loop-step.walk in
    down_here g.B.FlashTree.model c.loop-step._step c.args.walk.now mid c.loop-step.invariant c.summary.result.now c.width.result (rw c.flash_tree-flash_tree.ensures at c.width.ensures)
    c.summary.ensures.summary_is (grind (arith, c.in_default.ensures, c.in_default.is))

pub returns-then-not-branch : goal.returns-then-not-branch
returns-then-not-branch g c =
    let mid = c.loop-step.walk in
    down_ends g.B.FlashTree.model c.loop-step._step c.args.walk.now mid c.loop-step.invariant c.summary.result.now c.width.result (rw c.flash_tree-flash_tree.ensures at c.width.ensures)
    c.summary.ensures.summary_is c.in-Some.last (grind (arith, c.in-Some.ensures, c.in-Some.is)) c.go_down.new.self c.in_ok-go_down.field-0 c.if-not-branch.true c.in_ok-go_down.ensures.step

pub loop-step-preserved : goal.loop-step-preserved
loop-step-preserved g c =
    let mid = c.loop-step.walk in
    down_on g.B.FlashTree.model c.loop-step._step c.args.walk.now mid c.loop-step.invariant c.summary.result.now c.width.result (rw c.flash_tree-flash_tree.ensures at c.width.ensures)
    c.summary.ensures.summary_is c.in-Some.last (grind (arith, c.in-Some.ensures, c.in-Some.is)) c.go_down.new.self c.in_ok-go_down.field-0 c.if-not-branch.false c.in_ok-go_down.ensures.step
