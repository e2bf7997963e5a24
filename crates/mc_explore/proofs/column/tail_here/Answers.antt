use Rattle.mc_explore.specs.inner.BootTree.{model_of}
use Rattle.mc_explore.specs.inner.BootEnds.{report_of}
use Rattle.mc_explore.proofs.Passing.{tail_at}
use Rattle.mc_explore.specs.facts.Children.{child_here}
use Rattle.mc_tree.specs.Tree.{landed}
use Rattle.mc_walk.specs.TreeModel.{HasChild}
use Rattle.mc_explore.proofs.column.tail_here.Goals as goal

pub shared_tail-requires : goal.shared_tail-requires
shared_tail-requires g c =
    let walk = c.args.walk.now in
    let step = c.in_ok-step.ensures.step in
    let k = model_of walk.flash_tree in
    let here : HasChild k c.in_ok-step.step.now.at c.in_ok-step.step.now.parent c.summary.result.now walk.seen =
    (landed k.tree k.root step.before, c.in_ok-step.step.now.number, child_here k walk c.in_ok-step.step.now c.summary.result.now c.summary.ensures step) in
    rw c.flash.ensures (rw c.flash_tree-flash_tree.ensures here)

pub returns : goal.returns
returns g c =
    let walk = c.args.walk.now in
    let found = rw c.flash_tree-flash_tree.ensures at (rw c.flash.ensures at c.shared_tail.ensures) in
    tail_at (model_of walk.flash_tree) walk c.in_ok-step.step.now c.summary.result.now (report_of walk.flash_tree) c.summary.ensures c.in_ok-step.ensures.step
    c.shared_tail.result found
