use Rattle.std.proofs.Common.{◌+◌, ◌*◌, ◌<◌}
use Rattle.mc_flash.specs.Usage.{Keeps, LeaveRoom, Spent, plus}
use Rattle.mc_walk.specs.TreeModel.{IsNode, IsAt}
use Rattle.mc_walk.proofs.child_steps.go_to_child.Given as goal

abbrev pub invariant-loop-i : goal.invariant-loop-i
invariant-loop-i g l =
    let k = g.B.FlashTree.model l.flash_tree in
    let old = g.F.Flash.seen l.fn.flash in
    let now = g.F.Flash.seen l.flash in
    record {
      here : (n : g.B.FlashTree.Node) → IsNode k n l.summary old → l.number < k.tree.width n
          → IsAt k n l._i l.at now × LeaveRoom now.usage.counts (k.left l.at) (plus old.usage.counts (k.owed n));
      keeps : Keeps old now;
      spent : Spent ((l._i + 1) * k.step) old now;
    }
