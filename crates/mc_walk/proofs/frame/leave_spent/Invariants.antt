use Rattle.std.proofs.Common.{◌≡◌, vec_len}
use Rattle.std.specs.Vec.{vec_capacity}
use Rattle.mc_walk.specs.inner.Stack.{AreOff}
use Rattle.mc_walk.proofs.frame.leave_spent.Given as goal

abbrev pub invariant-loop-frame : goal.invariant-loop-frame
invariant-loop-frame g l = record {
  off : AreOff (g.B.FlashTree.model l.flash_tree) l.fn.frames.items l.frames.items;
  capacity : vec_capacity l.frames ≡ vec_capacity l.fn.frames;
}

abbrev pub decreases-loop-frame : goal.decreases-loop-frame
decreases-loop-frame g l = vec_len l.frames
