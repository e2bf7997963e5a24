use Rattle.std.proofs.Common.{◌≡◌, take}
use Rattle.mc_walk.specs.inner.Stack.{path_of}
use Rattle.mc_walk.proofs.walk.Walk.path.Given as goal

abbrev pub invariant-loop-frame : goal.invariant-loop-frame
invariant-loop-frame g l = l.path.items ≡ path_of (take l.frame-index l.frame-items)
