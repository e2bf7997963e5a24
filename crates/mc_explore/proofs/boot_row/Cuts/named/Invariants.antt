use Rattle.std.proofs.Common.{◌≡◌, ◌-◌, length, take}
use Rattle.mc_explore.specs.inner.{BootRows.{cuts_of, labels_along}, BootTree.{begins_of}}
use Rattle.mc_explore.proofs.boot_row.Cuts.named.Given as goal

abbrev pub invariant-cuts : goal.invariant-cuts
invariant-cuts g l = l.cuts ≡ cuts_of (take l.step (labels_along l.walk.flash_tree.rounds (begins_of l.walk.flash_tree) l.walk.path))

abbrev pub decreases-cuts : goal.decreases-cuts
decreases-cuts g l = length l.walk.path - l.step
