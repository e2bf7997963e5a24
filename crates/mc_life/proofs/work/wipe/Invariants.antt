use Rattle.std.proofs.Common.{◌≡◌}
use Rattle.mc_life.specs.Device.{worn, wipes}
use Rattle.mc_life.proofs.Wiping.{IsWiping}
use Rattle.mc_life.proofs.work.wipe.Given as goal

abbrev pub invariant-wipe : goal.invariant-wipe
invariant-wipe g l = record {
  wiping : IsWiping (g.F.Flash.seen l.fn.flash) (g.F.Flash.seen l.flash) l.left;
  wear : worn l.wear (wipes l.left) ≡ worn l.fn.wear (wipes (g.F.Flash.seen l.fn.flash).geometry.secondary);
}

abbrev pub decreases-wipe : goal.decreases-wipe
decreases-wipe g l = l.left
