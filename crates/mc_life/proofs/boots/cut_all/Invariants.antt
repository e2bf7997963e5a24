use Rattle.std.proofs.Common.{◌≡◌}
use Rattle.mc_boot.specs.Plan.{powered}
use Rattle.mc_life.proofs.Booting.{AreCut}
use Rattle.mc_life.proofs.boots.cut_all.Given as goal

abbrev pub invariant-cuts : goal.invariant-cuts
invariant-cuts g l = record {
  are : AreCut (powered l.fn.rules (g.F.Flash.seen l.fn.flash)) l.cuts l.count-index l.fn.wear l.wear (g.F.Flash.seen l.flash);
  number : l.number ≡ l.count-index;
}
