use Rattle.std.proofs.Common.{◌≡◌}
use Rattle.mc_boot.specs.Boot.{IsBootOf}
use Rattle.mc_tests.proofs.boot.run.Given as goal

abbrev pub invariant-loop : goal.invariant-loop
invariant-loop g l = record {
  boot : IsBootOf (g.F.Flash.seen l.flash).geometry l.boot;
  geometry : (g.F.Flash.seen l.flash).geometry ≡ (g.F.Flash.seen l.fn.flash).geometry;
  checkpoints : (g.F.Flash.seen l.flash).checkpoints ≡ (g.F.Flash.seen l.fn.flash).checkpoints;
}
