use Rattle.std.proofs.Common.{◌≡◌, length, take, IfSome, ◌≤◌}
use Rattle.mc_boot.specs.{Boot.{IsBootOf, progress, to_come, HasCome}, Plan.{plan, powered}}
use Rattle.mc_life.specs.Device.{worn}
use Rattle.mc_life.proofs.boots.run.Given as goal

abbrev pub invariant-steps : goal.invariant-steps
invariant-steps g l = record {
  come : HasCome (powered l.fn.rules (g.F.Flash.seen l.fn.flash)) (progress l.boot) (g.F.Flash.seen l.flash).content;
  below : IfSome l.until (λ n. (progress l.boot).count ≤ n);
  layout : (g.F.Flash.seen l.flash).geometry ≡ (g.F.Flash.seen l.fn.flash).geometry;
  inside : IsBootOf (g.F.Flash.seen l.flash).geometry l.boot;
  wear : l.wear ≡ worn l.fn.wear (take (progress l.boot).count (plan (powered l.fn.rules (g.F.Flash.seen l.fn.flash))).list);
}

abbrev pub decreases-steps : goal.decreases-steps
decreases-steps g l = length (to_come l.boot)
