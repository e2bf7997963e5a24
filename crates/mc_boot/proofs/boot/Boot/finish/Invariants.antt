use Rattle.std.specs.Prelude.{length}
use Rattle.mc_flash.specs.Usage.{Allows}
use Rattle.mc_boot.specs.{Boot.{progress, to_come, CountsOn, left_of, GoesOn}, facts.Steps.{StepSpends}}
use Rattle.mc_boot.proofs.boot.Boot.finish.Given as goal

abbrev pub invariant-steps : goal.invariant-steps
invariant-steps g l = record {
  goes : GoesOn l.fn.self (g.F.Flash.seen l.fn.flash) l.self (g.F.Flash.seen l.flash);
  room : Allows (left_of (g.F.Flash.seen l.flash).geometry (progress l.self)) (g.F.Flash.seen l.flash);
  counts : CountsOn (progress l.fn.self) (progress l.self) (g.F.Flash.seen l.fn.flash) (g.F.Flash.seen l.flash);
  spends : StepSpends (progress l.fn.self) (progress l.self) (g.F.Flash.seen l.fn.flash) (g.F.Flash.seen l.flash);
}

abbrev pub decreases-steps : goal.decreases-steps
decreases-steps g l = length (to_come l.self)
