use Rattle.std.specs.Prelude.{◌≡◌}
use Rattle.mc_explore.specs.inner.OneRound.{begins}
use Rattle.mc_tears.specs.inner.Standing.{CanMark, Stands}
use Rattle.mc_tears.proofs.case_flash.go_to.Given as goal

abbrev pub invariant-loop-number : goal.invariant-loop-number
invariant-loop-number g l = record {
  stands : Stands (begins l.rounds) l.at (g.F.Flash.seen l.flash);
  number : l.at.done ≡ l._number;
  marks : CanMark 2 (g.F.Flash.seen l.flash);
}
