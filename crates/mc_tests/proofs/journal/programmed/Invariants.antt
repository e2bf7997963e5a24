use Rattle.std.proofs.Common.{◌≡◌}
use Rattle.mc_flash.specs.inner.Worked.{worked}
use Rattle.mc_tests.proofs.journal.programmed.Given as goal

abbrev pub invariant-loop-unit : goal.invariant-loop-unit
invariant-loop-unit g l = record { layout : l.flash.geometry ≡ worked }
