use Rattle.std.proofs.Common.{◌≡◌}
use Rattle.mc_flash.specs.inner.Worked.{worked}
use Rattle.mc_tests.proofs.journal.erased.Given as goal

abbrev pub invariant-loop : goal.invariant-loop
invariant-loop g l = record { layout : l.flash.geometry ≡ worked }
