use Rattle.std.proofs.Common.{◌≤◌, ◌+◌, ◌^◌, ℕ, List, length}
use Rattle.mc_image.specs.Judging.{Judges}
use Rattle.mc_tests.proofs.image.judged.Given as goal

abbrev pub invariant-loop-rest : goal.invariant-loop-rest
invariant-loop-rest l = (fed : List ℕ) × Judges l.judge fed × (length fed + length l.rest ≤ 2 ^ 32)

abbrev pub decreases-loop-rest : goal.decreases-loop-rest
decreases-loop-rest l = length l.rest
