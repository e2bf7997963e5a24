use Rattle.std.proofs.Common.{◌≡◌, ◌≤◌, ◌^◌, length}
use Rattle.mc_image.specs.inner.VersionReading.{number_from}
use Rattle.mc_image.proofs.reading.number_from.Given as goal

abbrev pub invariant-loop-rest : goal.invariant-loop-rest
invariant-loop-rest l = (number_from l.number l.rest ≡ number_from l.start l.text) × (l.number ≤ 2 ^ 32)

abbrev pub decreases-loop-rest : goal.decreases-loop-rest
decreases-loop-rest l = length l.rest
