use Rattle.std.proofs.Common.{◌≡◌, ℕ, ◌++◌, List, length}
use Rattle.mc_image.specs.inner.Reading.{Scans}
use Rattle.mc_image.proofs.areas.EntryScan.feed.Given as goal

abbrev pub invariant-loop-rest : goal.invariant-loop-rest
invariant-loop-rest l = (bytes : List ℕ) → Scans l.fn.self bytes → (seen : List ℕ) × (seen ++ l.rest ≡ bytes ++ l.piece) × Scans l.scan seen

abbrev pub decreases-loop-rest : goal.decreases-loop-rest
decreases-loop-rest l = length l.rest
