use Rattle.std.proofs.Common.{◌≡◌, ℕ, ◌++◌, List, length}
use Rattle.mc_image.specs.Judging.{Judges}
use Rattle.mc_image.proofs.judge.Judge.feed.Given as goal

abbrev pub invariant-loop-rest : goal.invariant-loop-rest
invariant-loop-rest l = (bytes : List ℕ) → Judges l.fn.self bytes → (seen : List ℕ) × (seen ++ l.rest ≡ bytes ++ l.piece) × Judges l.self seen

abbrev pub decreases-loop-rest : goal.decreases-loop-rest
decreases-loop-rest l = length l.rest
