use Rattle.std.proofs.Common.{◌≡◌, ◌-◌, ◌≤◌, ℕ, List, length}
use Rattle.std.specs.Io.KnownBytes.{Consumes}
use Rattle.mc_image.specs.Judging.{Judges}
use Rattle.mc_imgtool.proofs.verification.judge_input.Given as goal

abbrev pub invariant-loop-taken : goal.invariant-loop-taken
invariant-loop-taken g l = (fed : List ℕ) × Judges l.judge fed × (length fed ≡ l.taken) × (l.taken ≤ l.most) × Consumes (g.R.Read.remaining l.fn.input) (g.R.Read.remaining l.input) fed

abbrev pub decreases-loop-taken : goal.decreases-loop-taken
decreases-loop-taken g l = l.most - l.taken
