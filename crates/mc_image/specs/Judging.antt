-- Which bytes a judge was fed, and what it answers. Of `Judges` a caller needs only what the contracts of `Judge` say: a new judge was
-- fed nothing, and each piece is added to what it was fed.
use Rattle.std.specs.Prelude.{List, Result, ℕ, ◌≡◌}
use Rattle.mc_image.specs.{Image.{IsBytes}, Verdict.{verdict}, inner.Judging.{IsInStage}}
use Rattle.mc_image.specs.{declared.error.ImageError.{ImageError}, declared.judge.Judge.{Judge}, declared.judge.Judged.{Judged}}

-- a judge was fed these bytes
pub record Judges (judge : Judge) (fed : List ℕ) : Type 0 where
  pub bytes : IsBytes fed
  pub stage : IsInStage judge.stage judge.hasher fed

-- what a judge answers of whatever bytes it was fed
abbrev pub Finishes : Judge → Result Judged ImageError → Type 0
Finishes judge answer = (fed : List ℕ) → Judges judge fed → answer ≡ verdict fed
