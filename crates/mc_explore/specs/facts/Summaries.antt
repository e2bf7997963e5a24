-- The summary of a flash, and where the boot from there begins.
use Rattle.std.specs.Prelude.{◌≡◌, ℕ, length, Option, Some, None}
use Rattle.std.proofs.Common.{arith}
use Rattle.mc_flash.specs.Usage.{Counts, LeaveRoom, plus}
use Rattle.mc_boot.specs.{Boot.{progress, left_of}, Outcome.{Report, outcome_of, report, shown, ops_of}, Plan.{PowerOn}}
use Rattle.mc_explore.specs.{inner.OneRound.{HasMade, IsSummary, most_of}, declared.one_round.Summary.{Summary}, facts.Occurring.{at_zero}}

count_in : Option Report → ℕ
count_in None = 0
count_in (Some o) = o.ops

-- What an outcome says of the operations.
pub outcome_ops : (x : PowerOn) (o : Report) → outcome_of x ≡ Some o → o.ops ≡ length (ops_of x)
unfolding outcome_of report count_in
outcome_ops x o e = grind arith

module _ (x : PowerOn) (summary : Summary) (is : IsSummary x summary) where
  pub width_is : summary.outcome.ops ≡ length (ops_of x)
  width_is = outcome_ops x (shown summary.outcome) is.outcome_is

  pub first_on : HasMade x 0 summary.boot
  first_on = grind (arith, at_zero)

  -- What it has left is a whole boot at most.
  pub first_left : (old : Counts) → LeaveRoom old (left_of x.geometry (progress summary.boot)) (plus old (most_of x))
  first_left old = grind arith
