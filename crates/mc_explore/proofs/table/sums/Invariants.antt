use Rattle.std.proofs.Common.{◌≡◌, ℕ, ◌+◌, ◌-◌, length}
use Rattle.mc_explore.specs.{inner.Table.{AreCutOff, IsLevel, rest_from}, inner.Runs.{begin_of}, inner.Totals.{Totals, cut_off}}
use Rattle.mc_explore.proofs.table.sums.Given as goal

abbrev pub invariant-loop-later : goal.invariant-loop-later
invariant-loop-later l = record {
  many : length l.sums.items ≡ l.later + 1;
  sum : (under : ℕ → Totals) → IsLevel under l.count l.runs l.level → l.sum ≡ cut_off (rest_from under l.count (begin_of l.runs l.count (length l.runs - l.later)));
  sums : (under : ℕ → Totals) → IsLevel under l.count l.runs l.level
      → AreCutOff (λ k. rest_from under l.count (begin_of l.runs l.count (length l.runs - k))) l.sums.items;
}
