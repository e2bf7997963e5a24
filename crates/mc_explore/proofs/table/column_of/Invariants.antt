use Rattle.std.proofs.Common.{◌≡◌, ℕ, length}
use Rattle.mc_explore.specs.{inner.Table.{AreCutOff, AreRuns, IsLevel}, inner.Totals.{Totals, merged, cut_off, no_totals, totals}}
use Rattle.mc_tree.specs.inner.Weights.{from}
use Rattle.mc_explore.proofs.table.column_of.Given as goal

abbrev pub invariant-loop-fewer : goal.invariant-loop-fewer
invariant-loop-fewer l = record {
  many : length l.column.items ≡ l.fewer;
  column : (alone : Totals) (under : ℕ → ℕ → Totals) → l.own ≡ cut_off alone → ((i : ℕ) → under 0 i ≡ no_totals) → AreRuns under l.count l.bound l.count l.runs
      → AreCutOff (λ d. merged alone (from totals (under d) l.count 0)) l.column.items;
  level : (under : ℕ → ℕ → Totals) → ((i : ℕ) → under 0 i ≡ no_totals) → AreRuns under l.count l.bound l.count l.runs → IsLevel (under l.fewer) l.count l.runs l.level.items;
}
