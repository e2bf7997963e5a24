use Rattle.std.proofs.Common.{◌≡◌, ℕ, suc, ◌<◌, length}
use Rattle.mc_explore.specs.{inner.Table.{AreCutOff, AreRuns, AreSums, IsLevel}, inner.Runs.{begin_of}, inner.Totals.{Totals}}
use Rattle.mc_explore.proofs.table.next_level.Given as goal

abbrev pub invariant-loop-run : goal.invariant-loop-run
invariant-loop-run l = record {
  many : length l.next.items ≡ l.run-index;
  cut_offs : (under : ℕ → ℕ → Totals) (most : ℕ) → AreRuns under l.level.count most l.level.count l.level.runs.now
      → IsLevel (under l.bound) l.level.count l.level.runs.now l.level.censuses.now → AreSums (under l.bound) l.level.count l.level.runs.now l.level.sums.now → l.bound < most
      → AreCutOff (λ r. under (suc l.bound) (begin_of l.level.runs.now l.level.count r)) l.next.items;
}
