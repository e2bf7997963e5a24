use Rattle.std.proofs.Common.{◌≡◌, ℕ}
use Rattle.mc_boot.specs.SharedTail.{index_in_parent}
use Rattle.mc_tree.specs.inner.Weights.{from}
use Rattle.mc_explore.specs.{inner.Table.{IsInside, IsSummed}, inner.Totals.{Totals, cut_off, totals}}
use Rattle.mc_explore.proofs.table.Level.early.Given as goal

abbrev pub invariant-loop-number : goal.invariant-loop-number
invariant-loop-number l =
    (under : ℕ → Totals) → IsSummed under l.self → IsInside l.shared_tail l.self.count → l.sum ≡ cut_off (from totals (λ i. under (index_in_parent l.shared_tail i)) l.number 0)
