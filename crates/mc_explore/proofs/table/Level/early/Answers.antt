use Rattle.std.proofs.Common.{◌≡◌, ℕ, ap, ◌∙◌, arith}
use Rattle.mc_boot.specs.SharedTail.{index_in_parent}
use Rattle.mc_tree.specs.inner.Weights.{from}
use Rattle.mc_explore.specs.inner.Totals.{Totals, cut_off, totals}
use Rattle.mc_explore.proofs.{Counting.{more_first}, Runs.{at_child}}
use Rattle.mc_explore.proofs.table.Level.early.Goals as goal

pub loop-number-preserved : goal.loop-number-preserved
loop-number-preserved c = λ under is inside.
    let n : ℕ = c.args.self.now.count in
    let level = is.level in
    let number : ℕ = c.loop-number.number in
    let runs = c.args.self.now.runs.now in
    let at : ℕ → Totals = λ i. under (index_in_parent c.args.shared_tail.now i) in
    let lt = inside.early number (omega (arith, c.loop-number-test.true, c.erases-number-end.ensures)) in
    let here = rw c.index_in_parent.ensures at (c.run_of-run.ensures.begins n level.alike.split is.some (omega (arith, lt, c.index_in_parent.ensures))) in
    let there = at_child under n runs c.args.self.now.censuses.now level _ c.run_of-run.result c.census_at.result lt here c.census_at.ensures in
    let one = c.prefixed.ensures (at number) there in
    c.merged-sum.ensures (from totals at number 0) (totals.prefixed number (at number)) (c.loop-number.invariant under is inside) one ∙ ap cut_off (more_first at number)

pub returns : goal.returns
returns c = λ under is inside.
    let at : ℕ → Totals = λ i. under (index_in_parent c.args.shared_tail.now i) in
    let e : c.loop-number.number ≡ c.args.shared_tail.now.erases = omega (arith, c.loop-number-test.false, c.loop-number.auto.number-end, c.erases-number-end.ensures) in
    c.loop-number.invariant under is inside ∙ ap (λ n. cut_off (from totals at n 0)) e
