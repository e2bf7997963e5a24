use Rattle.std.proofs.Common.{ℕ, ◌+◌, ◌≤◌, ap, ◌∙◌, arith}
use Rattle.mc_boot.specs.SharedTail.{index_in_parent}
use Rattle.mc_tree.specs.inner.Weights.{from}
use Rattle.mc_explore.specs.{inner.Table.{rest_from}, inner.Totals.{cut_off, totals}}
use Rattle.mc_explore.proofs.table.Level.with_shared_tail.Goals as goal

pub returns : goal.returns
returns c = λ under is inside.
    let x = c.args.shared_tail.now in
    let n : ℕ = c.args.self.now.count in
    let late : c.kept.result + c.erases.result ≤ n = omega (arith, inside.late, c.kept.ensures, c.erases.ensures) in
    let later = rw (c.kept.ensures, c.erases.ensures) at (c.rest-later.ensures under is late) in
    let lowered = c.first_lowered.ensures (rest_from under n (x.kept + x.erases)) later in
    c.merged.ensures (from totals (λ i. under (index_in_parent x i)) x.erases 0) (totals.first_lowered x.kept (rest_from under n (x.kept + x.erases))) (c.early.ensures under is inside)
    (lowered ∙ ap (λ j. cut_off (totals.first_lowered j (rest_from under n (x.kept + x.erases)))) c.kept-2.ensures)
