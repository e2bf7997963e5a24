use Rattle.std.proofs.Common.{ℕ, suc, sym, ap, ◌∙◌, arith}
use Rattle.mc_boot.specs.{Outcome.{shown}, SharedTail.{index_in_parent}}
use Rattle.mc_tree.specs.inner.Weights.{shared_below}
use Rattle.mc_explore.specs.{inner.Table.{IsColumn, IsJoined}, inner.Totals.{cut_off, report_totals, totals}}
use Rattle.mc_explore.proofs.table.Level.next.Goals as goal

pub returns-in-Joined : goal.returns-in-Joined
returns-in-Joined c = λ under most i is here lt.
    let x = c.in-Joined.shared_tail in
    let d : ℕ = c.args.bound in
    let n : ℕ = c.args.self.now.count in
    let joined : IsJoined under n most i c.args.run.now.of.outcome x = rw c.in-Joined.is at here in
    c.merged.ensures (report_totals (shown c.args.run.now.of.outcome)) (shared_below totals (under d) n x.kept x.erases (index_in_parent x)) c.of-own.ensures
    (c.with_shared_tail.ensures (under d) is joined.inside)
    ∙ ap cut_off (sym (joined.weighs d))

pub returns-in-Apart : goal.returns-in-Apart
returns-in-Apart c = λ under most i is here lt.
    let there : IsColumn (λ d. under (suc d) i) most c.deref.result.now = rw c.deref.ensures.value (rw c.in-Apart.is at here) in
    c.census_at.ensures (λ d. under (suc d) i) there.1 (omega (arith, lt, there.0))
