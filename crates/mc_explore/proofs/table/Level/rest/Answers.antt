use Rattle.std.proofs.Common.{ℕ, ap, ◌∙◌, ◌+◌, ◌-◌, ◌≡◌, arith, length, suc}
use Rattle.mc_tree.specs.inner.Weights.{from}
use Rattle.mc_explore.proofs.Runs.{rest_parts}
use Rattle.mc_explore.specs.{inner.Table.{rest_from}, inner.Runs.{begin_of}, inner.Totals.{cut_off, totals}}
use Rattle.mc_explore.proofs.table.Level.rest.Goals as goal

pub returns : goal.returns
returns c = λ under is le.
    let runs = c.args.self.now.runs.now in
    let n : ℕ = c.args.self.now.count in
    let level = is.level in
    let sums = is.sums in
    let number : ℕ = c.args.number in
    let r : ℕ = c.run_of-index.result in
    let here = c.run_of-index.ensures.begins n level.alike.split is.some le in
    let one : r + 1 ≡ suc r = omega arith in
    let end = c.begin_at.ensures ∙ ap (begin_of runs n) one in
    let times = c.saturating_sub-times.ensures ∙ ap (λ x. x - number) end in
    let own = c.census_at.ensures (λ r. under (begin_of runs n r)) level.cut_offs (omega (arith, here.some, level.many)) in
    let part = c.repeated.ensures (under (begin_of runs n r)) own ∙ ap (λ k. cut_off (from totals (λ _. under (begin_of runs n r)) k number)) times in
    let at : length runs - c.saturating_sub.result ≡ suc r = omega (arith, c.saturating_sub.ensures, here.some) in
    let later = c.census_at-later.ensures (λ k. rest_from under n (begin_of runs n (length runs - k))) sums.1 (omega (arith, c.saturating_sub.ensures, sums.0))
    ∙ ap (λ k. cut_off (rest_from under n (begin_of runs n k))) at in
    c.merged.ensures _ (rest_from under n (begin_of runs n (suc r))) part later ∙ ap cut_off (rest_parts under n runs c.args.self.now.censuses.now level number r here.some here.first here.at_most)
