use Rattle.std.proofs.{Common.{◌≡◌, ◌<◌, ℕ, suc, ◌+◌, ◌-◌, ◌∷◌, ◌++◌, [], length, List, ap, sym, ◌∙◌, arith}, lemmas.List.{length-append}}
use Rattle.mc_tree.specs.inner.Weights.{from}
use Rattle.mc_explore.specs.{inner.Table.{IsLevel, rest_from}, inner.Runs.{begin_of}, inner.Totals.{Totals, cut_off, totals}}
use Rattle.mc_explore.proofs.{Counting.{Census, more_cut_off}, Runs.{none_left, rest_parts}}
use Rattle.mc_explore.proofs.table.sums.Goals as goal

pub loop-later-init : goal.loop-later-init
loop-later-init c = grind (arith, none_left, more_cut_off)

pub loop-later-preserved : goal.loop-later-preserved
loop-later-preserved c =
    let i = c.loop-later.invariant in
    let runs = c.args.runs.now in
    let n : ℕ = c.args.count in
    let later : ℕ = c.loop-later.later in
    let r : ℕ = length runs - 1 - later in
    let first : ℕ = begin_of runs n r in
    let end : ℕ = begin_of runs n (suc r) in
    let old : List Census = c.loop-later.sums.items in
    let one : Census = c.merged-sum.result in
    let pushed : c.push-in-loop-later.new.self.items ≡ old ++ one ∷ [] = c.in_ok-push-2.ensures.items in
    let lt : r < length runs = omega (arith, c.loop-later-test.true) in
    let next : r + 1 ≡ suc r = omega arith in
    let after : length runs - later ≡ suc r = omega (arith, c.loop-later-test.true) in
    let at : length runs - (later + 1) ≡ r = omega arith in
    let end_is = c.begin_at.ensures ∙ ap (begin_of runs n) next in
    let times : c.saturating_sub-times.result ≡ end - first = omega (arith, c.saturating_sub-times.ensures, c.begin_at-first.ensures, end_is) in
    let sum_is : (under : ℕ → Totals) → IsLevel under n runs c.args.level.now → one ≡ cut_off (rest_from under n (begin_of runs n (length runs - (later + 1)))) = λ under level.
    let a : Totals = under first in
    let own = c.census_at.ensures (λ r. under (begin_of runs n r)) level.cut_offs (omega (arith, lt, level.many)) in
    let part = c.repeated.ensures a own ∙ ap (λ k. cut_off (from totals (λ _. a) k c.begin_at-first.result)) times
    ∙ ap (λ i. cut_off (from totals (λ _. a) (end - first) i)) c.begin_at-first.ensures in
    let rest = i.sum under level ∙ ap (λ k. cut_off (rest_from under n (begin_of runs n k))) after in
    c.merged-sum.ensures _ (rest_from under n end) part rest
    ∙ ap cut_off (rest_parts under n runs c.args.level.now level first r lt (omega arith) (omega (arith, level.alike.split.rising r lt)))
    ∙ ap (λ k. cut_off (rest_from under n (begin_of runs n k))) (sym at) in
    record {
      many = omega (arith, ap length pushed, length-append old (one ∷ []), i.many);
      sum = sum_is;
      sums = λ under level. more_cut_off (λ k. rest_from under n (begin_of runs n (length runs - k))) old _ one (later + 1) pushed i.many (i.sums under level) (sum_is under level);
    }
