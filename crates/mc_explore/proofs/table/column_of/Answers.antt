use Rattle.std.proofs.{Common.{◌≡◌, ℕ, suc, ◌+◌, List, subst, [], ◌∷◌, ◌++◌, length, replicate, ap, arith}, lemmas.Grind.{common_steps}}
use Rattle.std.proofs.lemmas.List.{length-append, length-replicate}
use Rattle.mc_explore.specs.{inner.Table.{IsLevel}, inner.Totals.{merged, totals}}
use Rattle.mc_explore.proofs.{Counting.{Census, more_cut_off}, Runs.{all_there, none_cut_off}}
use Rattle.mc_tree.specs.inner.Weights.{from}
use Rattle.mc_explore.proofs.table.column_of.Goals as goal

pub loop-fewer-init : goal.loop-fewer-init
loop-fewer-init c = grind (arith, replicate, common_steps, length-replicate, none_cut_off)

pub loop-fewer-preserved : goal.loop-fewer-preserved
loop-fewer-preserved c =
    let i = c.loop-fewer.invariant in
    let runs = c.args.runs.now in
    let n : ℕ = c.args.count in
    let d : ℕ = c.loop-fewer.fewer in
    let old : List Census = c.loop-fewer.column.items in
    let one : Census = c.merged.result in
    let pushed : c.push.new.self.items ≡ old ++ one ∷ [] = c.in_ok-push.ensures.items in
    let summed = rw c.deref.ensures.value at c.in_ok-sums.ensures in
    let last = rw c.deref-in-loop-fewer.ensures.value at c.census_at.ensures in
    record {
      many = omega (arith, ap length pushed, length-append old (one ∷ []), i.many);
      column = λ alone under own zero are.
          let here = i.level under zero are in
          let sum = all_there (under d) n runs _ here _ (summed (under d) here) c.census_at.result last in
          more_cut_off (λ k. merged alone (from totals (under k) n 0)) old _ one d pushed i.many (i.column alone under own zero are) (c.merged.ensures alone (from totals (under d) n 0) own sum);
      level = λ under zero are.
          let here = i.level under zero are in
          let next = rw c.deref-in-loop-fewer-3.ensures.value at (rw c.deref-in-loop-fewer-2.ensures.value at c.in_ok-level.ensures) in
          let one : suc d ≡ d + 1 = omega arith in
          subst (λ m. IsLevel (under m) n runs c.in_ok-level.level.items) one (next under c.args.bound are here (summed (under d) here) (omega (arith, c.loop-fewer-test.true)));
    }

pub returns : goal.returns
returns c = λ alone under own zero are.
    let i = c.loop-fewer.invariant in
    let runs = c.args.runs.now in
    let n : ℕ = c.args.count in
    let d : ℕ = c.loop-fewer.fewer in
    let old : List Census = c.loop-fewer.column.items in
    let one : Census = c.merged-2.result in
    let pushed : c.push-2.new.self.items ≡ old ++ one ∷ [] = c.in_ok-push-2.ensures.items in
    let summed = rw c.deref-2.ensures.value at c.in_ok-sums-2.ensures in
    let last = rw c.deref-3.ensures.value at c.census_at-2.ensures in
    let here = i.level under zero are in
    let sum = all_there (under d) n runs _ here _ (summed (under d) here) c.census_at-2.result last in (
      omega (arith, ap length pushed, length-append old (one ∷ []), i.many, c.loop-fewer-test.false, c.loop-fewer.auto.fewer-end),
      more_cut_off (λ k. merged alone (from totals (under k) n 0)) old _ one d pushed i.many (i.column alone under own zero are) (c.merged-2.ensures alone (from totals (under d) n 0) own sum),
    )
