use Rattle.std.proofs.{Common.{◌≡◌, ℕ, suc, List, [], ◌∷◌, ◌++◌, length, refl, sym, ap, ◌∙◌, arith}, lemmas.List.{length-append}}
use Rattle.std.proofs.lemmas.Option.{slice_get_read}
use Rattle.mc_explore.proofs.{Counting.{Census, more_cut_off}, Runs.{begin_is}}
use Rattle.mc_explore.specs.{inner.Runs.{begin_of}, inner.Totals.{cut_off}}
use Rattle.mc_explore.proofs.table.next_level.Goals as goal

pub loop-run-preserved : goal.loop-run-preserved
loop-run-preserved c =
    let i = c.loop-run.invariant in
    let runs = c.args.level.now.runs.now in
    let index : ℕ = c.loop-run.run-index in
    let old : List Census = c.loop-run.next.items in
    let one : Census = c.next.result in
    let pushed : c.push.new.self.items ≡ old ++ one ∷ [] = c.in_ok-push.ensures.items in
    let item = slice_get_read runs (length runs) index c.run-item.result refl (omega (arith, c.loop-run-test.true)) c.run-item.is in
    record {
      many = omega (arith, ap length pushed, length-append old (one ∷ []), i.many);
      cut_offs = λ under most are level sums lt.
          let here = c.next.ensures under most _ (record { some = omega (arith, c.loop-run-test.true); level = level; sums = sums }) (are.child index c.run-item.result item) lt in
          more_cut_off (λ r. under (suc c.args.bound) (begin_of runs c.args.level.now.count r)) old _ one index pushed i.many (i.cut_offs under most are level sums lt)
          (here ∙ ap (λ k. cut_off (under (suc c.args.bound) k)) (sym (begin_is runs c.args.level.now.count index c.run-item.result item)));
    }

pub returns : goal.returns
returns c = λ under most are level sums lt.
    let i = c.loop-run.invariant in
    record {
      alike = record { split = are.alike.split; each = λ r i run is le below. are.alike.each r i run is le below (suc c.args.bound) };
      many = omega (arith, i.many, c.loop-run-test.false, c.loop-run.auto.run-index-end);
      cut_offs = i.cut_offs under most are level sums lt;
    }
