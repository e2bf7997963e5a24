use Rattle.std.proofs.Common.{arith, refl, sym, ◌∙◌, length, ap, List, ℕ}
use Rattle.mc_explore.proofs.BootLast.{row_told, told_alike}
use Rattle.mc_explore.proofs.LastCuts.{kept_more}
use Rattle.mc_explore.specs.inner.{BootRows.{AreLikePaths, EndSoAt, node_of}, BootTree.{begins_of, model_of, summaries_at}}
use Rattle.mc_explore.proofs.last_cuts.tell.Goals as goal

pub returns-then-cuts-bound-clause-kept : goal.returns-then-cuts-bound-clause-kept
returns-then-cuts-bound-clause-kept g c = λ kept.
    let t = c.args.walk.now.flash_tree in
    let k = model_of t in
    let path = c.cuts-cuts.ensures.value ∙ c.requires.path in
    kept_more k (AreLikePaths t) (EndSoAt t) (told_alike t) c.args.kept.now c.keep.new.kept kept c.cuts-cuts.result.now c.in_ok-index.index c.args.row.now.ends
    (c.keep.ensures.kept t) c.keep.ensures.path c.keep.ensures.joined c.in_ok-index.ensures (rw (sym path) at c.requires.listed.1)
    (row_told t c.cuts-cuts.result.now c.args.row.now (rw (sym path) at c.requires.row))

pub returns-clause-kept : goal.returns-clause-kept
returns-clause-kept g c = c.find_last_cuts.ensures.kept

pub returns-clause-ahead : goal.returns-clause-ahead
returns-clause-ahead g c =
    let t = c.args.walk.now.flash_tree in
    let are = c.in_ok-shared_tail.ensures.cuts in
    let path = c.cuts-cuts.ensures.value in
    let summary = summaries_at t c.args.path.now c.summary.result.now (rw (sym c.requires.path) at c.summary.ensures.summary_is) in
    let row = rw (sym c.requires.path) at c.requires.row in
    let last = rw path at are in
    record {
      beyond = record {
        deep = omega (arith, c.if-cuts-bound-2.false, ap (λ (l : List ℕ). length l) path);
        listed = rw (sym c.requires.path) at c.requires.listed;
        are = record {
          are = last;
          cuts_are = row.cuts_are;
          in_first_is = c.first_width.ensures (begins_of t) t.rounds (node_of t c.args.path.now) summary;
          first_is = row.ends_so.first;
        };
        count_is = last.count_is;
        some = last.some;
        small = last.small;
      };
      fresh = refl;
      none = refl;
    }
