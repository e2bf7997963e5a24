use Rattle.std.proofs.{Common.{arith, ap}, lemmas.Bool.Decides.{nat_tests}, lemmas.List.Elements.{All-from_recursion, recursion_from_All}}
use Rattle.mc_explore.specs.declared.tally.TallyOf.{TallyOf}
use Rattle.mc_explore.proofs.Counted.{all_counted, counted}
use Rattle.mc_explore.proofs.tally.all_boot.Goals as goal

pub returns : goal.returns
returns g c = λ page is.
    let ends = g.X.Subject.subject.ends in
    let boot = ap (λ (t : TallyOf g.row.X-Cursor.Denot). t.boot) is in
    let rows = ap (λ (t : TallyOf g.row.X-Cursor.Denot). t.rows) is in (
      λ same. All-from_recursion _ page.rows (counted ends page.rows (grind (arith, nat_tests))),
      λ all. let whole = all_counted ends page.rows (recursion_from_All _ page.rows all) in grind (arith, nat_tests),
    )
