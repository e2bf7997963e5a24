use Rattle.std.proofs.{KnownBytes.{Appends-trans}, lemmas.Result.{on_err_weaker, on_ok_weaker}}
use Rattle.mc_options.proofs.Begun.{any_err, first_begun, then_begun}
use Rattle.mc_verdict.proofs.census.write_counts.Goals as goal

pub returns-in_err-write_census-clause-prefix : goal.returns-in_err-write_census-clause-prefix
returns-in_err-write_census-clause-prefix g c = any_err _ (first_begun _ _ _ _ c.in_err-write_census.ensures.prefix)

pub returns-in_err-write_lines-clause-prefix : goal.returns-in_err-write_lines-clause-prefix
returns-in_err-write_lines-clause-prefix g c =
    any_err _ (then_begun _ _ _ _ _ c.in_ok-write_census.ensures.whole (first_begun _ _ _ _ c.in_err-write_lines.ensures.prefix))

pub returns-clause-whole : goal.returns-clause-whole
returns-clause-whole g c =
    let last = rw c.is_some.ensures at c.write_shortest.ensures.whole in
    on_ok_weaker c.write_shortest.result (λ out. Appends-trans _ _ _ _ _ c.in_ok-write_census.ensures.whole (Appends-trans _ _ _ _ _ c.in_ok-write_lines.ensures.whole out)) last

pub returns-clause-prefix : goal.returns-clause-prefix
returns-clause-prefix g c =
    let last = rw c.is_some.ensures at c.write_shortest.ensures.prefix in
    on_err_weaker c.write_shortest.result (λ out. then_begun _ _ _ _ _ c.in_ok-write_census.ensures.whole (then_begun _ _ _ _ _ c.in_ok-write_lines.ensures.whole out)) last
