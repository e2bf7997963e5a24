use Rattle.std.proofs.Common.{inl, inr}
use Rattle.std.proofs.lemmas.Result.{err_from_is_err_and}
use Rattle.mc_explore.specs.Subject.{are_lawful}
use Rattle.mc_start.specs.Start.{begun}
use Rattle.mc_verdict.proofs.Answering.{counted}
use Rattle.mc_verdict.proofs.census.conclude.Goals as goal

pub returns-in_err-write_counts : goal.returns-in_err-write_counts
returns-in_err-write_counts g c are =
    let e = err_from_is_err_and c.from_residual.result c.from_residual.ensures.1 in
    inr (e.0, e.1, e.2, c.in_err-write_counts.ensures.prefix)

pub returns : goal.returns
returns g c are =
    let w = c.args.wanted.now in
    let x = g.X.Subject.subject in
    let lawful = are_lawful x g.met.X.Subject.laws.order g.met.X.Subject.laws.some_rest in
    let of = counted x lawful are.expectation (begun w.start) w.choice w.cuts c.args.counts.now.rights are.comes_to.rows are.comes_to.rest are.rights in
    inl (c.judge.ensures _ _ are.comes_to.census_is of, c.in_ok-write_counts.ensures.whole)
