use Rattle.std.proofs.lemmas.Result.{err_from_is_err_and}
use Rattle.std.proofs.KnownBytes.{Appends-trans}
use Rattle.mc_explore.specs.Subject.{are_lawful}
use Rattle.mc_options.proofs.Begun.{first_begun, then_begun}
use Rattle.mc_verdict.proofs.Paging.{survey_broken, survey_judged}
use Rattle.mc_verdict.proofs.explore.survey.Goals as goal

pub returns-in_err-write_tally : goal.returns-in_err-write_tally
returns-in_err-write_tally g c =
    let x = g.X.Subject.subject in
    let e = err_from_is_err_and c.from_residual-in_err-write_tally.result c.from_residual-in_err-write_tally.ensures.1 in
    survey_broken x (are_lawful x g.met.X.Subject.laws.order g.met.X.Subject.laws.some_rest) g.X.Subject.fields _ _ _ _ c.in_ok-wanted.ensures _ _ c.in_ok-tally.ensures.counts _ _ e.0 e.1 e.2
    (first_begun _ _ _ _ c.in_err-write_tally.ensures.prefix)

pub returns-in_err-write_lines : goal.returns-in_err-write_lines
returns-in_err-write_lines g c =
    let x = g.X.Subject.subject in
    let e = err_from_is_err_and c.from_residual-in_err-write_lines.result c.from_residual-in_err-write_lines.ensures.1 in
    survey_broken x (are_lawful x g.met.X.Subject.laws.order g.met.X.Subject.laws.some_rest) g.X.Subject.fields _ _ _ _ c.in_ok-wanted.ensures _ _ c.in_ok-tally.ensures.counts _ _ e.0 e.1 e.2
    (then_begun _ _ _ _ _ c.in_ok-write_tally.ensures.whole c.in_err-write_lines.ensures.prefix)

pub returns : goal.returns
returns g c =
    let x = g.X.Subject.subject in
    survey_judged x (are_lawful x g.met.X.Subject.laws.order g.met.X.Subject.laws.some_rest) g.X.Subject.fields _ _ _ _ c.in_ok-wanted.ensures _ _ c.in_ok-tally.ensures.counts _ _
    (Appends-trans _ _ _ _ _ c.in_ok-write_tally.ensures.whole c.in_ok-write_lines.ensures.whole) c.judge.ensures
