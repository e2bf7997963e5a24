use Rattle.std.proofs.Common.{inr}
use Rattle.std.proofs.lemmas.Result.{err_from_is_err_and}
use Rattle.mc_verdict.proofs.Paging.{of_survey}
use Rattle.mc_verdict.proofs.explore.tally.Goals as goal

pub returns-clause-counts : goal.returns-clause-counts
returns-clause-counts g c = record {
  explorer = c.in_ok-explorer.explorer;
  begins = c.in_ok-explorer.ensures;
  new = _;
  counts = c.in_ok-survey_rows.ensures.surveys;
}

pub returns-in_err-survey_rows-clause-err : goal.returns-in_err-survey_rows-clause-err
returns-in_err-survey_rows-clause-err g c =
    let e = err_from_is_err_and c.from_residual-in_err-survey_rows.result c.from_residual-in_err-survey_rows.ensures.1 in
    rw e.1 (inr (of_survey _ _ e.2 c.in_err-survey_rows.ensures.err))
