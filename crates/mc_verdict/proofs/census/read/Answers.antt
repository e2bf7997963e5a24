use Rattle.std.proofs.{Common.{inl, inr}, lemmas.Result.{err_from_is_err_and}}
use Rattle.mc_verdict.proofs.census.read.Goals as goal

pub returns-in-Err-clause-refused : goal.returns-in-Err-clause-refused
returns-in-Err-clause-refused g c = inl c.in-Err.ensures.refused

pub returns-in_err-cuts-clause-refused : goal.returns-in_err-cuts-clause-refused
returns-in_err-cuts-clause-refused g c =
    let p = err_from_is_err_and c.from_residual.result c.from_residual.ensures.1 in
    rw (p.1, p.2) (inr (_, c.in-Ok.ensures.given, inl c.in_err-cuts.ensures.refused))

pub returns-in_err-asked-clause-refused : goal.returns-in_err-asked-clause-refused
returns-in_err-asked-clause-refused g c =
    let p = err_from_is_err_and c.from_residual-in_err-asked.result c.from_residual-in_err-asked.ensures.1 in
    rw (p.1, p.2) (inr (_, c.in-Ok.ensures.given, inr (_, c.in_ok-cuts.ensures.given, inl c.in_err-asked.ensures.refused)))

pub returns-in_err-check-clause-refused : goal.returns-in_err-check-clause-refused
returns-in_err-check-clause-refused g c =
    let p = err_from_is_err_and c.from_residual-in_err-check.result c.from_residual-in_err-check.ensures.1 in
    rw (p.1, p.2) (inr (_, c.in-Ok.ensures.given, inr (_, c.in_ok-cuts.ensures.given, inr (_, c.in_ok-asked.ensures.given, inl c.in_err-check.ensures.refused))))

pub returns-in_err-read_start-clause-refused : goal.returns-in_err-read_start-clause-refused
returns-in_err-read_start-clause-refused g c =
    let p = err_from_is_err_and c.from_residual-in_err-read_start.result c.from_residual-in_err-read_start.ensures.1 in
    rw (p.1, p.2) (inr (_, c.in-Ok.ensures.given, inr (_, c.in_ok-cuts.ensures.given, inr (_, c.in_ok-asked.ensures.given, inr (c.in_ok-check.ensures.judged, c.in_err-read_start.ensures.refused)))))

pub returns-clause-given : goal.returns-clause-given
returns-clause-given g c = record {
  options = c.in-Ok.options;
  options_given = c.in-Ok.ensures.given;
  start = c.in_ok-read_start.ensures.given;
  choice = c.chosen-choice.ensures;
  images_return = c.images_return.ensures;
  cuts = c.in_ok-cuts.ensures.given;
  asked = c.in_ok-asked.ensures.given;
  judged = c.in_ok-check.ensures.judged;
}
