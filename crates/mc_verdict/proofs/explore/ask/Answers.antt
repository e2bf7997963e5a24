use Rattle.std.proofs.{Common.{inl, inr}, lemmas.Result.{err_from_is_err_and}}
use Rattle.mc_verdict.proofs.explore.ask.Goals as goal

pub returns-in-Err-clause-refused : goal.returns-in-Err-clause-refused
returns-in-Err-clause-refused g c = inr (_, c.in_ok-asked.ensures.given, inl c.in-Err.ensures.refused)

pub returns-in_err-extent-clause-refused : goal.returns-in_err-extent-clause-refused
returns-in_err-extent-clause-refused g c =
    let p = err_from_is_err_and c.from_residual-in_err-extent.result c.from_residual-in_err-extent.ensures.1 in
    rw (p.1, p.2) (inr (_, c.in_ok-asked.ensures.given, inr (_, c.in-Ok.ensures.given, inl c.in_err-extent.ensures.refused)))

pub returns-in_err-range-clause-refused : goal.returns-in_err-range-clause-refused
returns-in_err-range-clause-refused g c =
    let p = err_from_is_err_and c.from_residual-in_err-range.result c.from_residual-in_err-range.ensures.1 in
    rw (p.1, p.2) (inr (_, c.in_ok-asked.ensures.given, inr (_, c.in-Ok.ensures.given, inr (_, c.in_ok-extent.ensures.given, inl c.in_err-range.ensures.refused))))

pub returns-in_err-check-clause-refused : goal.returns-in_err-check-clause-refused
returns-in_err-check-clause-refused g c =
    let p = err_from_is_err_and c.from_residual-in_err-check.result c.from_residual-in_err-check.ensures.1 in
    rw (p.1, p.2) (inr (
      _,
      c.in_ok-asked.ensures.given,
      inr (
        _,
        c.in-Ok.ensures.given,
        inr (
          _,
          c.in_ok-extent.ensures.given,
          inr (_, c.in_ok-range.ensures.given, inl c.in_err-check.ensures.refused),
        ),
      ),
    ))

pub returns-in_err-read_start-clause-refused : goal.returns-in_err-read_start-clause-refused
returns-in_err-read_start-clause-refused g c =
    let p = err_from_is_err_and c.from_residual-in_err-read_start.result c.from_residual-in_err-read_start.ensures.1 in
    rw (p.1, p.2) (inr (
      _,
      c.in_ok-asked.ensures.given,
      inr (
        _,
        c.in-Ok.ensures.given,
        inr (
          _,
          c.in_ok-extent.ensures.given,
          inr (_, c.in_ok-range.ensures.given, inr (c.in_ok-check.ensures.judged, c.in_err-read_start.ensures.refused)),
        ),
      ),
    ))

pub returns-clause-given : goal.returns-clause-given
returns-clause-given g c = record {
  options = c.in-Ok.options;
  options_given = c.in-Ok.ensures.given;
  start = c.in_ok-read_start.ensures.given;
  choice = c.chosen-choice.ensures;
  images_return = c.images_return.ensures;
  extent = c.in_ok-extent.ensures.given;
  range = c.in_ok-range.ensures.given;
  asked = c.in_ok-asked.ensures.given;
  judged = c.in_ok-check.ensures.judged;
}
