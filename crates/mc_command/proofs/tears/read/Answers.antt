use Rattle.std.proofs.{Common.{inl, inr}, lemmas.Result.{err_from_is_err_and}}
use Rattle.mc_command.proofs.tears.read.Goals as goal

pub returns-clause-given : goal.returns-clause-given
returns-clause-given g c = record {
  layout = c.in_ok-layout.layout;
  layout_given = c.in_ok-layout.ensures.given;
  judged = c.in_ok-check.ensures.judged;
  asked = c.in_ok-asked.ensures.given;
  erasing = c.in_ok-erasing.ensures.given;
  all = (c.get_flag.ensures.value, c.get_flag.ensures.other, c.get_flag.ensures.none);
  file = c.in_ok-file.ensures.given;
  start = c.in_ok-start.ensures.given;
}

pub returns-in_err-layout-clause-refused : goal.returns-in_err-layout-clause-refused
returns-in_err-layout-clause-refused g c =
    let p = err_from_is_err_and c.from_residual.result c.from_residual.ensures.1 in
    rw (p.1, p.2) (inl c.in_err-layout.ensures.refused)

pub returns-in_err-asked-clause-refused : goal.returns-in_err-asked-clause-refused
returns-in_err-asked-clause-refused g c =
    let p = err_from_is_err_and c.from_residual-in_err-asked.result c.from_residual-in_err-asked.ensures.1 in
    rw (p.1, p.2) (inr (_, c.in_ok-layout.ensures.given, inl c.in_err-asked.ensures.refused))

pub returns-in_err-check-clause-refused : goal.returns-in_err-check-clause-refused
returns-in_err-check-clause-refused g c =
    let p = err_from_is_err_and c.from_residual-in_err-check.result c.from_residual-in_err-check.ensures.1 in
    rw (p.1, p.2) (inr (_, c.in_ok-layout.ensures.given, inr (_, c.in_ok-asked.ensures.given, inl c.in_err-check.ensures.refused)))

pub returns-in_err-erasing-clause-refused : goal.returns-in_err-erasing-clause-refused
returns-in_err-erasing-clause-refused g c =
    let p = err_from_is_err_and c.from_residual-in_err-erasing.result c.from_residual-in_err-erasing.ensures.1 in
    rw (p.1, p.2) (inr (
      _,
      c.in_ok-layout.ensures.given,
      inr (
        _,
        c.in_ok-asked.ensures.given,
        inr (tt, c.in_ok-check.ensures.judged, inl c.in_err-erasing.ensures.refused),
      ),
    ))

pub returns-in_err-file-clause-refused : goal.returns-in_err-file-clause-refused
returns-in_err-file-clause-refused g c =
    let p = err_from_is_err_and c.from_residual-in_err-file.result c.from_residual-in_err-file.ensures.1 in
    rw (p.1, p.2) (inr (
      _,
      c.in_ok-layout.ensures.given,
      inr (
        _,
        c.in_ok-asked.ensures.given,
        inr (tt, c.in_ok-check.ensures.judged, inr (_, c.in_ok-erasing.ensures.given, inl c.in_err-file.ensures.refused)),
      ),
    ))

pub returns-in_err-start-clause-refused : goal.returns-in_err-start-clause-refused
returns-in_err-start-clause-refused g c =
    let p = err_from_is_err_and c.from_residual-in_err-start.result c.from_residual-in_err-start.ensures.1 in
    rw (p.1, p.2) (inr (
      _,
      c.in_ok-layout.ensures.given,
      inr (
        _,
        c.in_ok-asked.ensures.given,
        inr (tt, c.in_ok-check.ensures.judged, inr (_, c.in_ok-erasing.ensures.given, inr (_, c.in_ok-file.ensures.given, c.in_err-start.ensures.refused))),
      ),
    ))
