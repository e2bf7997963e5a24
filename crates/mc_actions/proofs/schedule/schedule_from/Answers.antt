use Rattle.std.proofs.{Common.{inl, inr}, lemmas.Result.{err_from_is_err_and}}
use Rattle.mc_actions.proofs.schedule.schedule_from.Goals as goal

pub returns-in-Err-clause-refused : goal.returns-in-Err-clause-refused
returns-in-Err-clause-refused g c = inl c.in-Err.ensures.refused

pub returns-in_err-schedule-clause-refused : goal.returns-in_err-schedule-clause-refused
returns-in_err-schedule-clause-refused g c =
    let p = err_from_is_err_and c.from_residual.result c.from_residual.ensures.1 in
    rw (p.1, p.2) (inr (_, c.in-Ok.ensures.given, inl c.in_err-schedule.ensures.refused))

pub returns-in_err-check_outputs-clause-refused : goal.returns-in_err-check_outputs-clause-refused
returns-in_err-check_outputs-clause-refused g c =
    let p = err_from_is_err_and c.from_residual-in_err-check_outputs.result c.from_residual-in_err-check_outputs.ensures.1 in
    rw (p.1, p.2) (inr (_, c.in-Ok.ensures.given, inr (_, c.in_ok-schedule.ensures.given, inl c.in_err-check_outputs.ensures.refused)))

pub returns-in_err-start-clause-refused : goal.returns-in_err-start-clause-refused
returns-in_err-start-clause-refused g c =
    let p = err_from_is_err_and c.from_residual-in_err-start.result c.from_residual-in_err-start.ensures.1 in
    rw (p.1, p.2) (inr (_, c.in-Ok.ensures.given, inr (_, c.in_ok-schedule.ensures.given, inr (c.in_ok-check_outputs.ensures.kept, c.in_err-start.ensures.refused))))
