use Rattle.std.proofs.{Common.{inl, inr}, lemmas.Result.{err_from_is_err_and}}
use Rattle.mc_actions.proofs.life.read.Goals as goal

pub returns-in_err-start-clause-refused : goal.returns-in_err-start-clause-refused
returns-in_err-start-clause-refused g c =
    let p = err_from_is_err_and c.from_residual.result c.from_residual.ensures.1 in
    rw (p.1, p.2) (inl c.in_err-start.ensures.refused)

pub returns-in_err-script-clause-refused : goal.returns-in_err-script-clause-refused
returns-in_err-script-clause-refused g c =
    let p = err_from_is_err_and c.from_residual-in_err-script.result c.from_residual-in_err-script.ensures.1 in
    rw (p.1, p.2) (inr (c.in_ok-start.start, c.in_ok-start.ensures.given, inl c.in_err-script.ensures.refused))

pub returns-in_err-shelf-clause-refused : goal.returns-in_err-shelf-clause-refused
returns-in_err-shelf-clause-refused g c =
    let p = err_from_is_err_and c.from_residual-in_err-shelf.result c.from_residual-in_err-shelf.ensures.1 in
    rw (p.1, p.2) (inr (c.in_ok-start.start, c.in_ok-start.ensures.given, inr (_, c.in_ok-script.ensures.given, rw c.get_str-out.ensures at c.in_err-shelf.ensures.refused)))
