use Rattle.std.proofs.{Common.{inl, inr}, lemmas.Result.{err_from_is_err_and}}
use Rattle.mc_actions.proofs.vectors.read.Goals as goal

pub returns-in-Err-clause-refused : goal.returns-in-Err-clause-refused
returns-in-Err-clause-refused g c = inl c.in-Err.ensures.refused

pub returns-in_err-cuts-clause-refused : goal.returns-in_err-cuts-clause-refused
returns-in_err-cuts-clause-refused g c =
    let p = err_from_is_err_and c.from_residual.result c.from_residual.ensures.1 in
    rw (p.1, p.2) (inr (_, c.in-Ok.ensures.given, inl c.in_err-cuts.ensures.refused))

pub returns-in_err-torn-clause-refused : goal.returns-in_err-torn-clause-refused
returns-in_err-torn-clause-refused g c =
    let p = err_from_is_err_and c.from_residual-in_err-torn.result c.from_residual-in_err-torn.ensures.1 in
    rw (p.1, p.2) (inr (_, c.in-Ok.ensures.given, inr (_, c.in_ok-cuts.ensures.given, inl c.in_err-torn.ensures.refused)))

pub returns-in_err-folder-clause-refused : goal.returns-in_err-folder-clause-refused
returns-in_err-folder-clause-refused g c =
    let p = err_from_is_err_and c.from_residual-in_err-folder.result c.from_residual-in_err-folder.ensures.1 in
    rw (p.1, p.2) (inr (_, c.in-Ok.ensures.given, inr (_, c.in_ok-cuts.ensures.given, inr (_, c.in_ok-torn.ensures.given, inl c.in_err-folder.ensures.refused))))

pub returns-in_err-start-clause-refused : goal.returns-in_err-start-clause-refused
returns-in_err-start-clause-refused g c =
    let p = err_from_is_err_and c.from_residual-in_err-start.result c.from_residual-in_err-start.ensures.1 in
    rw (p.1, p.2) (inr (_, c.in-Ok.ensures.given, inr (_, c.in_ok-cuts.ensures.given, inr (_, c.in_ok-torn.ensures.given, inr (_, c.in_ok-folder.ensures.given, c.in_err-start.ensures.refused)))))
