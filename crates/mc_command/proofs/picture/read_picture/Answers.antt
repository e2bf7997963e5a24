use Rattle.std.proofs.{Common.{inl, inr}, lemmas.Result.{err_from_is_err_and}}
use Rattle.mc_command.proofs.picture.read_picture.Goals as goal

pub returns-in_err-torn-clause-refused : goal.returns-in_err-torn-clause-refused
returns-in_err-torn-clause-refused g c =
    let p = err_from_is_err_and c.from_residual.result c.from_residual.ensures.1 in
    rw (p.1, p.2) (inl c.in_err-torn.ensures.refused)

pub returns-in_err-given-clause-refused : goal.returns-in_err-given-clause-refused
returns-in_err-given-clause-refused g c =
    let p = err_from_is_err_and c.from_residual-in_err-given.result c.from_residual-in_err-given.ensures.1 in
    rw (p.1, p.2) (inr (_, c.in_ok-torn.ensures.given, c.in_err-given.ensures.refused))
