use Rattle.std.proofs.{Common.{inl, inr}, lemmas.Result.{err_from_is_err_and}}
use Rattle.mc_command.proofs.inspect.Dump.named.Goals as goal

pub returns-in_err-layout-clause-refused : goal.returns-in_err-layout-clause-refused
returns-in_err-layout-clause-refused c =
    let p = err_from_is_err_and c.from_residual.result c.from_residual.ensures.1 in
    rw (p.1, p.2) (inl (inl c.in_err-layout.ensures.refused))

pub returns-in_err-rules-clause-refused : goal.returns-in_err-rules-clause-refused
returns-in_err-rules-clause-refused c =
    let p = err_from_is_err_and c.from_residual-in_err-rules.result c.from_residual-in_err-rules.ensures.1 in
    rw (p.1, p.2) (inl (inr c.in_err-rules.ensures.refused))
