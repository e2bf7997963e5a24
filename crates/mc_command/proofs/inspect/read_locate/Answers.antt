use Rattle.std.proofs.{Common.{inl, inr, refl, rules}, lemmas.Result.{err_from_is_err_and}}
use Rattle.mc_command.proofs.inspect.read_locate.Goals as goal

pub returns-in-Err-clause-refused : goal.returns-in-Err-clause-refused
returns-in-Err-clause-refused g c = inl c.in-Err.ensures.refused

pub returns-in_err-images-clause-refused : goal.returns-in_err-images-clause-refused
returns-in_err-images-clause-refused g c =
    let p = err_from_is_err_and c.from_residual.result c.from_residual.ensures.1 in
    rw (p.1, p.2) (inr (_, c.in-Ok.ensures.layout, inl c.in_err-images.ensures.refused))

pub returns-in_err-flash-clause-refused : goal.returns-in_err-flash-clause-refused
returns-in_err-flash-clause-refused g c =
    let p = err_from_is_err_and c.from_residual-in_err-flash.result c.from_residual-in_err-flash.ensures.1 in
    rw (p.1, p.2) (inr (_, c.in-Ok.ensures.layout, inr (inr (_, c.in-Ok.ensures.layout, (c.in-Ok.dump.path.now, c.in-Ok.ensures.path, c.in_err-flash.ensures.refused)))))

pub returns-in_default-clause-refused : goal.returns-in_default-clause-refused
returns-in_default-clause-refused g c = inr (_, c.in-Ok.ensures.layout, inr (inl (refl, search rules)))
