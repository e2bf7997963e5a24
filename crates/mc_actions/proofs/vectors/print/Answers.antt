use Rattle.std.proofs.{Common.{inl, inr, refl}, lemmas.Result.{err_from_is_err_and}}
use Rattle.mc_actions.proofs.vectors.print.Goals as goal

pub returns-in_err-write : goal.returns-in_err-write
returns-in_err-write g c =
    let p = err_from_is_err_and c.from_residual-in_err-write.result c.from_residual-in_err-write.ensures.1 in
    inr (inr (p.0, p.1, p.2, record { table = c.in_ok-table.table; are = c.in_ok-table.ensures.found }, rw c.requires.printed c.in_err-write.ensures.prefix))

pub returns : goal.returns
returns g c = inl (record { table = c.in_ok-table.table; are = c.in_ok-table.ensures.found }, refl, rw c.requires.printed c.in_ok-write.ensures.whole)
