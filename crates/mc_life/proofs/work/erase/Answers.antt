use Rattle.std.proofs.lemmas.Result.{err_from_is_err_and}
use Rattle.mc_life.proofs.Wiping.{erase_fails}
use Rattle.mc_life.proofs.work.erase.Goals as goal

pub returns-in_err-erase-clause-err : goal.returns-in_err-erase-clause-err
returns-in_err-erase-clause-err g c =
    let p = err_from_is_err_and c.from_residual.result c.from_residual.ensures.1 in
    rw (p.1, p.2) (erase_fails _ _ _ _ _ c.in_err-erase.ensures)
