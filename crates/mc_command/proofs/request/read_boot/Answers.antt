use Rattle.std.proofs.lemmas.Result.{err_from_is_err_and}
use Rattle.mc_command.proofs.request.read_boot.Goals as goal

pub returns-in_err-given : goal.returns-in_err-given
returns-in_err-given g c =
    let p = err_from_is_err_and c.from_residual.result c.from_residual.ensures.1 in
    rw (p.1, p.2) (c.in_err-given.ensures.refused)
