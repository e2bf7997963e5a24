use Rattle.std.proofs.lemmas.Result.{err_from_is_err_and}
use Rattle.mc_command.proofs.request.read_layout.Goals as goal

pub returns-in_err-layout : goal.returns-in_err-layout
returns-in_err-layout c = λ holds.
    let p = err_from_is_err_and c.from_residual.result c.from_residual.ensures.1 in
    rw (p.1, p.2) (c.in_err-layout.ensures.refused)
