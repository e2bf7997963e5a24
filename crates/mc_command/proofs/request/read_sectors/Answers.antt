use Rattle.std.proofs.{Common.{inl, inr}, lemmas.Result.{err_from_is_err_and}}
use Rattle.mc_command.proofs.request.read_sectors.Goals as goal

pub returns-in_err-read : goal.returns-in_err-read
returns-in_err-read g c =
    let p = err_from_is_err_and c.from_residual-in_err-read.result c.from_residual-in_err-read.ensures.1 in
    rw (p.1, p.2) (inr (inr (c.in_ok-has_two_rounds.ensures.0 c.if-branch.true, inr (_, c.in_ok-view_options.ensures.given, c.in_err-read.ensures.refused))))

pub returns-in_err-given : goal.returns-in_err-given
returns-in_err-given g c =
    let p = err_from_is_err_and c.from_residual-in_err-given.result c.from_residual-in_err-given.ensures.1 in
    rw (p.1, p.2) (inr (inl ((λ two. let is = c.in_ok-has_two_rounds.ensures.1 two in let not = c.if-branch.false in absurd cc), c.in_err-given.ensures.refused)))
