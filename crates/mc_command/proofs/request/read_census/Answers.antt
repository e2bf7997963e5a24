use Rattle.std.proofs.{Common.{inl, inr}, lemmas.Result.{err_from_is_err_and}}
use Rattle.mc_command.proofs.request.read_census.Goals as goal

pub returns-in_err-wanted : goal.returns-in_err-wanted
returns-in_err-wanted g c =
    let p = err_from_is_err_and c.from_residual-in_err-wanted.result c.from_residual-in_err-wanted.ensures.1 in
    rw (p.1, p.2) (inr (inr (c.in_ok-has_two_rounds.ensures.0 c.if-branch.true, c.in_err-wanted.ensures.refused)))

pub returns-in_err-wanted-2 : goal.returns-in_err-wanted-2
returns-in_err-wanted-2 g c =
    let p = err_from_is_err_and c.from_residual-in_err-wanted-2.result c.from_residual-in_err-wanted-2.ensures.1 in
    rw (p.1, p.2) (inr (inl ((λ two. let is = c.in_ok-has_two_rounds.ensures.1 two in let not = c.if-branch.false in absurd cc), c.in_err-wanted-2.ensures.refused)))
