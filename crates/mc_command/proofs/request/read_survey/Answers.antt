use Rattle.std.proofs.{Common.{inl, inr}, lemmas.Result.{err_from_is_err_and}}
use Rattle.mc_command.proofs.request.read_survey.Goals as goal

pub returns-in_err-asked : goal.returns-in_err-asked
returns-in_err-asked g c =
    let p = err_from_is_err_and c.from_residual-in_err-asked.result c.from_residual-in_err-asked.ensures.1 in
    rw (p.1, p.2) (inr (inr (c.in_ok-has_two_rounds.ensures.0 c.if-branch.true, c.in_err-asked.ensures.refused)))

pub returns-in_err-asked-2 : goal.returns-in_err-asked-2
returns-in_err-asked-2 g c =
    let p = err_from_is_err_and c.from_residual-in_err-asked-2.result c.from_residual-in_err-asked-2.ensures.1 in
    rw (p.1, p.2) (inr (inl ((λ two. let is = c.in_ok-has_two_rounds.ensures.1 two in let not = c.if-branch.false in absurd cc), c.in_err-asked-2.ensures.refused)))
