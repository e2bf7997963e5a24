use Rattle.std.proofs.{Common.{inr, refl}, lemmas.Result.{err_from_is_err_and}}
use Rattle.mc_command.proofs.request.read_replay.Goals as goal

pub returns : goal.returns
returns g c = ((inr (refl, (λ two. let is = c.in_ok-has_two_rounds.ensures.1 two in let not = c.if-branch.false in absurd cc), c.in_ok-given-2.ensures.schedule), c.in_ok-given-2.ensures.outputs), tt)

pub returns-in_err-given : goal.returns-in_err-given
returns-in_err-given g c =
    let p = err_from_is_err_and c.from_residual-in_err-given.result c.from_residual-in_err-given.ensures.1 in
    rw (p.1, p.2) (inr (inr (c.in_ok-has_two_rounds.ensures.0 c.if-branch.true, c.in_err-given.ensures.refused)))
