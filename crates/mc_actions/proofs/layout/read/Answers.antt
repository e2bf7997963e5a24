use Rattle.std.proofs.{Common.{inl}, lemmas.Result.{err_from_is_err_and}}
use Rattle.mc_flash.specs.Geometry.{refusal_of}
use Rattle.mc_options.proofs.GivenOptions.{judges_err, judges_ok}
use Rattle.mc_actions.proofs.layout.read.Goals as goal

pub returns-in_err-layout-clause-judged : goal.returns-in_err-layout-clause-judged
returns-in_err-layout-clause-judged c = λ g times layout given.
    let p = err_from_is_err_and c.from_residual.result c.from_residual.ensures.1 in
    rw (p.1, p.2) (judges_err _ _ (refusal_of g) _ (c.in_err-layout.ensures.judged g layout))

pub returns-clause-judged : goal.returns-clause-judged
returns-clause-judged c = λ g times layout given. judges_ok (refusal_of g) _ _ (c.in_ok-layout.ensures.judged g layout)

pub returns-in_err-layout-clause-refused : goal.returns-in_err-layout-clause-refused
returns-in_err-layout-clause-refused c =
    let p = err_from_is_err_and c.from_residual.result c.from_residual.ensures.1 in
    rw (p.1, p.2) (inl c.in_err-layout.ensures.refused)
