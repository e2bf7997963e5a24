use Rattle.std.proofs.{Common.{inl, inr}, lemmas.Result.{err_from_is_err_and}}
use Rattle.mc_actions.proofs.life.read_device.Goals as goal

pub returns-in_err-layout-clause-refused : goal.returns-in_err-layout-clause-refused
returns-in_err-layout-clause-refused g c =
    let p = err_from_is_err_and c.from_residual.result c.from_residual.ensures.1 in
    rw (p.1, p.2) (inl c.in_err-layout.ensures.refused)

pub returns-in_err-rules-clause-refused : goal.returns-in_err-rules-clause-refused
returns-in_err-rules-clause-refused g c =
    let p = err_from_is_err_and c.from_residual-in_err-rules.result c.from_residual-in_err-rules.ensures.1 in
    rw (p.1, p.2) (inr (_, c.in_ok-layout.ensures.given, inl c.in_err-rules.ensures.refused))

pub returns-in_err-check_outputs-clause-refused : goal.returns-in_err-check_outputs-clause-refused
returns-in_err-check_outputs-clause-refused g c =
    let p = err_from_is_err_and c.from_residual-in_err-check_outputs.result c.from_residual-in_err-check_outputs.ensures.1 in
    rw (p.1, p.2) (inr (_, c.in_ok-layout.ensures.given, inr (_, c.in_ok-rules.ensures.given, inl c.in_err-check_outputs.ensures.refused)))

pub returns-in_err-start-clause-refused : goal.returns-in_err-start-clause-refused
returns-in_err-start-clause-refused g c =
    let p = err_from_is_err_and c.from_residual-in_err-start.result c.from_residual-in_err-start.ensures.1 in
    rw (p.1, p.2) (inr (_, c.in_ok-layout.ensures.given, inr (_, c.in_ok-rules.ensures.given, inr (c.in_ok-check_outputs.ensures.kept, c.in_err-start.ensures.refused))))

pub returns-clause-given : goal.returns-clause-given
returns-clause-given g c = rw c.with_rules.ensures (rw c.in_ok-start.ensures.layout
    (c.in_ok-layout.ensures.given, c.in_ok-rules.ensures.given, c.in_ok-start.ensures.device, c.in_ok-check_outputs.ensures.kept))
