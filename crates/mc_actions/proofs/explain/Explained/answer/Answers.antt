use Rattle.std.proofs.{Common.{inl, inr, refl, subst}, lemmas.Result.{err_from_is_err_and}}
use Rattle.mc_actions.specs.Explained.{Explains}
use Rattle.mc_actions.proofs.Explaining.{none_said, some_said}
use Rattle.mc_actions.proofs.explain.Explained.answer.Goals as goal

pub returns-then-is_empty : goal.returns-then-is_empty
returns-then-is_empty g c =
    let none = none_said _ (rw c.as_str.ensures.value at c.if-is_empty.ensures) in
    inr (inl (_, refl, inl (refl, subst (Explains c.args.self.now) none c.in_ok-text.ensures), refl))

pub returns-in_err-write_text : goal.returns-in_err-write_text
returns-in_err-write_text g c =
    let p = err_from_is_err_and c.from_residual-in_err-write_text.result c.from_residual-in_err-write_text.ensures.1 in
    let some = some_said _ (rw c.as_str.ensures.value at c.if-is_empty.ensures) in
    let text = rw (c.as_bytes.ensures.value, c.as_str-2.ensures.value) at c.in_err-write_text.ensures.prefix in
    inr (inr (p.0, p.1, p.2, record { text = _; explains = c.in_ok-text.ensures; some = some }, text))

pub returns : goal.returns
returns g c =
    let some = some_said _ (rw c.as_str.ensures.value at c.if-is_empty.ensures) in
    let text = rw (c.as_bytes.ensures.value, c.as_str-2.ensures.value) at c.in_ok-write_text.ensures.whole in
    inl (record { text = _; explains = c.in_ok-text.ensures; some = some }, refl, text)
