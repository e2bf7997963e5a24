use Rattle.std.proofs.{Common.{inl, inr, refl}, lemmas.Result.{err_from_is_err_and}}
use Rattle.mc_actions.proofs.vectors.answer.Goals as goal

pub returns-in_err-write_text : goal.returns-in_err-write_text
returns-in_err-write_text g c =
    let p = err_from_is_err_and c.from_residual-in_err-write_text.result c.from_residual-in_err-write_text.ensures.1 in
    let text = rw (c.as_bytes.ensures.value, c.in-Ok.ensures.ok, c.yes_or_no-all.ensures, c.is_whole.ensures, c.len-count.ensures) at c.in_err-write_text.ensures.prefix in
    inr (inr (p.0, p.1, p.2, record { table = c.in_ok-table.table; are = c.in_ok-table.ensures.found }, rw c.in-Some.is text))

pub returns : goal.returns
returns g c =
    let text = rw (c.as_bytes.ensures.value, c.in-Ok.ensures.ok, c.yes_or_no-all.ensures, c.is_whole.ensures, c.len-count.ensures) at c.in_ok-write_text.ensures.whole in
    inl (record { table = c.in_ok-table.table; are = c.in_ok-table.ensures.found }, refl, rw c.in-Some.is text)
