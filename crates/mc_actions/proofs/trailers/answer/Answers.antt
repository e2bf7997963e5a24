use Rattle.std.proofs.{Common.{inl, inr, refl}, lemmas.Result.{err_from_is_err_and}}
use Rattle.mc_actions.proofs.trailers.answer.Goals as goal

pub returns-in_err-write_text : goal.returns-in_err-write_text
returns-in_err-write_text g c =
    let p = err_from_is_err_and c.from_residual.result c.from_residual.ensures.1 in
    let printed = rw (c.as_bytes.ensures.value, c.in-Ok-format.ensures.ok, c.yes_or_no-resume.ensures, c.resumes_by.ensures) at c.in_err-write_text.ensures.prefix in
    let text = rw (c.swap_type-table.ensures.value, c.rules-profile.ensures, c.in-Ok.ensures.primary, c.in-Ok.ensures.secondary) at printed in
    inr (inr (p.0, p.1, p.2, tt, text))

pub returns : goal.returns
returns g c =
    let printed = rw (c.as_bytes.ensures.value, c.in-Ok-format.ensures.ok, c.yes_or_no-resume.ensures, c.resumes_by.ensures) at c.in_ok-write_text.ensures.whole in
    let text = rw (c.swap_type-table.ensures.value, c.rules-profile.ensures, c.in-Ok.ensures.primary, c.in-Ok.ensures.secondary) at printed in
    inl (tt, refl, text)
