use Rattle.std.proofs.{Common.{inl, inr, refl}, lemmas.Result.{err_from_is_err_and}}
use Rattle.mc_actions.proofs.replay.answer.Goals as goal

pub returns-in_err-write_text : goal.returns-in_err-write_text
returns-in_err-write_text g c =
    let p = err_from_is_err_and c.from_residual-in_err-write_text.result c.from_residual-in_err-write_text.ensures.1 in
    inr (inr (
      p.0,
      p.1,
      p.2,
      record { outcome = _; left = _; replayed = c.in-Ok.ensures.replayed; restarts = c.in-Ok.ensures.restarts },
      rw (c.as_bytes.ensures.value, c.in-Ok-format.ensures.ok) at c.in_err-write_text.ensures.prefix,
    ))

pub returns : goal.returns
returns g c =
    inl (
      record { outcome = _; left = _; replayed = c.in-Ok.ensures.replayed; restarts = c.in-Ok.ensures.restarts },
      refl,
      rw (c.as_bytes.ensures.value, c.in-Ok-format.ensures.ok) at c.in_ok-write_text.ensures.whole,
    )

pub returns-in_err-write_left : goal.returns-in_err-write_left
returns-in_err-write_left g c =
    let p = err_from_is_err_and c.from_residual-in_err-write_left.result c.from_residual-in_err-write_left.ensures.1 in
    rw (p.1, p.2) (inr (inl (_, refl, inr (inr c.in_err-write_left.ensures), refl)))
