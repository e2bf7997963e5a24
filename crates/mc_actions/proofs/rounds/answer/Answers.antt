use Rattle.std.proofs.{Common.{inl, inr, refl}, lemmas.Result.{err_from_is_err_and}}
use Rattle.mc_actions.proofs.rounds.answer.Goals as goal

pub returns-in_err-write_text : goal.returns-in_err-write_text
returns-in_err-write_text g c =
    let p = err_from_is_err_and c.from_residual-in_err-write_text.result c.from_residual-in_err-write_text.ensures.1 in
    inr (inr (
      p.0,
      p.1,
      p.2,
      record { first = _; second = _; left = _; replayed = c.in-Ok.ensures.replayed; restarts = c.in-Ok.ensures.restarts },
      rw (c.as_bytes.ensures.value, c.in-Ok-format.ensures.ok) at c.in_err-write_text.ensures.prefix,
    ))

pub returns : goal.returns
returns g c =
    inl (
      record { first = _; second = _; left = _; replayed = c.in-Ok.ensures.replayed; restarts = c.in-Ok.ensures.restarts },
      refl,
      rw (c.as_bytes.ensures.value, c.in-Ok-format.ensures.ok) at c.in_ok-write_text.ensures.whole,
    )

pub returns-in_err-write_cut : goal.returns-in_err-write_cut
returns-in_err-write_cut g c =
    let p = err_from_is_err_and c.from_residual.result c.from_residual.ensures.1 in
    rw (p.1, p.2) (inr (inl (_, refl, inr (inr c.in_err-write_cut.ensures), refl)))

pub returns-in_err-write_left : goal.returns-in_err-write_left
returns-in_err-write_left g c =
    let p = err_from_is_err_and c.from_residual-in_err-write_left.result c.from_residual-in_err-write_left.ensures.1 in
    let unwritten = c.in_err-write_left.ensures in
    rw (p.1, p.2) (inr (inl (_, refl, inr (inr (unwritten.0, inr unwritten.1)), refl)))
