use Rattle.std.proofs.{Common.{inl, inr, refl}, lemmas.Result.{err_from_is_err_and}}
use Rattle.mc_command.proofs.inspect.read.Goals as goal

pub returns-clause-given : goal.returns-clause-given
returns-clause-given g c = rw c.of_dump.ensures (record {
  dump = record {
    layout = rw c.in_ok-start.ensures.layout c.in-Ok.ensures.layout;
    rules = rw c.in_ok-start.ensures.rules c.in-Ok.ensures.rules;
    bytes = (c.in-Ok.dump.path.now, c.in-Ok.ensures.path, rw c.in_ok-start.ensures.layout c.in_ok-start.ensures.bytes);
  };
  images = c.in_ok-images.ensures.given;
  asked = c.in_ok-asked.ensures.given;
  judged = rw c.in_ok-start.ensures.layout c.in_ok-check.ensures.judged;
  cuts = refl;
  plain = refl;
})

pub returns-in-Err-clause-refused : goal.returns-in-Err-clause-refused
returns-in-Err-clause-refused g c = inl c.in-Err.ensures.refused

pub returns-in_err-asked-clause-refused : goal.returns-in_err-asked-clause-refused
returns-in_err-asked-clause-refused g c =
    let p = err_from_is_err_and c.from_residual.result c.from_residual.ensures.1 in
    rw (p.1, p.2) (inr (_, c.in-Ok.ensures.layout, inl c.in_err-asked.ensures.refused))

pub returns-in_err-check-clause-refused : goal.returns-in_err-check-clause-refused
returns-in_err-check-clause-refused g c =
    let p = err_from_is_err_and c.from_residual-in_err-check.result c.from_residual-in_err-check.ensures.1 in
    rw (p.1, p.2) (inr (_, c.in-Ok.ensures.layout, inr (_, c.in_ok-asked.ensures.given, inl c.in_err-check.ensures.refused)))

pub returns-in_err-images-clause-refused : goal.returns-in_err-images-clause-refused
returns-in_err-images-clause-refused g c =
    let p = err_from_is_err_and c.from_residual-in_err-images.result c.from_residual-in_err-images.ensures.1 in
    rw (p.1, p.2) (inr (_, c.in-Ok.ensures.layout, inr (_, c.in_ok-asked.ensures.given, inr (c.in_ok-check.ensures.judged, inl c.in_err-images.ensures.refused))))

pub returns-in_err-start-clause-refused : goal.returns-in_err-start-clause-refused
returns-in_err-start-clause-refused g c =
    let p = err_from_is_err_and c.from_residual-in_err-start.result c.from_residual-in_err-start.ensures.1 in
    rw (p.1, p.2) (inr (
      _,
      c.in-Ok.ensures.layout,
      inr (
        _,
        c.in_ok-asked.ensures.given,
        inr (c.in_ok-check.ensures.judged, inr (_, c.in-Ok.ensures.layout, (c.in-Ok.dump.path.now, c.in-Ok.ensures.path, c.in_err-start.ensures.refused))),
      ),
    ))
