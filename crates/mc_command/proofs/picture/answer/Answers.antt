use Rattle.std.specs.{Prelude.{Err, List, MatchResult, Ok, OnErr, OnOk, Option, Result, ℕ}, Result.{IsErrAnd}}
use Rattle.std.proofs.{Common.{◌≡◌, ◌≤◌, ◌⊎◌, inl, inr, refl}, lemmas.Result.{err_from_is_err_and}}
use Rattle.mc_cli.specs.declared.command.TheConstants.{VERSION}
use Rattle.mc_command.specs.{Pictures.{AnswersPicture, HasRows}, declared.picture.PictureAsked.{PictureAsked}}
use Rattle.mc_command.proofs.picture.answer.Goals as goal
use Rattle.mc_options.specs.Requests.{End}
use Rattle.mc_options.specs.declared.refusal.Refusal.TheVariants as refusals
use Rattle.mc_trace.specs.{Picture.{BeginsPicture, Draws}, declared.error.TraceError.{TraceError}}
use Rattle.mc_verdict.specs.Verdicts.{expected_ends}

-- A page that is drawn, or not, where an error is made of another.
drawn : (p : PictureAsked) (old new : Option (List ℕ)) (r : Result (Unit {0}) TraceError) (m : End) → HasRows p.given p.span (λ n. n ≤ 20000)
    → OnOk r (Draws VERSION.now (expected_ends p.ends p.given.start.named) p.span p.torn p.given.start p.given.schedule old new)
    → OnErr r ((new ≡ old) ⊎ BeginsPicture VERSION.now (expected_ends p.ends p.given.start.named) p.span p.torn p.given.start p.given.schedule old new)
    → MatchResult r (λ x. m ≡ Ok x) (λ e. IsErrAnd m (λ d. d ≡ refusals.Trace e)) → AnswersPicture p old new m
drawn p old new (Ok done) m few whole part made = inl (record { text = whole.0; is = whole.1; few = few }, made, whole.2)
drawn p old new (Err e) m few whole (inl same) made =
    let d = err_from_is_err_and m made in rw d.1 (rw d.2 (inr (inl (refusals.Trace e, refl, inr (inr (e, refl)), same))))
drawn p old new (Err e) m few whole (inr part) made =
    let d = err_from_is_err_and m made in rw d.1 (rw d.2 (inr (inr (refusals.Trace e, refl, (e, refl), record { text = part.0; is = part.1; few = few }, part.2))))

pub returns-in_err-check_rows : goal.returns-in_err-check_rows
returns-in_err-check_rows g c =
    let p = err_from_is_err_and c.from_residual.result c.from_residual.ensures.1 in
    let many = rw c.cuts.ensures.value at c.in_err-check_rows.ensures in
    inr (inl (p.0, p.1, inr (inl (rw p.2 many.1, record { outcome = _; left = _; replayed = c.in-Ok.ensures.replayed; many = many.0 })), refl))

pub returns : goal.returns
returns g c =
    let whole = rw (c.expectation-expectation.ensures, c.named.ensures) at c.write_picture.ensures.drawn in
    let part = rw (c.expectation-expectation.ensures, c.named.ensures) at c.write_picture.ensures.begun in
    let few : HasRows c.args.asked.now.given c.args.asked.now.span (λ n. n ≤ 20000) =
    record { outcome = _; left = _; replayed = c.in-Ok.ensures.replayed; many = rw c.cuts.ensures.value at c.in_ok-check_rows.ensures } in
    drawn c.args.asked.now _ _ _ _ few whole part c.map_err.ensures.cases
