use Rattle.std.specs.{Io.KnownBytes.{Appends}, Prelude.{Err, IfErr, IsErrOf, List, MatchResult, Ok, OnErr, OnOk, Option, Result, ℕ}, Result.{IsErrAnd}}
use Rattle.std.proofs.{Common.{◌≡◌, ap, inl, inr, refl}, lemmas.Result.{err_from_is_err_and}}
use Rattle.mc_actions.specs.declared.schedule.Scheduled.{Scheduled}
use Rattle.mc_cli.specs.declared.command.TheConstants.{VERSION}
use Rattle.mc_command.specs.Pictures.{AnswersFrames}
use Rattle.mc_command.proofs.picture.answer_frames.Goals as goal
use Rattle.mc_options.specs.Requests.{End}
use Rattle.mc_options.specs.declared.refusal.Refusal.TheVariants as refusals
use Rattle.mc_output.specs.Text.{AppendsPrefix}
use Rattle.mc_start.specs.Start.{begun}
use Rattle.mc_trace.specs.{Frames.{frames_text}, Trace.{RefusesTrace}, declared.error.TraceError.{TraceError}, declared.trace.Span.{Span}}
use Rattle.mc_trace.specs.declared.error.TraceError.TheVariants as errors
use Rattle.mc_verdict.specs.{Verdicts.{expected_ends}, declared.verdict.Ends.{Ends}}

-- Frames that are printed, or not, where an error is made of another.
module _ {W : Type 0} (contents : W → Option (List ℕ)) (old new : W) (s : Scheduled) (ends : Ends) (span : Span) where
  abbrev text : List ℕ
  text = frames_text VERSION.now (expected_ends ends s.start.named) span s.start s.schedule

  framed : (r : Result (Unit {0}) TraceError) (m : End) → OnOk r (Appends (contents old) (contents new) text) → OnErr r (AppendsPrefix (contents old) (contents new) text)
      → IfErr r (RefusesTrace (begun s.start) s.schedule old new) → (IsErrOf r errors.Memory → new ≡ old)
      → MatchResult r (λ x. m ≡ Ok x) (λ e. IsErrAnd m (λ d. d ≡ refusals.Trace e)) → AnswersFrames s ends span (contents old) (contents new) m
  framed (Ok done) m whole part why cause made = inl (tt, made, whole)
  framed (Err (errors.CannotOccur index)) m whole part why cause made =
      let d = err_from_is_err_and m made in rw d.1 (rw d.2 (inr (inl (refusals.Trace (errors.CannotOccur index), refl, why.0, ap contents why.1))))
  framed (Err errors.Memory) m whole part why cause made =
      let d = err_from_is_err_and m made in rw d.1 (rw d.2 (inr (inl (refusals.Trace errors.Memory, refl, tt, ap contents (cause refl)))))
  framed (Err errors.Write) m whole part why cause made =
      let d = err_from_is_err_and m made in rw d.1 (rw d.2 (inr (inr (refusals.Trace errors.Write, refl, refl, tt, part))))

pub returns : goal.returns
returns g c =
    let whole = rw (c.expectation-expectation.ensures, c.named.ensures) at c.write_frames.ensures.written in
    let part = rw (c.expectation-expectation.ensures, c.named.ensures) at c.write_frames.ensures.prefix in
    framed g.O.Write.contents _ _ c.args.given.now c.args.ends.now c.args.span c.write_frames.result _ whole part c.write_frames.ensures.refused (c.write_frames.ensures.cause refl)
    c.map_err.ensures.cases
