use Rattle.std.proofs.{Common.{ap, arith, refl, sym, ◌∙◌}, lemmas.Result.{err_from_is_err_and}}
use Rattle.std.specs.Prelude.{[], flat_map, length, ◌++◌, ◌+◌, ◌<◌, ◌≡◌}
use Rattle.mc_boot.specs.Outcome.{ops_of}
use Rattle.mc_explore.specs.{facts.Summaries.{width_is}, inner.OneRound.{begins}}
use Rattle.mc_flash.specs.Usage.{Limits}
use Rattle.mc_output.specs.facts.Prefixes.{IsOut, out_all, out_more, out_prefix}
use Rattle.mc_tears.proofs.Listed.{up_to, up_to_end}
use Rattle.mc_tears.proofs.Standing.{begins_here, steps_memory}
use Rattle.mc_tears.proofs.Written.{and_true, lines_begun, lines_next, lines_right, lines_step}
use Rattle.mc_tears.specs.Tears.{lines_text, number_text}
use Rattle.mc_tears.specs.declared.error.TearError.TheVariants as errors
use Rattle.mc_tears.proofs.tears.write_all.Given.{Over}
use Rattle.mc_tears.proofs.tears.write_all.Goals as goal
use Rattle.mc_tears.proofs.tears.write_all.Goals.{After-loop-number, In-loop-number}

pub loop-number-init : goal.loop-number-init
loop-number-init g c =
    let x = begins c.args.rounds.now in
    let begun = begins_here x c.args.whole.now c.requires.whole (g.F.Flash.seen c.args.flash.now) c.begin-here.result c.begin-here.ensures c.requires.stands c.requires.marks in
    record {
      here = begun.0;
      number = begun.1;
      out = lines_begun c.args.asked.now x (g.W.Write.contents c.args.writer.now);
      right = lines_right c.args.asked.now x;
      limits = refl;
      capacity = refl;
    }

early : (g : Over) (c : In-loop-number g) → c.loop-number.here.at.done < length (ops_of (begins c.args.rounds.now))
early g c = omega (arith, c.loop-number.invariant.number, c.loop-number-test.true, width_is (begins c.args.rounds.now) c.args.whole.now.summary c.requires.whole.summary)

pub write_next-requires-clause-early : goal.write_next-requires-clause-early
write_next-requires-clause-early g c = early g (goal.at.write_next-requires-clause-early g c).In-loop-number

pub write_next-requires-clause-buffer : goal.write_next-requires-clause-buffer
write_next-requires-clause-buffer g c =
    let i = c.loop-number.invariant in
    rw (i.here.stands.at_is.layout_is ∙ sym c.requires.stands.at_is.layout_is, i.capacity) c.requires.buffer

-- What is to come out, with the lines of the next operation first.
next_out : (g : Over) (c : In-loop-number g) → let a = c.args.asked.now in let x = begins c.args.rounds.now in let n = c.loop-number.here.at.done in
    IsOut (g.W.Write.contents c.args.writer.now) (g.W.Write.contents c.loop-number.writer) (lines_text a x)
    (number_text a x n ++ flat_map (number_text a x) (up_to (length (ops_of x)) (n + 1)))
next_out g c =
    lines_next c.args.asked.now (begins c.args.rounds.now) c.loop-number.here.at.done _ _ (early g c)
    (rw (sym c.loop-number.invariant.number) at c.loop-number.invariant.out)

pub returns-in_err-right-clause-written : goal.returns-in_err-right-clause-written
returns-in_err-right-clause-written g c =
    let failed = err_from_is_err_and c.from_residual.result c.from_residual.ensures.1 in
    let at = (goal.at.returns-in_err-right-clause-written g c).In-loop-number in
    rw failed.1 (out_prefix _ _ (g.W.Write.contents c.write_next.new.writer) _ _ _ (next_out g at) c.in_err-right.ensures.written)

pub returns-in_err-right-clause-cause : goal.returns-in_err-right-clause-cause
returns-in_err-right-clause-cause g c = λ memory.
    let failed = err_from_is_err_and c.from_residual.result c.from_residual.ensures.1 in
    let both = sym failed.1 ∙ memory in
    let same : failed.0 ≡ errors.Memory = cc in
    ap (λ (l : Limits). l.counted) (sym c.loop-number.invariant.limits)
    ∙ steps_memory (begins c.args.rounds.now) c.loop-number.here (g.F.Flash.seen c.loop-number.flash) c.write_next.new.here (g.F.Flash.seen c.write_next.new.flash) c.in_err-right.field-0.0
    c.in_err-right.ensures.steps (sym failed.2 ∙ same)

pub loop-number-preserved : goal.loop-number-preserved
loop-number-preserved g c =
    let a = c.args.asked.now in
    let x = begins c.args.rounds.now in
    let at = (goal.at.loop-number-preserved g c).In-loop-number in
    let i = c.loop-number.invariant in
    let e = c.in_ok-right.ensures in
    record {
      here = e.steps.0;
      number = omega (arith, e.steps.1, i.number);
      out = rw i.number at (out_more _ _ (g.W.Write.contents c.write_next.new.writer) _ _ _ (next_out g at) e.written);
      right = lines_step a x c.loop-number._number c.loop-number.right c.in_ok-right.field-0 (omega (arith, early g at, i.number)) (rw i.number at e.right) ∙ i.right;
      limits = e.steps.2 ∙ i.limits;
      capacity = e.capacity ∙ i.capacity;
    }

last : (g : Over) (c : After-loop-number g) → up_to (length (ops_of (begins c.args.rounds.now))) c.loop-number._number ≡ []
last g c = up_to_end (length (ops_of (begins c.args.rounds.now))) c.loop-number._number
    (omega (arith, c.loop-number-test.false, width_is (begins c.args.rounds.now) c.args.whole.now.summary c.requires.whole.summary))

pub returns-clause-written : goal.returns-clause-written
returns-clause-written g c = out_all _ _ _ (rw (last g (goal.at.returns-clause-written g c).After-loop-number) at c.loop-number.invariant.out)

pub returns-clause-right : goal.returns-clause-right
returns-clause-right g c = sym (and_true c.loop-number.right) ∙ (rw (last g (goal.at.returns-clause-right g c).After-loop-number) at c.loop-number.invariant.right)
