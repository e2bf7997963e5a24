use Rattle.std.proofs.{Common.{ap, arith, refl, subst, sym, ◌≡◌, ◌∙◌}, lemmas.Result.{err_from_is_err_and}}
use Rattle.std.specs.{List.{list_all}, Prelude.{List, Some, [], flat_map, ◌&&◌, ◌++◌, ◌+◌, ℕ}}
use Rattle.mc_explore.specs.{Boots.{at_cut}, inner.OneRound.{begins}}
use Rattle.mc_output.specs.facts.Prefixes.{IsOut, out_all, out_begun, out_more, out_prefix}
use Rattle.mc_tears.proofs.Listed.{none_from, not_named}
use Rattle.mc_tears.proofs.Standing.{back_on, before_back}
use Rattle.mc_tears.proofs.Written.{and_then, and_true, left, right_first, right_of, right_step, text_first, text_step}
use Rattle.mc_tears.specs.{Tears.{case_text, op_text}, inner.Standing.{reading_right, reading_text_at}}
use Rattle.mc_tears.proofs.cases.write_cases.Given.{Over}
use Rattle.mc_tears.proofs.cases.write_cases.Goals as goal
use Rattle.mc_tears.proofs.cases.write_cases.Goals.{After-loop-number, After-of-reading}

pub loop-number-init : goal.loop-number-init
loop-number-init g c =
    let a = c.args.asked.now in
    let x = begins c.args.rounds.now in
    let b = c.args.between.now in
    record {
      out = subst (λ (t : List ℕ). IsOut (g.W.Write.contents c.args.writer.now) (g.W.Write.contents c.args.writer.now) t (flat_map (case_text a x b.number b.op) (left a x b.number b.op 0)))
          (text_first a x b.number b.op) (out_begun (g.W.Write.contents c.args.writer.now) _);
      right = right_first a x b.number b.op;
      back = record { stays = record { geometry = refl; content = refl; checkpoints = refl; counts = refl }; limits = refl };
      capacity = refl;
    }

pub of-reading-requires : goal.of-reading-requires
of-reading-requires g c = omega (arith, c.loop-number-test.true, c.most_readings-number-end.ensures.few)

pub write_case-requires-clause-stands : goal.write_case-requires-clause-stands
write_case-requires-clause-stands g c =
    before_back (g.F.Flash.seen c.args.flash.now) (g.F.Flash.seen c.loop-number.flash) c.loop-number.invariant.back (begins c.args.rounds.now) c.args.between.now c.requires.stands

pub write_case-requires-clause-fields : goal.write_case-requires-clause-fields
write_case-requires-clause-fields g c = let back = c.loop-number.invariant.back in rw (back.stays.geometry, back.stays.content) c.of-fields.ensures

pub write_case-requires-clause-buffer : goal.write_case-requires-clause-buffer
write_case-requires-clause-buffer g c = let i = c.loop-number.invariant in rw (i.back.stays.geometry, i.capacity) c.requires.buffer

-- What is to come out, with the reading of this number first.
next_out : (g : Over) (c : After-of-reading g) → let a = c.args.asked.now in let x = begins c.args.rounds.now in let b = c.args.between.now in
    IsOut (g.W.Write.contents c.args.writer.now) (g.W.Write.contents c.loop-number.writer) (op_text a x b.number (Some b.op))
    (reading_text_at a x b.number b.op c.of-reading.result ++ flat_map (case_text a x b.number b.op) (left a x b.number b.op (c.loop-number.number + 1)))
next_out g c =
    let a = c.args.asked.now in
    let x = begins c.args.rounds.now in
    let b = c.args.between.now in
    let text : List ℕ = op_text a x b.number (Some b.op) in
    let step = text_step a x b.number b.op c.loop-number.number (omega (arith, c.loop-number-test.true, c.most_readings-number-end.ensures.few)) in
    rw c.of-reading.ensures (subst (IsOut (g.W.Write.contents c.args.writer.now) (g.W.Write.contents c.loop-number.writer) text) step c.loop-number.invariant.out)

pub returns-in_err-right-clause-written : goal.returns-in_err-right-clause-written
returns-in_err-right-clause-written g c =
    let failed = err_from_is_err_and c.from_residual.result c.from_residual.ensures.1 in
    let at = (goal.at.returns-in_err-right-clause-written g c).After-of-reading in
    rw failed.1 (out_prefix _ _ (g.W.Write.contents c.write_case.new.writer) _ _ _ (next_out g at) c.in_err-right.ensures.written)

pub loop-number-preserved : goal.loop-number-preserved
loop-number-preserved g c =
    let a = c.args.asked.now in
    let x = begins c.args.rounds.now in
    let b = c.args.between.now in
    let n : ℕ = c.loop-number.number in
    let i = c.loop-number.invariant in
    let e = c.in_ok-right.ensures in
    let at = (goal.at.loop-number-preserved g c).After-of-reading in
    let rest = list_all (right_of a x b.number b.op) (left a x b.number b.op (n + 1)) in
    record {
      out = out_more _ _ (g.W.Write.contents c.write_case.new.writer) _ _ _ (next_out g at) e.written;
      right = and_then c.loop-number.right c.in_ok-right.field-0 rest
          ∙ ap (λ z. c.loop-number.right && (z && rest)) (e.right ∙ ap (reading_right a x b.number b.op) c.of-reading.ensures)
          ∙ ap (λ z. c.loop-number.right && z) (sym (right_step a x b.number b.op n (omega (arith, c.loop-number-test.true, c.most_readings-number-end.ensures.few)))) ∙ i.right;
      back = back_on (g.F.Flash.seen c.args.flash.now) (g.F.Flash.seen c.loop-number.flash) i.back (g.F.Flash.seen c.write_case.new.flash) e.goes;
      capacity = e.capacity ∙ i.capacity;
    }

-- No reading is left that is a case.
none_left : (g : Over) (c : After-loop-number g) → left c.args.asked.now (begins c.args.rounds.now) c.args.between.now.number c.args.between.now.op c.loop-number.number ≡ []
none_left g c =
    let x = begins c.args.rounds.now in
    let b = c.args.between.now in
    let s = c.requires.stands in
    none_from c.args.asked.now.erasing x.geometry b.op (at_cut x b.number) c.loop-number.number (λ i from below.
    not_named c.args.asked.now.erasing x.geometry b.op (at_cut x b.number) i
    (rw (c.of-fields.ensures, s.layout, s.content) at (c.most_readings-number-end.ensures.rest i (omega (arith, from, c.loop-number-test.false)) below)))

pub returns-clause-written : goal.returns-clause-written
returns-clause-written g c =
    let b = c.args.between.now in
    out_all _ _ _ (rw (none_left g (goal.at.returns-clause-written g c).After-loop-number) at c.loop-number.invariant.out)

pub returns-clause-right : goal.returns-clause-right
returns-clause-right g c =
    sym (and_true c.loop-number.right) ∙ (rw (none_left g (goal.at.returns-clause-right g c).After-loop-number) at c.loop-number.invariant.right)
