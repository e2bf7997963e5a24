use Rattle.std.proofs.Common.{arith, inl, inr, length}
use Rattle.std.proofs.lemmas.{Iterator.{Consumers.{YieldsList-end, YieldsList-turn}, Splits.{YieldsList-from_lines}}, List.{length_push, take_all}, Result.{err_from_is_err_and}}
use Rattle.std.specs.Str.Lines.{lines}
use Rattle.mc_options.proofs.Settings.{lacks_words, one_more}
use Rattle.mc_options.proofs.layout_file.add_settings.Goals as goal

pub loop-line-preserved : goal.loop-line-preserved
loop-line-preserved c =
    let t = YieldsList-turn (YieldsList-from_lines c.args.text.now cc) c.loop-line.yielded _ c.loop-line.yielded_by _ _ c.in-Some.line c.in-Some.is c.next.ensures.steps in
    rw (length_push c.loop-line.yielded c.in-Some.line)
    (one_more (lines c.args.text.now) (length c.loop-line.yielded) c.in-Some.line.now _ _ _ t.0 t.1 c.loop-line.invariant c.in_ok-add_setting.ensures.added)

pub returns-in_err-add_setting-clause-refused : goal.returns-in_err-add_setting-clause-refused
returns-in_err-add_setting-clause-refused c =
    let p = err_from_is_err_and c.from_residual.result c.from_residual.ensures.1 in
    let t = YieldsList-turn (YieldsList-from_lines c.args.text.now cc) c.loop-line.yielded _ c.loop-line.yielded_by _ _ c.in-Some.line c.in-Some.is c.next.ensures.steps in
    rw (p.1, p.2) (elim c.in_err-add_setting.ensures.refused [
      | inl lacks ↦ inl (lacks.0, λ words. lacks_words (lines c.args.text.now) (length c.loop-line.yielded) c.in-Some.line.now words t.0 t.1 lacks.1)
      | inr memory ↦ inr memory
    ])

pub returns-clause-added : goal.returns-clause-added
returns-clause-added c =
    let t = YieldsList-end (YieldsList-from_lines c.args.text.now cc) c.loop-line.yielded _ c.loop-line.yielded_by _ _ c.in-None.is c.next.ensures.steps in
    rw (t.1, take_all (length (lines c.args.text.now)) (lines c.args.text.now) (omega arith)) at c.loop-line.invariant
