use Rattle.std.specs.Prelude.{Err}
use Rattle.std.proofs.{Common.{rules, ◌<◌, sym, ap, ◌∙◌, inl, IfSome}, lemmas.Result.{err_from_is_err_and}}
use Rattle.mc_output.specs.facts.Prefixes.{out_all, out_stops}
use Rattle.mc_boot.specs.{Boot.{progress, to_come}, facts.Steps.{counts_on_both, step_counts, step_spends}}
use Rattle.mc_trace.proofs.OperationLines.{counted_up_to, none_to_come, happened, refused, over, line_out, line_begun, one_more, none_more, goes_up_to}
use Rattle.mc_trace.proofs.boots.write_operations.Given.{Over}
use Rattle.mc_trace.proofs.boots.write_operations.Goals as goal
use Rattle.mc_trace.proofs.boots.write_operations.Goals.{In-Some}

pub returns-in_default-clause-written : goal.returns-in_default-clause-written
returns-in_default-clause-written g c =
    let i = c.operations.invariant in
    let end = none_to_come (to_come c.operations.boot) c.peek.result c.peek.ensures.first c.in_default.not-Some in
    out_all _ _ _ (rw (over c.args.span c.args.until (g.F.Flash.seen c.operations.flash) (progress c.operations.boot) end) at i.out)

pub returns-in_default-clause-end : goal.returns-in_default-clause-end
returns-in_default-clause-end g c = inl (none_to_come (to_come c.operations.boot) c.peek.result c.peek.ensures.first c.in_default.not-Some)

-- The next operation comes before the given number.
below : (g : Over) (c : In-Some g) → IfSome c.args.until (λ m. c.operations.boot.done < m)
below g c = search rules

pub operations-preserved-in-Continue-1 : goal.operations-preserved-in-Continue-1
operations-preserved-in-Continue-1 g c =
    let i = c.operations.invariant in
    let e = c.step.ensures in
    let old = g.F.Flash.seen c.args.flash.now in
    let now = g.F.Flash.seen c.operations.flash in
    let new = g.F.Flash.seen c.step.new.flash in
    let p = progress c.operations.boot in
    let q = progress c.step.new.self in
    let going = below g (goal.at.operations-preserved-in-Continue-1 g c).In-Some in
    let lines = happened c.args.span now new p q c.in-Some.op c.args.until (sym c.peek.ensures.first ∙ c.in-Some.is) going c.step.result c.in-Ok.is e.step in
    record {
      out = line_out c.args.span _ _ (g.W.Write.contents c.write_line.new.writer) _ _ _ _ _ _ _ _ i.layout_is c.count.ensures i.out _ lines
          (rw c.line_with.ensures at c.in_ok-write_line-in-Ok.ensures.whole);
      goes = goes_up_to c.args.until c.args.boot.now old c.operations.boot now c.step.new.self new i.goes (record { come = e.come; layout = e.layout; whole = e.whole; keeps = e.keeps })
          (one_more p q now new c.args.until c.step.result c.in-Ok.is e.step going);
      counts = counts_on_both (progress c.args.boot.now) p q old now new i.goes.goes.keeps.geometry i.counts (step_counts p q now new c.step.result e.step);
      limits = (step_spends p q now new c.step.result (λ memory. absurd cc) e.step).limits ∙ i.limits;
      layout_is = i.layout_is ∙ sym e.keeps.geometry;
    }

pub returns-in_err-write_line-in-Ok-clause-written : goal.returns-in_err-write_line-in-Ok-clause-written
returns-in_err-write_line-in-Ok-clause-written g c =
    let i = c.operations.invariant in
    let now = g.F.Flash.seen c.operations.flash in
    let new = g.F.Flash.seen c.step.new.flash in
    let p = progress c.operations.boot in
    let q = progress c.step.new.self in
    let going = below g (goal.at.returns-in_err-write_line-in-Ok-clause-written g c).In-Some in
    let lines = happened c.args.span now new p q c.in-Some.op c.args.until (sym c.peek.ensures.first ∙ c.in-Some.is) going c.step.result c.in-Ok.is c.step.ensures.step in
    let failed = err_from_is_err_and c.from_residual.result c.from_residual.ensures.1 in
    rw failed.1 (line_begun c.args.span _ _ (g.W.Write.contents c.write_line.new.writer) _ _ _ _ _ _ _ _ i.layout_is c.count.ensures i.out _ lines (rw c.line_with.ensures at
    c.in_err-write_line-in-Ok.ensures.prefix))

pub operations-preserved : goal.operations-preserved
operations-preserved g c =
    let i = c.operations.invariant in
    let e = c.step.ensures in
    let old = g.F.Flash.seen c.args.flash.now in
    let now = g.F.Flash.seen c.operations.flash in
    let new = g.F.Flash.seen c.step.new.flash in
    let p = progress c.operations.boot in
    let q = progress c.step.new.self in
    let going = below g (goal.at.operations-preserved g c).In-Some in
    let not = c.in-Err-NotErased.is ∙ ap (λ e. Err e) c.in-Err-NotErased.field-0-is in
    let lines = refused c.args.span now new p q c.in-Some.op c.args.until (sym c.peek.ensures.first ∙ c.in-Some.is) going c.step.result not e.step in
    record {
      out = line_out c.args.span _ _ (g.W.Write.contents c.write_line-in-Err-NotErased.new.writer) _ _ _ _ _ _ _ _ i.layout_is c.count.ensures i.out _ lines
          (rw c.line_with-in-Err-NotErased.ensures at c.in_ok-write_line-in-Err-NotErased.ensures.whole);
      goes = goes_up_to c.args.until c.args.boot.now old c.operations.boot now c.step.new.self new i.goes (record { come = e.come; layout = e.layout; whole = e.whole; keeps = e.keeps })
          (none_more p q now new c.args.until c.step.result not e.step going);
      counts = counts_on_both (progress c.args.boot.now) p q old now new i.goes.goes.keeps.geometry i.counts (step_counts p q now new c.step.result e.step);
      limits = (step_spends p q now new c.step.result (λ memory. absurd cc) e.step).limits ∙ i.limits;
      layout_is = i.layout_is ∙ sym e.keeps.geometry;
    }

pub returns-in_err-write_line-in-Err-NotErased-clause-written : goal.returns-in_err-write_line-in-Err-NotErased-clause-written
returns-in_err-write_line-in-Err-NotErased-clause-written g c =
    let i = c.operations.invariant in
    let now = g.F.Flash.seen c.operations.flash in
    let new = g.F.Flash.seen c.step.new.flash in
    let p = progress c.operations.boot in
    let q = progress c.step.new.self in
    let going = below g (goal.at.returns-in_err-write_line-in-Err-NotErased-clause-written g c).In-Some in
    let not = c.in-Err-NotErased.is ∙ ap (λ e. Err e) c.in-Err-NotErased.field-0-is in
    let lines = refused c.args.span now new p q c.in-Some.op c.args.until (sym c.peek.ensures.first ∙ c.in-Some.is) going c.step.result not c.step.ensures.step in
    let failed = err_from_is_err_and c.from_residual-in_err-write_line-in-Err-NotErased.result c.from_residual-in_err-write_line-in-Err-NotErased.ensures.1 in
    rw failed.1 (line_begun c.args.span _ _ (g.W.Write.contents c.write_line-in-Err-NotErased.new.writer) _ _ _ _ _ _ _ _ i.layout_is c.count.ensures i.out _ lines
    (rw c.line_with-in-Err-NotErased.ensures at c.in_err-write_line-in-Err-NotErased.ensures.prefix))

pub returns-in-Err-Memory-clause-written : goal.returns-in-Err-Memory-clause-written
returns-in-Err-Memory-clause-written g c = out_stops _ _ _ _ c.operations.invariant.out

pub returns-in_err-write_line-in-Ok-clause-counts : goal.returns-in_err-write_line-in-Ok-clause-counts
returns-in_err-write_line-in-Ok-clause-counts g c =
    let i = c.operations.invariant in
    let now = g.F.Flash.seen c.operations.flash in
    let new = g.F.Flash.seen c.step.new.flash in
    let p = progress c.operations.boot in
    let q = progress c.step.new.self in
    let e = c.step.ensures.step in
    let failed = err_from_is_err_and c.from_residual.result c.from_residual.ensures.1 in
    counted_up_to (progress c.args.boot.now) q (g.F.Flash.seen c.args.flash.now) new _ failed.0 failed.1 failed.2
    (counts_on_both (progress c.args.boot.now) p q (g.F.Flash.seen c.args.flash.now) now new i.goes.goes.keeps.geometry i.counts (step_counts p q now new c.step.result e))
    ((step_spends p q now new c.step.result (λ memory. absurd cc) e).limits ∙ i.limits)

pub returns-in_err-write_line-in-Err-NotErased-clause-counts : goal.returns-in_err-write_line-in-Err-NotErased-clause-counts
returns-in_err-write_line-in-Err-NotErased-clause-counts g c =
    let i = c.operations.invariant in
    let now = g.F.Flash.seen c.operations.flash in
    let new = g.F.Flash.seen c.step.new.flash in
    let p = progress c.operations.boot in
    let q = progress c.step.new.self in
    let e = c.step.ensures.step in
    let failed = err_from_is_err_and c.from_residual-in_err-write_line-in-Err-NotErased.result c.from_residual-in_err-write_line-in-Err-NotErased.ensures.1 in
    counted_up_to (progress c.args.boot.now) q (g.F.Flash.seen c.args.flash.now) new _ failed.0 failed.1 failed.2
    (counts_on_both (progress c.args.boot.now) p q (g.F.Flash.seen c.args.flash.now) now new i.goes.goes.keeps.geometry i.counts (step_counts p q now new c.step.result e))
    ((step_spends p q now new c.step.result (λ memory. absurd cc) e).limits ∙ i.limits)
