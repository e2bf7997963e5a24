use Rattle.std.proofs.{Common.{sym, ◌∙◌}, lemmas.Result.{err_from_is_err_and}}
use Rattle.mc_boot.specs.Boot.{progress}
use Rattle.mc_trace.proofs.CutBoots.{head_begun, cut_begun, cut_out, cut_out_none, cut_line_begun, next_there, left_there}
use Rattle.mc_trace.proofs.boots.write_cut_boot.Goals as goal
use Rattle.mc_boot.specs.Plan.{powered}

pub returns-in_err-write_line-clause-prefix : goal.returns-in_err-write_line-clause-prefix
returns-in_err-write_line-clause-prefix g c =
    let f = g.F.Flash.seen c.args.flash.now in
    let failed = err_from_is_err_and c.from_residual.result c.from_residual.ensures.1 in
    rw failed.1 (head_begun c.args.span (powered c.args.rules f) (progress c.cold-machine.result) c.cold-machine.ensures.cold.boot c.args.boot c.kind.result c.kind.ensures _ _ _
    (rw c.head_line.ensures at c.in_err-write_line.ensures.prefix))

pub returns-in_err-write_operations-clause-prefix : goal.returns-in_err-write_operations-clause-prefix
returns-in_err-write_operations-clause-prefix g c =
    let f = g.F.Flash.seen c.args.flash.now in
    let failed = err_from_is_err_and c.from_residual-in_err-write_operations.result c.from_residual-in_err-write_operations.ensures.1 in
    rw failed.1 (cut_begun c.args.span (powered c.args.rules f) (progress c.cold-machine.result) c.cold-machine.ensures.cold.boot c.args.boot c.kind.result c.kind.ensures _ _
    (rw c.head_line.ensures at c.in_ok-write_line.ensures.whole) _ c.args.cut c.in_err-write_operations.ensures.written)

pub returns-in_err-write_line-2-clause-prefix : goal.returns-in_err-write_line-2-clause-prefix
returns-in_err-write_line-2-clause-prefix g c =
    let f = g.F.Flash.seen c.args.flash.now in
    let e = c.in_ok-write_operations.ensures in
    let next = next_there c.args.span (powered c.args.rules f) (progress c.write_operations.new.boot) (g.F.Flash.seen c.write_operations.new.flash).content c.args.cut
    (e.goes.goes.come c.args.rules f.content c.cold-machine.ensures.come) e.goes.below e.end c.requires.inside in
    let failed = err_from_is_err_and c.from_residual-in_err-write_line-2.result c.from_residual-in_err-write_line-2.ensures.1 in
    rw failed.1 (cut_line_begun c.args.span (powered c.args.rules f) (progress c.cold-machine.result) c.cold-machine.ensures.cold.boot c.args.boot c.kind.result c.kind.ensures _ _
    (rw c.head_line.ensures at c.in_ok-write_line.ensures.whole) _ c.args.cut e.written
    c.in-Some.op (sym next ∙ sym c.peek.ensures.first ∙ c.in-Some.is) _ c.layout.result.now c.layout.ensures
    (rw c.cut_line.ensures at c.in_err-write_line-2.ensures.prefix))

pub returns-in_ok-write_line-2-clause-whole : goal.returns-in_ok-write_line-2-clause-whole
returns-in_ok-write_line-2-clause-whole g c =
    let f = g.F.Flash.seen c.args.flash.now in
    let e = c.in_ok-write_operations.ensures in
    let next = next_there c.args.span (powered c.args.rules f) (progress c.write_operations.new.boot) (g.F.Flash.seen c.write_operations.new.flash).content c.args.cut
    (e.goes.goes.come c.args.rules f.content c.cold-machine.ensures.come) e.goes.below e.end c.requires.inside in
    cut_out c.args.span (powered c.args.rules f) (progress c.cold-machine.result) c.cold-machine.ensures.cold.boot c.args.boot c.kind.result c.kind.ensures _ _
    (rw c.head_line.ensures at c.in_ok-write_line.ensures.whole) _ c.args.cut e.written
    c.in-Some.op (sym next ∙ sym c.peek.ensures.first ∙ c.in-Some.is) _ c.layout.result.now c.layout.ensures (rw c.cut_line.ensures at c.in_ok-write_line-2.ensures.whole)

pub returns-in_ok-write_line-2-clause-left : goal.returns-in_ok-write_line-2-clause-left
returns-in_ok-write_line-2-clause-left g c =
    let f = g.F.Flash.seen c.args.flash.now in
    let e = c.in_ok-write_operations.ensures in
    left_there c.args.span (powered c.args.rules f) (progress c.write_operations.new.boot) (g.F.Flash.seen c.write_operations.new.flash).content c.args.cut
    (e.goes.goes.come c.args.rules f.content c.cold-machine.ensures.come) e.goes.below e.end c.requires.inside

pub returns-in_default-clause-whole : goal.returns-in_default-clause-whole
returns-in_default-clause-whole g c =
    let f = g.F.Flash.seen c.args.flash.now in
    let e = c.in_ok-write_operations.ensures in
    let next = next_there c.args.span (powered c.args.rules f) (progress c.write_operations.new.boot) (g.F.Flash.seen c.write_operations.new.flash).content c.args.cut
    (e.goes.goes.come c.args.rules f.content c.cold-machine.ensures.come) e.goes.below e.end c.requires.inside in
    cut_out_none c.args.span (powered c.args.rules f) (progress c.cold-machine.result) c.cold-machine.ensures.cold.boot c.args.boot c.kind.result c.kind.ensures _ _
    (rw c.head_line.ensures at c.in_ok-write_line.ensures.whole) _ c.args.cut e.written (sym next ∙ sym c.peek.ensures.first ∙ c.in_default.is)

pub returns-in_default-clause-left : goal.returns-in_default-clause-left
returns-in_default-clause-left g c =
    let f = g.F.Flash.seen c.args.flash.now in
    let e = c.in_ok-write_operations.ensures in
    left_there c.args.span (powered c.args.rules f) (progress c.write_operations.new.boot) (g.F.Flash.seen c.write_operations.new.flash).content c.args.cut
    (e.goes.goes.come c.args.rules f.content c.cold-machine.ensures.come) e.goes.below e.end c.requires.inside
