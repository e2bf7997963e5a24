use Rattle.std.proofs.Common.{ap, arith, sym, ◌∙◌}
use Rattle.std.specs.Prelude.{Option, length, ◌<◌, ◌≤◌}
use Rattle.mc_boot.specs.Outcome.{ops_of}
use Rattle.mc_explore.specs.facts.Summaries.{width_is}
use Rattle.mc_start.specs.Start.{begun}
use Rattle.mc_tear.specs.declared.reading.Reading.{Reading}
use Rattle.mc_tears.proofs.{Losing.{cut_there, lost_past}, Standing.{op_fits}}
use Rattle.mc_tears.specs.Losses.{lost_at}
use Rattle.mc_tears.proofs.case_flash.flash_after.Goals as goal

pub returns-then-loss-loaded-clause-content : goal.returns-then-loss-loaded-clause-content
returns-then-loss-loaded-clause-content g c =
    let x = begun c.args.start.now in
    let l = c.args.loss.now in
    let late : length (ops_of x) ≤ l.operation = omega (arith, c.if-loss-loaded.true, width_is x c.in_ok-loaded.loaded.whole.summary c.in_ok-loaded.ensures.is_whole.summary) in
    sym (lost_past c.args.erasing x l.operation l.within late)

pub go_to-requires-clause-early : goal.go_to-requires-clause-early
go_to-requires-clause-early g c = omega (arith, c.if-loss-loaded.false, width_is (begun c.args.start.now) c.in_ok-loaded.loaded.whole.summary c.in_ok-loaded.ensures.is_whole.summary)

pub returns-in_default-clause-content : goal.returns-in_default-clause-content
returns-in_default-clause-content g c =
    let x = begun c.args.start.now in
    let l = c.args.loss.now in
    let early : l.operation < length (ops_of x) = omega (arith, c.if-loss-loaded.false, width_is x c.in_ok-loaded.loaded.whole.summary c.in_ok-loaded.ensures.is_whole.summary) in
    sym (ap (λ (w : Option Reading). lost_at c.args.erasing x l.operation w) c.in_default.is
    ∙ cut_there x c.in_ok-at.at l.operation (g.F.Flash.seen c.go_to.new.flash) c.in_ok-at.ensures.stands c.in_ok-at.ensures.number c.args.erasing early)

pub next_op-op-requires-clause-early : goal.next_op-op-requires-clause-early
next_op-op-requires-clause-early g c =
    omega (arith, c.in_ok-at.ensures.number, c.if-loss-loaded.false, width_is (begun c.args.start.now) c.in_ok-loaded.loaded.whole.summary c.in_ok-loaded.ensures.is_whole.summary)

pub put_case-requires-clause-buffer : goal.put_case-requires-clause-buffer
put_case-requires-clause-buffer g c =
    let stands = c.in_ok-at.ensures.stands in
    op_fits (begun c.args.start.now) c.in_ok-at.at (g.F.Flash.seen c.go_to.new.flash) stands c.next_op-op.result _ c.next_op-op.ensures.applies
    (rw (stands.at_is.layout_is ∙ sym c.in_ok-loaded.ensures.stands.at_is.layout_is) c.in_ok-loaded.ensures.buffer)
