use Rattle.std.proofs.{Common.{arith}, lemmas.Result.{err_from_is_err_and}}
use Rattle.std.specs.Prelude.{Ok}
use Rattle.mc_flash.specs.declared.op.Op.TheVariants.{Erase}
use Rattle.mc_tear.proofs.Putting.{does_spend, is_taken, ready_else, ready_erase, room_first}
use Rattle.mc_tear.proofs.torn.clear.Goals as goal

pub returns-in_err-erase-clause-spends : goal.returns-in_err-erase-clause-spends
returns-in_err-erase-clause-spends g c =
    let f = g.F.Flash.seen c.args.flash.now in
    let h = g.F.Flash.seen c.erase.new.self in
    let op = Erase c.in-Erase.slot c.in-Erase.sector in
    let applies = rw c.in-Erase.is at c.requires.applies in
    let failed = err_from_is_err_and c.from_residual.result c.from_residual.ensures.1 in
    rw failed.1 (rw c.in_err-erase.was at (does_spend op f h c.erase.result (room_first op f c.requires.room)
    (is_taken op f h applies.whole applies.makes c.erase.result c.erase.ensures) c.erase.ensures))

pub returns-in_ok-erase-clause-ready : goal.returns-in_ok-erase-clause-ready
returns-in_ok-erase-clause-ready g c =
    let f = g.F.Flash.seen c.args.flash.now in
    rw c.in-Erase.is (ready_erase c.in-Erase.slot c.in-Erase.sector f (g.F.Flash.seen c.erase.new.self) (rw c.layout.ensures at c.unit-unit.ensures.valid)
    (rw c.in-Erase.is at c.requires.applies) c.in_ok-erase.ensures)

pub returns-in_ok-erase-clause-spends : goal.returns-in_ok-erase-clause-spends
returns-in_ok-erase-clause-spends g c =
    let f = g.F.Flash.seen c.args.flash.now in
    let h = g.F.Flash.seen c.erase.new.self in
    let op = Erase c.in-Erase.slot c.in-Erase.sector in
    let does = c.in_ok-erase.ensures in
    does_spend op f h (Ok tt) (room_first op f c.requires.room) (λ e. absurd cc) does

pub returns-in_default : goal.returns-in_default
returns-in_default g c = record {
  ready = ready_else c.args.op.now (g.F.Flash.seen c.args.flash.now) c.in_default.not-Erase (rw c.layout.ensures at c.unit-unit.ensures.valid) c.requires.applies;
  spends = grind arith;
}
