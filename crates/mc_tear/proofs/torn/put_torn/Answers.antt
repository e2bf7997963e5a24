use Rattle.std.proofs.{lemmas.Result.{err_from_is_err_and}}
use Rattle.std.specs.Prelude.{Ok}
use Rattle.mc_flash.specs.facts.{Done.{does_keep}, Spends.{keeps_both, ran_out_later, spent_both}}
use Rattle.mc_tear.proofs.Putting.{can_put, does_spend, program, put_counts, put_made, put_room, put_taken}
use Rattle.mc_tear.proofs.torn.put_torn.Goals as goal

pub program-requires : goal.program-requires
program-requires g c =
    let f = g.F.Flash.seen c.args.flash.now in
    let m = g.F.Flash.seen c.clear.new.flash in
    rw (c.slot_of.ensures, c.written_from-from.ensures.from, c.layout-2.ensures)
    (can_put c.args.op.now f m c.args.bytes.now (rw c.layout.ensures at c.unit-unit.ensures.valid) c.requires.applies c.in_ok-clear.ensures.ready c.requires.len)

pub returns-in_err-program-clause-spends : goal.returns-in_err-program-clause-spends
returns-in_err-program-clause-spends g c =
    let f = g.F.Flash.seen c.args.flash.now in
    let m = g.F.Flash.seen c.clear.new.flash in
    let n = g.F.Flash.seen c.program.new.self in
    let op = c.args.op.now in
    let ok = rw c.layout.ensures at c.unit-unit.ensures.valid in
    let ready = c.in_ok-clear.ensures.ready in
    let spent = c.in_ok-clear.ensures.spends in
    let does = rw (c.slot_of.ensures, c.written_from-from.ensures.from, c.layout-2.ensures) at c.program.ensures in
    let failed = err_from_is_err_and c.from_residual-in_err-program.result c.from_residual-in_err-program.ensures.1 in
    let p = program op f m c.args.bytes.now ok c.requires.applies ready c.requires.len in
    rw failed.1 (ran_out_later 1 f m n spent (rw c.in_err-program.was at (does_spend p m n c.program.result
    (put_room op f m c.args.bytes.now ok c.requires.applies ready c.requires.len c.requires.room spent.limits)
    (put_taken op f m c.args.bytes.now ok c.requires.applies ready c.requires.len n c.program.result does) does)))

pub returns-clause-put : goal.returns-clause-put
returns-clause-put g c =
    let f = g.F.Flash.seen c.args.flash.now in
    let m = g.F.Flash.seen c.clear.new.flash in
    let does = rw (c.slot_of.ensures, c.written_from-from.ensures.from, c.layout-2.ensures) at c.in_ok-program.ensures in
    put_made c.args.op.now f m c.args.bytes.now (rw c.layout.ensures at c.unit-unit.ensures.valid) c.requires.applies c.in_ok-clear.ensures.ready c.requires.len
    (g.F.Flash.seen c.program.new.self) does.0

pub returns-clause-keeps : goal.returns-clause-keeps
returns-clause-keeps g c =
    keeps_both (g.F.Flash.seen c.args.flash.now) (g.F.Flash.seen c.clear.new.flash) (g.F.Flash.seen c.program.new.self) c.in_ok-clear.ensures.ready.keeps
    (does_keep _ (g.F.Flash.seen c.clear.new.flash) (g.F.Flash.seen c.program.new.self) (Ok tt) c.in_ok-program.ensures)

pub returns-clause-counts : goal.returns-clause-counts
returns-clause-counts g c =
    let f = g.F.Flash.seen c.args.flash.now in
    let m = g.F.Flash.seen c.clear.new.flash in
    let does = rw (c.slot_of.ensures, c.written_from-from.ensures.from, c.layout-2.ensures) at c.in_ok-program.ensures in
    put_counts c.args.op.now f m c.args.bytes.now (rw c.layout.ensures at c.unit-unit.ensures.valid) c.requires.applies c.in_ok-clear.ensures.ready c.requires.len
    (g.F.Flash.seen c.program.new.self) does.0

pub returns-clause-spends : goal.returns-clause-spends
returns-clause-spends g c =
    let f = g.F.Flash.seen c.args.flash.now in
    let m = g.F.Flash.seen c.clear.new.flash in
    let n = g.F.Flash.seen c.program.new.self in
    let op = c.args.op.now in
    let ok = rw c.layout.ensures at c.unit-unit.ensures.valid in
    let ready = c.in_ok-clear.ensures.ready in
    let spent = c.in_ok-clear.ensures.spends in
    let does = rw (c.slot_of.ensures, c.written_from-from.ensures.from, c.layout-2.ensures) at c.in_ok-program.ensures in
    let p = program op f m c.args.bytes.now ok c.requires.applies ready c.requires.len in
    spent_both 1 1 f m n spent (does_spend p m n (Ok tt) (put_room op f m c.args.bytes.now ok c.requires.applies ready c.requires.len c.requires.room spent.limits) (λ e. absurd cc) does)
