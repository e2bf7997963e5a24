use Rattle.std.specs.Prelude.{Ok}
use Rattle.mc_flash.specs.facts.Done.{does_keep}
use Rattle.mc_boot.specs.facts.Run.{come_steps}
use Rattle.mc_boot.proofs.Plans.{next_step, refused_step}
use Rattle.mc_boot.proofs.boot.Boot.make.Goals as goal

pub returns-in-Ok-clause-step : goal.returns-in-Ok-clause-step
returns-in-Ok-clause-step g c =
    next_step c.args.self.now c.args.op (g.F.Flash.seen c.args.flash.now) (g.F.Flash.seen c.perform.new.flash) c.requires.next.0 c.in-Ok.ensures

pub returns-in-Ok-clause-come : goal.returns-in-Ok-clause-come
returns-in-Ok-clause-come g c r s come =
    come_steps r s _ _ (g.F.Flash.seen c.args.flash.now) (g.F.Flash.seen c.perform.new.flash) _ come (returns-in-Ok-clause-step g c)

pub returns-in-Ok-clause-keeps : goal.returns-in-Ok-clause-keeps
returns-in-Ok-clause-keeps g c = does_keep c.args.op (g.F.Flash.seen c.args.flash.now) (g.F.Flash.seen c.perform.new.flash) (Ok tt) c.in-Ok.ensures

pub returns-in-Ok-clause-layout : goal.returns-in-Ok-clause-layout
returns-in-Ok-clause-layout g c = rw (returns-in-Ok-clause-keeps g c).geometry c.requires.layout

pub returns-in-Err-NotErased-clause-come : goal.returns-in-Err-NotErased-clause-come
returns-in-Err-NotErased-clause-come g c r s come =
    come_steps r s _ _ (g.F.Flash.seen c.args.flash.now) (g.F.Flash.seen c.perform.new.flash) _ come
    (refused_step c.args.self.now c.args.op (g.F.Flash.seen c.args.flash.now) (g.F.Flash.seen c.perform.new.flash) c.requires.next.0
    (rw c.in-Err-NotErased.field-0-is at c.in-Err-NotErased.ensures))
