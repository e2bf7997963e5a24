use Rattle.std.proofs.Common.{arith}
use Rattle.std.specs.Prelude.{Ok}
use Rattle.mc_flash.specs.facts.Done.{does_keep}
use Rattle.mc_boot.proofs.Courses.{slot_small}
use Rattle.mc_boot.proofs.boot.Boot.leap.Goals as goal

pub overflow_mul-whole : goal.overflow_mul-whole
overflow_mul-whole g c =
    let f = g.F.Flash.seen c.args.flash.now in
    let small = slot_small f.geometry c.args.copies.now.from (rw c.layout.ensures at c.sector-sector.ensures.valid) in
    omega (arith, small, c.requires.inside.0.inside)

pub returns-in-Ok-clause-keeps : goal.returns-in-Ok-clause-keeps
returns-in-Ok-clause-keeps g c = does_keep _ (g.F.Flash.seen c.args.flash.now) (g.F.Flash.seen c.perform.new.flash) (Ok tt) c.in-Ok.ensures
