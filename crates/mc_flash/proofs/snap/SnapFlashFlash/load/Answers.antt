use Rattle.mc_flash.proofs.Copies.{copies_load}
use Rattle.mc_flash.proofs.snap.SnapFlashFlash.load.Goals as goal

pub returns-clause-loads : goal.returns-clause-loads
returns-clause-loads c =
    copies_load c.args.layout.now c.in_ok-new.field-0.layout c.args.primary.now c.args.secondary.now c.in_ok-new.field-0.content c.new-2.result.items c.args._grain c.args._boots
    c.in_ok-new.ensures.layout c.in_ok-new.ensures.content c.new-2.ensures.items c.requires.boots.1
