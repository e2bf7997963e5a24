use Rattle.mc_flash.specs.{inner.Snap.{copy_seen}, declared.op.Op.TheVariants.{Program}}
use Rattle.std.proofs.Common.{map}
use Rattle.mc_flash.proofs.Copies.{copies_become}
use Rattle.mc_flash.proofs.snap.SnapFlashFlash.program.Goals as goal

pub returns : goal.returns
returns c =
    let f = c.args.self.now in
    copies_become (Program c.args.slot c.args.offset c.args.bytes.now) f.slots.layout c.program.new.self.layout f.slots.content c.program.new.self.content (map copy_seen f.checkpoints.items) f.failed
    c.program.ensures.layout c.program.result c.program.ensures.does
