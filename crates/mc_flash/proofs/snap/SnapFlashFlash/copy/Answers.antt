use Rattle.mc_flash.specs.{inner.Snap.{copy_seen}, declared.op.Op.TheVariants.{Copy}}
use Rattle.std.proofs.Common.{map}
use Rattle.mc_flash.proofs.Copies.{copies_become}
use Rattle.mc_flash.proofs.snap.SnapFlashFlash.copy.Goals as goal

pub returns : goal.returns
returns c =
    let f = c.args.self.now in
    copies_become (Copy c.args.from c.args.at c.args.to c.args.offset c.args.len) f.slots.layout c.copy.new.self.layout f.slots.content c.copy.new.self.content (map copy_seen f.checkpoints.items)
    f.failed
    c.copy.ensures.layout c.copy.result c.copy.ensures.does
