use Rattle.mc_flash.specs.{inner.Snap.{copy_seen}, declared.op.Op.TheVariants.{Erase}}
use Rattle.std.proofs.Common.{map}
use Rattle.mc_flash.proofs.{Copies.{copies_do}, Undo.{erase_done}}
use Rattle.mc_flash.proofs.snap.SnapFlashFlash.erase.Goals as goal

pub returns : goal.returns
returns c =
    let f = c.args.self.now in
    copies_do (Erase c.args.slot c.args.sector) f.slots.layout c.erase.new.self.layout f.slots.content c.erase.new.self.content (map copy_seen f.checkpoints.items) f.failed c.erase.ensures.layout
    (erase_done f.slots.layout f.slots.content c.erase.new.self.content c.args.slot c.args.sector c.erase.ensures.content)
