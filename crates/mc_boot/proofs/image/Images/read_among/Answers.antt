use Rattle.mc_boot.proofs.Images.{images_read}
use Rattle.mc_boot.proofs.image.Images.read_among.Goals as goal

pub returns : goal.returns
returns g c =
    images_read (g.F.Flash.seen c.args.flash.now).content c.slot_bytes.result.now c.slot_bytes-2.result.now c.slot_bytes.ensures.value c.slot_bytes-2.ensures.value
    c.image_size-primary.result c.read_among-secondary.result c.new.result c.image_size-primary.ensures c.read_among-secondary.ensures.size c.read_among-secondary.ensures.id c.new.ensures.valid
    c.new.ensures.size
