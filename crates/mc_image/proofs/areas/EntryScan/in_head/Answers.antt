use Rattle.std.proofs.Common.{refl}
use Rattle.mc_image.proofs.Scans.{head_goes}
use Rattle.mc_image.proofs.areas.EntryScan.in_head.Goals as goal

pub returns : goal.returns
returns c =
    head_goes c.args.self c.args.head _ c.after_head-part.result _ c.args.piece.now _ _ c.requires.part c.requires.nonempty
    c.requires.fits.1 c.with.ensures.held c.with.ensures.rest refl (λ before begun. c.after_head-part.ensures before begun)
