use Rattle.std.proofs.Common.{◌≡◌, arith, min, length}
use Rattle.mc_image.proofs.Scans.{value_goes}
use Rattle.mc_image.proofs.areas.EntryScan.in_value.Goals as goal

pub returns : goal.returns
returns c =
    let taken : c.min-taken.result ≡ min c.args.left (length c.args.piece.now) = omega arith in
    value_goes c.args.self c.args.left c.min-taken.result c.args.piece.now _ c.requires.part c.requires.nonempty c.requires.fits.1 taken
