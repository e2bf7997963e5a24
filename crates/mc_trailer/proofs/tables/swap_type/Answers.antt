use Rattle.std.proofs.Common.{◌≡◌, refl}
use Rattle.mc_trailer.specs.declared.trailer.Flag.TheVariants as flags
use Rattle.mc_trailer.specs.declared.trailer.Magic.TheVariants as magics
use Rattle.mc_trailer.proofs.tables.swap_type.Goals as goal

pub returns-in-Good-Unset-clause-value : goal.returns-in-Good-Unset-clause-value
returns-in-Good-Unset-clause-value c =
    let good : c.args.secondary.now.magic ≡ magics.Good = cc in
    let unset : c.args.secondary.now.image_ok ≡ flags.Unset = cc in
    rw (good, unset) refl

pub returns-in-Good-Unset-clause-row : goal.returns-in-Good-Unset-clause-row
returns-in-Good-Unset-clause-row c =
    let good : c.args.secondary.now.magic ≡ magics.Good = cc in
    let unset : c.args.secondary.now.image_ok ≡ flags.Unset = cc in
    rw (good, unset) refl
