use Rattle.std.proofs.Common.{◌≡◌, refl}
use Rattle.mc_trailer.specs.declared.trailer.Magic.TheVariants as magics
use Rattle.mc_trailer.proofs.tables.reverts_at.Goals as goal

pub returns-in-Unset : goal.returns-in-Unset
returns-in-Unset c =
    let unset : c.args.magic ≡ magics.Unset = cc in
    rw (c.in-One.is, unset) refl
