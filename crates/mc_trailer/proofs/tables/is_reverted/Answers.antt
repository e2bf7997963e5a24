use Rattle.std.proofs.Common.{◌≡◌, rules}
use Rattle.mc_trailer.specs.declared.trailer.Flag.TheVariants as flags
use Rattle.mc_trailer.proofs.tables.is_reverted.Goals as goal

pub returns-in-Set : goal.returns-in-Set
returns-in-Set c =
    let set : c.args.primary.now.copy_done ≡ flags.Set = cc in
    rw set (search rules)
