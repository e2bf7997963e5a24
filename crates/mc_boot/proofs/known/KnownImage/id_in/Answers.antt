use Rattle.std.proofs.Common.{◌≡◌, Some}
use Rattle.mc_image.specs.Valid.{id_of}
use Rattle.mc_boot.specs.Plan.{identity_of}
use Rattle.mc_boot.proofs.known.KnownImage.id_in.Goals as goal

pub returns-then-begin_alike : goal.returns-then-begin_alike
returns-then-begin_alike c =
    let valid : id_of c.args.self.now.bytes.now ≡ Some (identity_of c.args.self.now.id) = search in
    c.same_prefix.ensures.id c.args.self.now.bytes.now c.args.bytes.now (identity_of c.args.self.now.id) c.are_bytes.ensures valid (c.begin_alike.ensures c.if-begin_alike.true)
