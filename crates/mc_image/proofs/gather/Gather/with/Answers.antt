use Rattle.std.proofs.Common.{arith, ◌≡◌, ◌-◌, min, length}
use Rattle.mc_image.specs.inner.Reading.{held}
use Rattle.mc_image.proofs.ByteNumbers.{gathered}
use Rattle.mc_image.proofs.gather.Gather.with.Goals as goal

pub returns-clause-held : goal.returns-clause-held
unfolding held
returns-clause-held g c =
    let taken : c.min-taken.result ≡ min (g.row.N - c.args.self.count) (length c.args.piece.now) = omega arith in
    rw c.copy_from_slice.ensures.after (gathered g.row.N c.args.self.count c.min-taken.result c.args.self.bytes c.args.piece.now _ (omega arith) (omega arith) taken)
