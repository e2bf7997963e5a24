use Rattle.mc_start.specs.Start.{begun}
use Rattle.mc_vectors.proofs.Nearest.{not_refused}
use Rattle.mc_vectors.proofs.locating.flash_left.Goals as goal

pub unreachable-requires : goal.unreachable-requires
unreachable-requires g c =
    not_refused (begun c.args.start.now) c.args.schedule.now c.in-Err-CannotOccur.field-0-0 c.requires (rw c.in-Err-CannotOccur.field-0-is at c.in-Err-CannotOccur.ensures.cut)
