use Rattle.std.proofs.Common.{refl}
use Rattle.mc_trailer.proofs.places.before_end.Goals as goal

pub returns-in-CopyDone : goal.returns-in-CopyDone
returns-in-CopyDone c = rw c.in-CopyDone.is refl
