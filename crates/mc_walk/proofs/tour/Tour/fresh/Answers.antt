use Rattle.std.proofs.Common.{refl}
use Rattle.mc_walk.proofs.tour.Tour.fresh.Goals as goal

pub returns : goal.returns
returns g c = refl
