use Rattle.std.proofs.Common.{refl}
use Rattle.mc_explore.proofs.Rowing.{rowing_begun}
use Rattle.mc_explore.proofs.rows.Rows.fresh.Goals as goal

pub invariant_of-result : goal.invariant_of-result
invariant_of-result g c = rw c.fresh-tour.ensures (rowing_begun _ _ _ _ _ _ _ _ _ refl c.requires.at_most c.requires.kept)

pub returns : goal.returns
returns g c = rw (c.fresh-tour.ensures, c.new.ensures) refl
