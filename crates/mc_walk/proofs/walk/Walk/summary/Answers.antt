use Rattle.std.proofs.Common.{subst}
use Rattle.mc_walk.specs.Walks.{Walked, IsThere}
use Rattle.mc_walk.proofs.Steps.{summary_there}
use Rattle.mc_walk.proofs.walk.Walk.summary.Goals as goal

pub returns : goal.returns
returns g c =
    let w = c.self.inside in
    subst (λ (z : Walked g.row.B.Denot). IsThere (g.B.FlashTree.model z.flash_tree) z c.in-Some.summary) c.self.view_is
    (summary_there (g.B.FlashTree.model w.flash_tree) w.flash_tree w.bound (g.F.Flash.seen w.flash) w.frames.items w.summary c.in-Some.summary c.in-Some.is c.self.invariant.going)
