use Rattle.std.proofs.Common.{IfSome, subst}
use Rattle.mc_walk.specs.{Walks.{IsBeforeTwin, Walked}}
use Rattle.mc_walk.proofs.Steps.{before_next}
use Rattle.mc_walk.proofs.walk.Walk.next_twin.Goals as goal

pub returns-then-twin_of : goal.returns-then-twin_of
returns-then-twin_of g c =
    let w = c.self.inside in
    let k = g.B.FlashTree.model w.flash_tree in
    let on = c.twin_of.ensures c.if-twin_of.true in
    subst (λ (z : Walked g.row.B.Denot). IfSome w.summary (IsBeforeTwin (g.B.FlashTree.model z.flash_tree) z)) c.self.view_is
    (before_next k w.flash_tree w.bound (g.F.Flash.seen w.flash) w.frames.items w.summary c.self.invariant.going (rw c.deref.ensures.value at on))
