use Rattle.std.proofs.Common.{Some, sym, subst}
use Rattle.mc_walk.specs.Walks.{IsFresh, Begins, Walked, walked}
use Rattle.mc_walk.proofs.Steps.{begun}
use Rattle.mc_walk.proofs.walk.Walk.begin.Goals as goal

pub invariant_of-self-2 : goal.invariant_of-self-2
invariant_of-self-2 g c =
    let w = c.self.inside in
    let k = g.B.FlashTree.model w.flash_tree in
    let h = c.in_ok-summary.ensures in
    let fresh = subst (λ (z : Walked g.row.B.Denot). IsFresh (g.B.FlashTree.model z.flash_tree) z) (sym c.self.view_is) c.requires in
    let b = begun k w.flash_tree w.bound (g.F.Flash.seen w.flash) (g.F.Flash.seen c.root.new.flash) w.frames.items w.summary c.in_ok-summary.summary fresh h.stays h.gives h.spends.limits in
    record { reserved = c.self.invariant.reserved; going = b.0 }

pub returns-clause-begins : goal.returns-clause-begins
returns-clause-begins g c =
    let w = c.self.inside in
    let k = g.B.FlashTree.model w.flash_tree in
    let h = c.in_ok-summary.ensures in
    let new = g.F.Flash.seen c.root.new.flash in
    let fresh = subst (λ (z : Walked g.row.B.Denot). IsFresh (g.B.FlashTree.model z.flash_tree) z) (sym c.self.view_is) c.requires in
    subst (λ (z : Walked g.row.B.Denot). Begins (g.B.FlashTree.model z.flash_tree) z c.in_ok-summary.summary (walked w.flash_tree w.bound new w.frames.items (Some c.in_ok-summary.summary)))
    c.self.view_is
    (begun k w.flash_tree w.bound (g.F.Flash.seen w.flash) new w.frames.items w.summary c.in_ok-summary.summary fresh h.stays h.gives h.spends.limits).1
