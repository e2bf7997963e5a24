use Rattle.std.proofs.Common.{ℕ, List, true, false, subst}
use Rattle.mc_tree.specs.Tree.{Position}
use Rattle.mc_walk.specs.{Walks.{Toured, StandsBeyond, Visits}, declared.tour.Phase.TheVariants.{Going, Done}}
use Rattle.mc_walk.proofs.Touring.{left_on, left_over, stays_beyond}
use Rattle.mc_walk.proofs.tour.Tour.leave.Goals as goal

pub returns-clause-visits : goal.returns-clause-visits
returns-clause-visits g c =
    let w = c.self.inside.walk in
    let k = g.B.FlashTree.model w.flash_tree in
    let old : Toured g.row.B.Denot = record { walk = w; phase = c.self.inside.phase } in
    subst (λ (t : Toured g.row.B.Denot). (position : Position (List ℕ)) → StandsBeyond (g.B.FlashTree.model t.walk.flash_tree) t position
    → Visits (g.B.FlashTree.model t.walk.flash_tree) t position true (record { walk = c.climb.new.self; phase = Going })) c.self.view_is
    (λ position at. left_on k old c.climb.new.self position c.in-Going.is at c.in_ok-climb.field-0 c.if-not-branch.false c.in_ok-climb.ensures.step)

pub returns-then-not-branch-clause-visits : goal.returns-then-not-branch-clause-visits
returns-then-not-branch-clause-visits g c =
    let w = c.self.inside.walk in
    let k = g.B.FlashTree.model w.flash_tree in
    let old : Toured g.row.B.Denot = record { walk = w; phase = c.self.inside.phase } in
    subst (λ (t : Toured g.row.B.Denot). (position : Position (List ℕ)) → StandsBeyond (g.B.FlashTree.model t.walk.flash_tree) t position
    → Visits (g.B.FlashTree.model t.walk.flash_tree) t position false (record { walk = c.climb.new.self; phase = Done })) c.self.view_is
    (λ position at. left_over k old c.climb.new.self position c.in-Going.is at c.in_ok-climb.field-0 c.if-not-branch.true c.in_ok-climb.ensures.step)

pub returns-in-Fresh-clause-visits : goal.returns-in-Fresh-clause-visits
returns-in-Fresh-clause-visits g c =
    let w = c.self.inside.walk in
    let k = g.B.FlashTree.model w.flash_tree in
    let old : Toured g.row.B.Denot = record { walk = w; phase = c.self.inside.phase } in
    subst (λ (t : Toured g.row.B.Denot). (position : Position (List ℕ)) → StandsBeyond (g.B.FlashTree.model t.walk.flash_tree) t position
    → Visits (g.B.FlashTree.model t.walk.flash_tree) t position false t) c.self.view_is (λ position at. stays_beyond k old position c.in-Fresh.is at)
