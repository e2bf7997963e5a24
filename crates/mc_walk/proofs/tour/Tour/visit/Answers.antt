use Rattle.std.proofs.Common.{ℕ, List, true, refl, sym, ap, subst, ◌∙◌}
use Rattle.mc_tree.specs.Tree.{Position}
use Rattle.mc_walk.specs.{Walks.{Toured, StandsAt, Visits}, declared.tour.Phase.TheVariants.{Going}}
use Rattle.mc_walk.proofs.Touring.{visits_first}
use Rattle.mc_walk.proofs.tour.Tour.visit.Goals as goal

pub returns-in_ok-begin-in-Fresh-clause-visits : goal.returns-in_ok-begin-in-Fresh-clause-visits
returns-in_ok-begin-in-Fresh-clause-visits g c =
    let w = c.self.inside.walk in
    let k = g.B.FlashTree.model w.flash_tree in
    let old : Toured g.row.B.Denot = record { walk = w; phase = c.self.inside.phase } in
    subst (λ (t : Toured g.row.B.Denot). (position : Position (List ℕ)) → StandsAt (g.B.FlashTree.model t.walk.flash_tree) t position
    → Visits (g.B.FlashTree.model t.walk.flash_tree) t position true (record { walk = c.begin.new.self; phase = Going })) c.self.view_is
    (λ position at. visits_first k old c.in_ok-begin-in-Fresh.field-0 c.begin.new.self c.in_ok-begin-in-Fresh.ensures.begins position c.in-Fresh.is at)

pub returns-in-Broken-clause-costs : goal.returns-in-Broken-clause-costs
returns-in-Broken-clause-costs g c = (ap (λ (t : Toured g.row.B.Denot). t.phase) (sym c.self.view_is) ∙ c.in-Broken.is, refl)
