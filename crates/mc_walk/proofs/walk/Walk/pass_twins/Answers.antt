use Rattle.std.proofs.Common.{◌≡◌, IfSome, Some, arith, length, subst, ◌∙◌}
use Rattle.mc_walk.specs.Walks.{HasPassedTwins, IsGoing, Walked, walked}
use Rattle.mc_walk.proofs.{Stacks.{length-stack}, Steps.{can_pass, going_on, passed_twins}, walk.Walk.pass_twins.Given.{Over}}
use Rattle.mc_walk.proofs.walk.Walk.pass_twins.Goals as goal
use Rattle.mc_walk.proofs.walk.Walk.pass_twins.Goals.{After-len-steps}

-- It stood.
going : (g : Over) (c : After-len-steps g)
    → IsGoing (g.B.FlashTree.model c.self.inside.flash_tree) c.self.inside.bound (g.F.Flash.seen c.self.inside.flash) c.self.inside.frames.items c.in-Some.summary
going g c =
    let w = c.self.inside in
    subst (λ o. IfSome o (IsGoing (g.B.FlashTree.model w.flash_tree) w.bound (g.F.Flash.seen w.flash) w.frames.items)) c.in-Some.is c.self.invariant.going

-- The checkpoint of the last frame.
index_is : (g : Over) (c : After-len-steps g) → c.len-steps.result ≡ length c.self.inside.frames.items
index_is g c = c.len-steps.ensures ∙ c.self.inside.frames.ok.0

pub back_to-requires : goal.back_to-requires
back_to-requires g c =
    let a = (goal.at.back_to-requires g c).After-len-steps in
    omega (arith, length-stack (g.B.FlashTree.model c.self.inside.flash_tree) _ _ (going g a).stands.stacked, index_is g a)

pub pass_siblings-requires : goal.pass_siblings-requires
pass_siblings-requires g c =
    let a = (goal.at.pass_siblings-requires g c).After-len-steps in
    can_pass (g.B.FlashTree.model c.self.inside.flash_tree) _ _ _ _ _ _ (going g a) (index_is g a) c.back_to.ensures (omega (arith, index_is g a))

pub invariant_of-self-2 : goal.invariant_of-self-2
invariant_of-self-2 g c =
    let a = (goal.at.invariant_of-self-2 g c).After-len-steps in
    record {
      reserved = omega (arith, c.self.invariant.reserved, c.in_ok-count.ensures.capacity);
      going = going_on (g.B.FlashTree.model c.self.inside.flash_tree) _ _ _ _ _ _ (going g a) (index_is g a) c.back_to.ensures _ _ _ c.in_ok-count.ensures.passes;
    }

pub returns-clause-passes : goal.returns-clause-passes
returns-clause-passes g c =
    let w = c.self.inside in
    let a = (goal.at.returns-clause-passes g c).After-len-steps in
    subst (λ (z : Walked g.row.B.Denot). HasPassedTwins (g.B.FlashTree.model z.flash_tree) z c.in_ok-count.count c.in-Some.summary
    (walked w.flash_tree w.bound (g.F.Flash.seen c.pass_siblings.new.flash) c.pass_siblings.new.frames.items (Some c.in-Some.summary))) c.self.view_is
    (passed_twins (g.B.FlashTree.model w.flash_tree) w.bound _ _ _ _ _ (going g a) (index_is g a) c.back_to.ensures _ _ _ c.in_ok-count.ensures.passes w.flash_tree w.summary)
