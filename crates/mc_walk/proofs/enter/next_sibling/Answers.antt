use Rattle.std.proofs.Common.{◌≡◌, ℕ, ◌+◌, ◌-◌, ◌≤◌, IfOk, List, [], ◌∷◌, ◌++◌, length, length-append, Result, Ok, Err, sym, ap, subst, ◌∙◌, arith}
use Rattle.mc_flash.specs.{Usage.{HasRoom, Seen, Spent, Spends}, facts.Spends.{ran_out_later, spent_both}}
use Rattle.mc_walk.specs.{TreeModel.{IsChild, IsChildSummary, owed_there}, declared.frame.Frame.{Frame}}
use Rattle.mc_walk.proofs.{Stacks.{child_here, entered_summary, given_there}, Steps.{last_now, ok_any, one_on}, enter.next_sibling.Given.{Over}}
use Rattle.mc_walk.proofs.enter.next_sibling.Goals as goal
use Rattle.mc_walk.proofs.enter.next_sibling.Goals.{After-index-last}

-- Where the last of a list stands.
within : {X : Type 0} (n : ℕ) (all before : List X) (x : X) → n ≡ length all → all ≡ before ++ x ∷ [] → 1 ≤ n
within n all before x e split = omega (arith, e, ap length split, length-append before (x ∷ []))

both : {T E : Type 0} (a b : ℕ) (x y z : Seen) (r : Result T E) → Spent a x y → Spends b y r z → Spends (a + b) x r z
both a b x y z (Ok t) s h = spent_both a b x y z s h
both a b x y z (Err e) s h = ran_out_later a x y z s h

-- The frame of the child to which it went.
is : (g : Over) (c : After-index-last g) → c.index-last.result.now ≡ c.in_ok-next_child.ensures.goes.next
is g c =
    last_now (g.B.FlashTree.model c.args.flash_tree) _ _ _ _ _ (ap (λ z. z - 1) (c.len-end.ensures ∙ c.next_child.new.frames.ok.0)) c.index-last.ensures
    c.in_ok-next_child.ensures.goes.next_are

pub overflow_sub-end : goal.overflow_sub-end
overflow_sub-end g c = within _ _ _ _ (c.len-end.ensures ∙ c.next_child.new.frames.ok.0) c.in_ok-next_child.ensures.goes.next_are

pub index-last-requires : goal.index-last-requires
index-last-requires g c =
    let some = within _ _ _ _ (c.len-end.ensures ∙ c.next_child.new.frames.ok.0) c.in_ok-next_child.ensures.goes.next_are in
    omega (arith, some, c.len-end.ensures)

pub child-requires-clause-child : goal.child-requires-clause-child
child-requires-clause-child g c =
    let k = g.B.FlashTree.model c.args.flash_tree in
    let h = c.in_ok-next_child.ensures.goes in
    let same = is g (goal.at.child-requires-clause-child g c).After-index-last in
    subst (λ (f : Frame _ _). IsChild k f.at f.parent (g.F.Flash.seen c.next_child.new.flash)) (sym same) (child_here k h.seen _ h.before h.next h.comes h.marked_is)

pub child-requires-clause-room : goal.child-requires-clause-room
child-requires-clause-room g c =
    let k = g.B.FlashTree.model c.args.flash_tree in
    let same = is g (goal.at.child-requires-clause-room g c).After-index-last in
    subst (λ (f : Frame _ _). HasRoom (owed_there k f.at) (g.F.Flash.seen c.next_child.new.flash)) (sym same) c.in_ok-next_child.ensures.goes.room

pub returns-clause-stands : goal.returns-clause-stands
returns-clause-stands g c =
    let k = g.B.FlashTree.model c.args.flash_tree in
    let mid = g.F.Flash.seen c.next_child.new.flash in
    let h = c.in_ok-next_child.ensures.goes in
    let same = is g (goal.at.returns-clause-stands g c).After-index-last in
    let gives = subst (λ (f : Frame _ _). IfOk c.child.result (IsChildSummary k f.at f.parent mid)) same c.child.ensures.gives in
    entered_summary k h.seen mid _ h.before _ h.next c.child.result h.comes h.marked_is h.next_are (given_there k mid h.next.at h.next.parent c.child.result _ _ gives)
    c.child.ensures.stays

pub returns-clause-frames : goal.returns-clause-frames
returns-clause-frames g c = ok_any c.child.result (one_on (g.B.FlashTree.model c.args.flash_tree) _ _ _ c.in_ok-next_child.ensures.goes)

pub returns-clause-spends : goal.returns-clause-spends
returns-clause-spends g c = both _ _ _ _ _ c.child.result c.in_ok-next_child.ensures.spends c.child.ensures.spends
