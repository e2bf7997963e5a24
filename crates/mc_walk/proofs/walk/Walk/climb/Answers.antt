use Rattle.std.proofs.{Common.{◌≡◌, ◌+◌, ◌*◌, true, false, IfSome, Some, None, length, refl, subst, sym, ap, ◌∙◌, arith}, lemmas.Result.{err_from_is_err_and}}
use Rattle.mc_flash.specs.{Usage.{went_back, RanOut, Seen, Spent}, facts.Spends.{ran_out_later, spent_back}}
use Rattle.mc_walk.specs.{inner.Stack.{LeavesOpen}, Walks.{IsGoing, Walked, walked, Climbs, child_cost}}
use Rattle.mc_walk.proofs.{Steps.{Arrives, Leaves, StandsBefore, stands_before, standing, mark_there, can_go_on, arrives_on, climbed, none_on, twin_arrives, twin_climbed, twin_leaves}, walk.Walk.climb.Given.{Over}}
use Rattle.mc_walk.proofs.walk.Walk.climb.Goals as goal
use Rattle.mc_walk.proofs.walk.Walk.climb.Goals.{After-len, After-len-steps, In_default, In_ok-summary}

-- It stood, and a frame is left.
leaves : (g : Over) (c : After-len g)
    → Leaves (g.B.FlashTree.model c.self.inside.flash_tree) c.self.inside.bound (g.F.Flash.seen c.self.inside.flash) c.self.inside.frames.items c.leave_spent.new.frames.items
leaves g c =
    let w = c.self.inside in
    let k = g.B.FlashTree.model w.flash_tree in
    let stood = standing k w.bound (g.F.Flash.seen w.flash) w.frames.items w.summary (ap (λ (z : Walked _). z.stands) c.self.view_is ∙ c.requires) c.self.invariant.going in
    record {
      summary = stood.0;
      going = stood.1;
      is = subst (λ b. LeavesOpen k w.frames.items b c.leave_spent.new.frames.items) c.if-not-leave_spent.false c.leave_spent.ensures.left;
    }

-- The checkpoint of that frame.
index_is : (g : Over) (c : After-len g) → c.len.result ≡ length c.leave_spent.new.frames.items
index_is g c = omega (arith, c.len.ensures, c.leave_spent.new.frames.ok.0)

abbrev HasArrived : (g : Over) (c : In_ok-summary g) → Type 0
HasArrived g c =
    let w = c.self.inside in
    let k = g.B.FlashTree.model w.flash_tree in
    Arrives k w.bound ((0 + 1) * k.step) (g.F.Flash.seen w.flash) (g.F.Flash.seen c.next_sibling.new.flash) c.next_sibling.new.frames.items c.in_ok-summary.summary

arrived : (g : Over) (c : In_ok-summary g)
    → Leaves (g.B.FlashTree.model c.self.inside.flash_tree) c.self.inside.bound (g.F.Flash.seen c.self.inside.flash) c.self.inside.frames.items c.leave_spent.new.frames.items
    → c.len.result ≡ length c.leave_spent.new.frames.items → HasArrived g c
arrived g c l at =
    let w = c.self.inside in
    let h = c.in_ok-summary.ensures in
    let back = c.back_to-2.ensures ∙ ap (λ n. went_back n (g.F.Flash.seen w.flash)) at in
    arrives_on (g.B.FlashTree.model w.flash_tree) w.bound _ (g.F.Flash.seen c.back_to-2.new.self) w.frames.items _ l back _ _ _ h.stands h.frames h.spends

pub back_to-requires-2 : goal.back_to-requires-2
back_to-requires-2 g c =
    let a = (goal.at.back_to-requires-2 g c).After-len in
    let w = c.self.inside in
    omega (arith, mark_there (g.B.FlashTree.model w.flash_tree) w.bound (g.F.Flash.seen w.flash) _ _ _ (leaves g a) refl, index_is g a)

pub next_sibling-requires : goal.next_sibling-requires
next_sibling-requires g c =
    let a = (goal.at.next_sibling-requires g c).After-len in
    let w = c.self.inside in
    can_go_on (g.B.FlashTree.model w.flash_tree) w.bound (g.F.Flash.seen w.flash) _ _ _ (leaves g a) (c.back_to-2.ensures ∙ ap (λ n. went_back n (g.F.Flash.seen w.flash)) (index_is g a))

pub invariant_of-self-2 : goal.invariant_of-self-2
invariant_of-self-2 g c =
    let a = goal.at.invariant_of-self-2 g c in
    record {
      reserved = omega (arith, c.self.invariant.reserved, c.leave_spent.ensures.capacity, c.in_ok-summary.ensures.capacity);
      going = (arrived g a.In_ok-summary (leaves g a.After-len) (index_is g a.After-len)).going;
    }

pub returns-clause-step : goal.returns-clause-step
returns-clause-step g c =
    let w = c.self.inside in
    let k = g.B.FlashTree.model w.flash_tree in
    let old = g.F.Flash.seen w.flash in
    let new = g.F.Flash.seen c.next_sibling.new.flash in
    let a = goal.at.returns-clause-step g c in
    let l = leaves g a.After-len in
    let h = arrived g a.In_ok-summary l (index_is g a.After-len) in
    let next = c.in_ok-summary.ensures.frames l.is.before l.is.frame l.is.frames_are in
    subst (λ (z : Walked g.row.B.Denot). Climbs (g.B.FlashTree.model z.flash_tree) z true (walked w.flash_tree w.bound new c.next_sibling.new.frames.items (Some c.in_ok-summary.summary)))
    c.self.view_is
    (climbed k w.flash_tree w.bound old new w.frames.items l.is.before c.next_sibling.new.frames.items l.is.frame next.0 w.summary c.in_ok-summary.summary l.going.stands.stacked l.is.last
    next.2 next.1)

pub returns-clause-spends : goal.returns-clause-spends
returns-clause-spends g c =
    let a = goal.at.returns-clause-spends g c in
    let h = arrived g a.In_ok-summary (leaves g a.After-len) (index_is g a.After-len) in
    subst (λ (z : Walked g.row.B.Denot). Spent (child_cost (g.B.FlashTree.model z.flash_tree) 0) z.seen (g.F.Flash.seen c.next_sibling.new.flash)) c.self.view_is h.spent

pub returns-then-not-leave_spent-clause-step : goal.returns-then-not-leave_spent-clause-step
returns-then-not-leave_spent-clause-step g c =
    let w = c.self.inside in
    let k = g.B.FlashTree.model w.flash_tree in
    let old = g.F.Flash.seen w.flash in
    let stood = standing k w.bound old w.frames.items w.summary (ap (λ (z : Walked _). z.stands) c.self.view_is ∙ c.requires) c.self.invariant.going in
    let spent = subst (λ b. LeavesOpen k w.frames.items b c.leave_spent.new.frames.items) c.if-not-leave_spent.true c.leave_spent.ensures.left in
    subst (λ (z : Walked g.row.B.Denot). Climbs (g.B.FlashTree.model z.flash_tree) z false (walked {A = g.row.B-Child.Denot} {T =
    g.row.B-Summary.Denot} w.flash_tree w.bound old c.leave_spent.new.frames.items None)) c.self.view_is
    (none_on k w.flash_tree w.bound old w.frames.items c.leave_spent.new.frames.items w.summary stood.1.stands.stacked spent)

pub returns-in_err-summary-clause-spends : goal.returns-in_err-summary-clause-spends
returns-in_err-summary-clause-spends g c =
    let p = err_from_is_err_and c.from_residual.result c.from_residual.ensures.1 in
    let ran = subst (λ (s : Seen). RanOut s (g.F.Flash.seen c.next_sibling.new.flash)) c.back_to-2.ensures c.in_err-summary.ensures.spends in
    let back = spent_back c.len.result (g.F.Flash.seen c.self.inside.flash) in
    rw p.1 (subst (λ (z : Walked g.row.B.Denot). RanOut z.seen (g.F.Flash.seen c.next_sibling.new.flash)) c.self.view_is (ran_out_later 0 _ _ _ back ran))

-- It stands before a twin.
before : (g : Over) (c : After-len-steps g)
    → StandsBefore (g.B.FlashTree.model c.self.inside.flash_tree) c.self.inside.bound (g.F.Flash.seen c.self.inside.flash) c.self.inside.frames.items c.self.inside.summary
before g c =
    let w = c.self.inside in
    stands_before (g.B.FlashTree.model w.flash_tree) w.bound (g.F.Flash.seen w.flash) w.frames.items w.summary c.self.invariant.going
    (rw c.deref.ensures.value at (c.twin_of.ensures c.if-twin_of.true))

steps_are : (g : Over) (c : After-len-steps g) → c.len-steps.result ≡ length c.self.inside.frames.items
steps_are g c = c.len-steps.ensures ∙ c.self.inside.frames.ok.0

twin_arrived : (g : Over) (c : In_default g)
    → StandsBefore (g.B.FlashTree.model c.self.inside.flash_tree) c.self.inside.bound (g.F.Flash.seen c.self.inside.flash) c.self.inside.frames.items c.self.inside.summary
    → c.len-steps.result ≡ length c.self.inside.frames.items → (summary : g.row.B-Summary.Denot) × (c.self.inside.summary ≡ Some summary)
    × Arrives (g.B.FlashTree.model c.self.inside.flash_tree) c.self.inside.bound ((0 + 1) * (g.B.FlashTree.model c.self.inside.flash_tree).step) (g.F.Flash.seen c.self.inside.flash)
    (g.F.Flash.seen c.next_child.new.flash) c.next_child.new.frames.items summary
twin_arrived g c b at =
    let w = c.self.inside in
    let h = c.in_default.ensures in
    let back = c.back_to.ensures ∙ ap (λ n. went_back n (g.F.Flash.seen w.flash)) at in (
      b.summary,
      b.on.stood_is,
      twin_arrives (g.B.FlashTree.model w.flash_tree) w.bound (g.F.Flash.seen w.flash) w.frames.items w.summary b.summary b.going b.on _ _ _ back h.goes h.spends,
    )

pub back_to-requires : goal.back_to-requires
back_to-requires g c =
    let a = (goal.at.back_to-requires g c).After-len-steps in
    let w = c.self.inside in
    let b = before g a in
    let leaves = twin_leaves (g.B.FlashTree.model w.flash_tree) w.bound (g.F.Flash.seen w.flash) w.frames.items w.summary b.summary b.going b.on in
    omega (arith, mark_there (g.B.FlashTree.model w.flash_tree) w.bound (g.F.Flash.seen w.flash) _ _ _ leaves refl, steps_are g a)

pub next_child-requires : goal.next_child-requires
next_child-requires g c =
    let a = (goal.at.next_child-requires g c).After-len-steps in
    let w = c.self.inside in
    let b = before g a in
    let leaves = twin_leaves (g.B.FlashTree.model w.flash_tree) w.bound (g.F.Flash.seen w.flash) w.frames.items w.summary b.summary b.going b.on in
    can_go_on (g.B.FlashTree.model w.flash_tree) w.bound (g.F.Flash.seen w.flash) _ _ _ leaves (c.back_to.ensures ∙ ap (λ n. went_back n (g.F.Flash.seen w.flash)) (steps_are g a))

pub invariant_of-self-in_default : goal.invariant_of-self-in_default
invariant_of-self-in_default g c =
    let w = c.self.inside in
    let a = (goal.at.invariant_of-self-in_default g c).After-len-steps in
    let t = twin_arrived g (goal.at.invariant_of-self-in_default g c).In_default (before g a) (steps_are g a) in
    record {
      reserved = omega (arith, c.self.invariant.reserved, c.in_default.ensures.capacity);
      going = subst (λ o. IfSome o (IsGoing (g.B.FlashTree.model w.flash_tree) w.bound (g.F.Flash.seen c.next_child.new.flash) c.next_child.new.frames.items)) (sym t.1) t.2.going;
    }

pub returns-then-twin_of-clause-step : goal.returns-then-twin_of-clause-step
returns-then-twin_of-clause-step g c =
    let w = c.self.inside in
    let k = g.B.FlashTree.model w.flash_tree in
    let new = g.F.Flash.seen c.next_child.new.flash in
    let b = before g (goal.at.returns-then-twin_of-clause-step g c).After-len-steps in
    subst (λ (z : Walked g.row.B.Denot). Climbs (g.B.FlashTree.model z.flash_tree) z true (walked w.flash_tree w.bound new c.next_child.new.frames.items w.summary)) c.self.view_is
    (twin_climbed k w.bound (g.F.Flash.seen w.flash) w.frames.items w.summary b.summary b.going b.on w.flash_tree new c.next_child.new.frames.items c.in_default.ensures.goes)

pub returns-then-twin_of-clause-spends : goal.returns-then-twin_of-clause-spends
returns-then-twin_of-clause-spends g c =
    let a = goal.at.returns-then-twin_of-clause-spends g c in
    let t = twin_arrived g a.In_default (before g a.After-len-steps) (steps_are g a.After-len-steps) in
    subst (λ (z : Walked g.row.B.Denot). Spent (child_cost (g.B.FlashTree.model z.flash_tree) 0) z.seen (g.F.Flash.seen c.next_child.new.flash)) c.self.view_is t.2.spent
