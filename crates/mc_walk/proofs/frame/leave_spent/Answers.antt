use Rattle.std.proofs.Common.{◌≡◌, ◌-◌, Some, length, slice_get, refl, sym, ◌∙◌, ap, arith}
use Rattle.mc_walk.proofs.{Stacks.{none_off, popped_off, is_left}, frame.leave_spent.Given.{Over}}
use Rattle.mc_walk.proofs.frame.leave_spent.Goals as goal
use Rattle.mc_walk.proofs.frame.leave_spent.Goals.{In-Some}

last_is : (g : Over) (c : In-Some g) → slice_get c.loop-frame.frames.items (length c.loop-frame.frames.items - 1) ≡ Some c.in-Some.frame.now
last_is g c = ap (λ xs. slice_get xs (length xs - 1)) (sym c.deref.ensures.value) ∙ sym c.in-Some.ensures.value

pub loop-frame-init : goal.loop-frame-init
loop-frame-init g c = record { off = none_off _ _; capacity = refl }

pub loop-frame-preserved : goal.loop-frame-preserved
loop-frame-preserved g c =
    let last = last_is g (goal.at.loop-frame-preserved g c).In-Some in
    record {
      off = popped_off _ _ _ _ c.in-Some.frame.now c.pop.result c.loop-frame.invariant.off last c.pop.ensures.items
          (λ n summary. omega (arith, c.width.ensures n summary, c.saturating_sub-last.ensures, c.if-frame-last.false));
      capacity = c.pop.ensures.capacity ∙ c.loop-frame.invariant.capacity;
    }

pub returns-then-frame-last-clause-left : goal.returns-then-frame-last-clause-left
returns-then-frame-last-clause-left g c =
    let last = last_is g (goal.at.returns-then-frame-last-clause-left g c).In-Some in
    is_left _ _ _ c.in-Some.frame.now c.loop-frame.invariant.off last (λ n summary. omega (arith, c.width.ensures n summary, c.saturating_sub-last.ensures, c.if-frame-last.true))
    (omega (arith, c.saturating_sub-last.ensures, c.if-frame-last.true, c.width.type_inv))
