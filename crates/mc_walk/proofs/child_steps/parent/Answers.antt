use Rattle.std.proofs.Common.{◌≡◌, Option, Some, subst, arith}
use Rattle.mc_walk.proofs.child_steps.parent.Goals as goal

some_is : {X : Type 0} {o : Option X} (a b : X) → o ≡ Some a → o ≡ Some b → a ≡ b
some_is a b e f = cc

pub returns-then-frames-bound : goal.returns-then-frames-bound
returns-then-frames-bound g c = λ summary is at_most. absurd (omega (arith, at_most))

pub returns-then-number-width : goal.returns-then-number-width
returns-then-number-width g c = λ summary is at_most n here.
    let k = g.B.FlashTree.model c.args.flash_tree in
    omega (arith, c.if-number-width.true, c.width.ensures n (subst (λ t. k.IsSummary n t) (some_is summary c.in_ok-summary.summary is c.in_ok-summary.was) here))

pub returns : goal.returns
returns g c = (c.in_ok-summary.was, omega arith, λ n here. omega (arith, c.if-number-width.false, c.width.ensures n here))
