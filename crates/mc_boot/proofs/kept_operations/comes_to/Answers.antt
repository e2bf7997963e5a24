use Rattle.std.specs.Bool.{beq}
use Rattle.std.specs.Prelude.{Bool, not}
use Rattle.std.proofs.Common.{arith, false, inl, inr, refl, true, ◌*◌, ◌≡◌}
use Rattle.mc_boot.proofs.CourseJoins.{new_comes, resumed_comes, whole_rest}
use Rattle.mc_boot.proofs.kept_operations.comes_to.Goals as goal

not_so : (b : Bool) → not b ≡ true → b ≡ false
not_so false is = refl
not_so true is = absurd cc

same_so : (a b : Bool) → beq a b ≡ true → a ≡ b
same_so false false is = refl
same_so false true is = absurd cc
same_so true false is = absurd cc
same_so true true is = refl

pub returns-then-first-eq0 : goal.returns-then-first-eq0
returns-then-first-eq0 c = λ yes.
    let start : c.args.erases ≡ true → c.args.first ≡ 0 = grind arith in
    rw (c.in-New.is, not_so c.args.image_ok yes)
    (new_comes c.args.next.now.grain c.args.next.now.layout c.in-New.kind c.in-New.size c.args.next.now.sectors c.args.first c.args.erases c.requires start)

pub returns-then-erased : goal.returns-then-erased
returns-then-erased c = grind (arith, whole_rest)

pub returns-then-confirms-image_ok : goal.returns-then-confirms-image_ok
returns-then-confirms-image_ok c = λ yes.
    rw (c.in-Resumed.is, c.if-erases.false) (resumed_comes c.args.next.now.layout c.args.next.now.sectors c.in-Resumed.start c.args.first c.in-Resumed.erased c.in-Resumed.confirms c.args.image_ok
    c.if-start-first-2.true c.requires (inl (same_so c.in-Resumed.confirms c.args.image_ok yes)))

pub returns-then-last : goal.returns-then-last
returns-then-last c = λ yes.
    let last : c.args.first ≡ 3 * c.args.next.now.sectors = grind arith in
    rw (c.in-Resumed.is, c.if-erases.false) (resumed_comes c.args.next.now.layout c.args.next.now.sectors c.in-Resumed.start c.args.first c.in-Resumed.erased c.in-Resumed.confirms c.args.image_ok
    c.if-start-first-2.true c.requires (inr (last, not_so c.args.image_ok yes)))
