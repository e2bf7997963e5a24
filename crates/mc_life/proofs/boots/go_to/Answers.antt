use Rattle.std.proofs.Common.{◌≡◌, ℕ, arith, sym, ap, subst, take, ◌∙◌}
use Rattle.std.specs.Option.{is_some}
use Rattle.std.specs.Prelude.{Bool, None, Option, Some, refl, slice_get}
use Rattle.mc_boot.specs.{Boot.{progress, to_come}, Outcome.{ops_of}, Plan.{powered}, facts.Steps.{none_first}}
use Rattle.mc_flash.specs.{Flash.{apply}, Geometry.{Geometry}, declared.op.Op.{Op}}
use Rattle.mc_life.proofs.{Booting.{decided, ended, prefix_is, too_late}, Losing.{comes_to}}
use Rattle.mc_life.specs.Device.{Cuts, worn}
use Rattle.mc_life.proofs.boots.go_to.Given.{Over}
use Rattle.mc_life.proofs.boots.go_to.Goals as goal
use Rattle.mc_life.proofs.boots.go_to.Goals.{In-Some}

pub returns-then-count-clause-comes : goal.returns-then-count-clause-comes
returns-then-count-clause-comes g c =
    let e = c.in_ok-boot.ensures in
    let at_most = c.if-count.true in
    too_late _ _ _ e.come c.args.count (ended _ _ c.args.count (omega (arith, at_most, c.count.ensures)) e.end) e.below

is_none : (o : Option Op) → ((op : Op) → o ≡ Some op → ⊥) → o ≡ None
is_none None none = refl
is_none (Some op) none = absurd (none op refl)

pub returns-in_default-clause-comes : goal.returns-in_default-clause-comes
returns-in_default-clause-comes g c =
    let e = c.in_ok-boot.ensures in
    let none = ap (λ (o : Option Op). is_some o) (is_none c.peek.result c.in_default.not-Some) in
    too_late _ _ _ e.come c.args.count (none_first (to_come c.in_ok-boot.boot) c.peek.result c.peek.ensures.first none) e.below

here : (g : Over) (c : In-Some g) → (progress c.in_ok-boot.boot).count ≡ c.args.count
here g c = let enough = c.if-count.false in let e = c.in_ok-boot.ensures in omega (arith, enough, c.count.ensures, e.below)

first : (g : Over) (c : In-Some g) → slice_get (to_come c.in_ok-boot.boot) 0 ≡ Some c.in-Some.op
first g c = sym c.peek.ensures.first ∙ c.in-Some.is

pub returns-then-not-is_defined-clause-comes : goal.returns-then-not-is_defined-clause-comes
returns-then-not-is_defined-clause-comes g c =
    let e = c.in_ok-boot.ensures in
    let at = (goal.at.returns-then-not-is_defined-clause-comes g c).In-Some in
    let f = g.F.Flash.seen c.run.new.flash in
    let x = powered c.args.rules (g.F.Flash.seen c.args.flash.now) in
    let is = c.is_defined.ensures ∙ ap (λ (y : Geometry). is_some (apply y c.in-Some.op f.content)) e.layout in
    subst (λ (b : Bool). Cuts x c.args.count b f.content) c.if-not-is_defined.true
    (decided _ _ _ e.come c.args.count c.in-Some.op (first g at) (here g at) c.is_defined.result is)

pub returns-clause-comes : goal.returns-clause-comes
returns-clause-comes g c =
    let e = c.in_ok-boot.ensures in
    let at = (goal.at.returns-clause-comes g c).In-Some in
    let f = g.F.Flash.seen c.run.new.flash in
    let is = c.is_defined.ensures ∙ ap (λ (y : Geometry). is_some (apply y c.in-Some.op f.content)) e.layout in
    comes_to _ _ _ e.come c.in-Some.op (first g at) c.args.count (here g at) c.is_defined.result is c.if-not-is_defined.false

pub returns-clause-wear : goal.returns-clause-wear
returns-clause-wear g c =
    let x = powered c.args.rules (g.F.Flash.seen c.args.flash.now) in
    let e = c.in_ok-boot.ensures in
    let at = (goal.at.returns-clause-wear g c).In-Some in
    e.wear ∙ ap (worn c.args.wear.now) (sym (prefix_is _ _ _ e.come)) ∙ ap (λ (n : ℕ). worn c.args.wear.now (take n (ops_of x))) (here g at)
