use Rattle.std.proofs.Common.{Err, refl, ◌≡◌}
use Rattle.mc_boot.specs.{Boot.{progress}, facts.Leaps.{leap_comes, leap_counts, leap_less, then_comes, then_counts}, facts.Steps.{step_counts, step_less}}
use Rattle.mc_flash.specs.declared.flash.FlashError.TheVariants as errors
use Rattle.mc_boot.proofs.boot.Boot.stride.Goals as goal

pub returns-then-branch-clause-goes : goal.returns-then-branch-clause-goes
returns-then-branch-clause-goes g c =
    let e = c.in_ok-leap_on.ensures in
    let on = rw c.if-branch.true at e.leaps in
    record {
      come = λ r s. leap_comes on.0 (progress c.args.self.now) (progress c.leap_on.new.self) _ _ on.1 on.2 _ refl;
      layout = e.layout;
      whole = e.whole;
      keeps = e.keeps;
    }

pub returns-then-branch-clause-counts : goal.returns-then-branch-clause-counts
returns-then-branch-clause-counts g c =
    let on = rw c.if-branch.true at c.in_ok-leap_on.ensures.leaps in leap_counts on.0 (progress c.args.self.now) (progress c.leap_on.new.self) _ _ on.1 on.2

pub returns-then-branch-clause-ok : goal.returns-then-branch-clause-ok
returns-then-branch-clause-ok g c =
    let on = rw c.if-branch.true at c.in_ok-leap_on.ensures.leaps in leap_less on.0 (progress c.args.self.now) (progress c.leap_on.new.self) _ _ on.1 on.2

pub returns-in-Ok-clause-counts : goal.returns-in-Ok-clause-counts
returns-in-Ok-clause-counts g c =
    let still = rw c.if-branch.false at c.in_ok-leap_on.ensures.leaps in
    then_counts (progress c.args.self.now) (progress c.leap_on.new.self) (progress c.make.new.self) (g.F.Flash.seen c.args.flash.now) (g.F.Flash.seen c.leap_on.new.flash)
    (g.F.Flash.seen c.make.new.flash) still (step_counts (progress c.leap_on.new.self) (progress c.make.new.self) _ _ c.make.result c.make.ensures.step)

pub returns-in-Ok-clause-ok : goal.returns-in-Ok-clause-ok
returns-in-Ok-clause-ok g c =
    let still = rw c.if-branch.false at c.in_ok-leap_on.ensures.leaps in
    let fine : c.make.result ≡ Err errors.Memory → ⊥ = λ memory. absurd cc in
    then_comes (progress c.args.self.now) (progress c.leap_on.new.self) (progress c.make.new.self) (g.F.Flash.seen c.args.flash.now) (g.F.Flash.seen c.leap_on.new.flash)
    (g.F.Flash.seen c.make.new.flash) still (step_less (progress c.leap_on.new.self) (progress c.make.new.self) _ _ c.make.result fine c.make.ensures.step)
