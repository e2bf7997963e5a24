use Rattle.std.proofs.Common.{◌≡◌, Some, arith}
use Rattle.mc_boot.specs.{Outcome.{outcome_of, shown, left_by}, Plan.{again}}
use Rattle.mc_explore.specs.inner.OneRound.{begins}
use Rattle.mc_explore.specs.Boots.{at_cut}
use Rattle.mc_explore.proofs.Onwards.{cut_so, left_still, of_next, summary_of, summary_still}
use Rattle.mc_explore.proofs.one_round.OneRound.derive.Goals as goal

pub returns-then-count-eq0-clause-summary : goal.returns-then-count-eq0-clause-summary
returns-then-count-eq0-clause-summary g c = λ x i here early summary.
    let none : i ≡ 0 = omega (arith, here.on_is.1.count_is, c.count.ensures, c.if-count-eq0.true) in
    (of_next (begins c.args.self.now) x (at_cut x i) here.on_is.0, summary_still x i c.args.parent.now none summary.1)

pub returns-then-count-eq0-clause-left : goal.returns-then-count-eq0-clause-left
returns-then-count-eq0-clause-left g c = λ x i here early summary.
    let none : i ≡ 0 = omega (arith, here.on_is.1.count_is, c.count.ensures, c.if-count-eq0.true) in
    left_still x i none

pub returns-in-Some-clause-summary : goal.returns-in-Some-clause-summary
returns-in-Some-clause-summary g c = λ x i here early summary.
    let start = begins c.args.self.now in
    let begun = c.boot-boot.ensures in
    let is = cut_so start _ _ here.layout_is begun (λ y u. outcome_of (again y u) ≡ Some (shown c.in-Some.outcome)) x i _ _ here early summary.1 c.in-Some.ensures.outcome in
    (of_next start x (at_cut x i) here.on_is.0, summary_of start _ _ here.layout_is begun x i _ _ here is)

pub returns-in-Some-clause-left : goal.returns-in-Some-clause-left
returns-in-Some-clause-left g c = λ x i here early summary.
    let begun = c.boot-boot.ensures in
    cut_so (begins c.args.self.now) _ _ here.layout_is begun (λ y u. left_by (again y u) ≡ left_by y) x i _ _ here early summary c.in-Some.ensures.left
