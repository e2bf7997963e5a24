use Rattle.std.specs.Prelude.{Contains}
use Rattle.std.proofs.Common.{List, ap, arith, length, subst, sym, ℕ, ◌+◌, ◌<◌}
use Rattle.mc_boot.specs.Outcome.{after}
use Rattle.mc_flash.specs.Geometry.{Geometry}
use Rattle.mc_start.specs.Start.{begun}
use Rattle.mc_vectors.proofs.Nearest.{IsNearestYet, at_end, at_zero, nearer, no_nearer, none_yet, some_of}
use Rattle.mc_vectors.proofs.locating.nearest.Goals.{else-count-least, else-loop-case-test, then-count-least, then-loop-case-test+then-least-eq0}
use Rattle.mc_vectors.proofs.locating.nearest.Goals as goal

pub loop-case-init : goal.loop-case-init
loop-case-init g c =
    let x = begun c.args.start.now in
    let least : ℕ = c.primary.result + c.secondary.result + 1 in
    let more : x.geometry.primary + x.geometry.secondary < least = omega (
      arith,
      c.primary.ensures.value,
      c.secondary.ensures.value,
      ap (λ (k : Geometry). k.primary) c.layout-layout.ensures.value,
      ap (λ (k : Geometry). k.secondary) c.layout-layout.ensures.value,
    ) in
    subst (λ (l : List ℕ). IsNearestYet x c.args.wanted.now c.args.cases.now 0 l least) (sym c.new-best.ensures) (none_yet x c.args.wanted.now c.args.cases.now least more)

pub loop-case-preserved : goal.loop-case-preserved
loop-case-preserved g c =
    let x = begun c.args.start.now in
    let s = c.args.wanted.now in
    let cases = c.args.cases.now in
    let i = c.loop-case.case-index in
    let here = c.case-item.result in
    let inside : i < length cases = omega arith in
    let at : Contains cases here = (i, inside, sym c.case-item.is) in
    let u = some_of (after x here.schedule) (c.requires.occur here at) in
    let counted = c.in_ok-count.ensures u.0 u.1 in
    let yet = c.loop-case.invariant in
    let best = c.loop-case.best in
    let least = c.loop-case.least in
    elim c.if-count-least.branch [
      | then-count-least w ↦
          rw (w.best-is, w.least-is) (nearer x s cases i best least yet c.requires.sorted here inside c.case-item.is u.0 u.1 c.in_ok-count.count counted w.if-count-least.true)
      | else-count-least w ↦
          rw (w.best-is, w.least-is) (no_nearer x s cases i best least yet c.requires.sorted here inside c.case-item.is u.0 u.1 c.in_ok-count.count counted w.if-count-least.false)
    ]

pub returns : goal.returns
returns g c =
    let x = begun c.args.start.now in
    let yet = c.loop-case.invariant in
    elim c.loop-case-test.branch [
      | else-loop-case-test w ↦ at_end x c.args.wanted.now c.args.cases.now c.loop-case.case-index c.loop-case.best c.loop-case.least yet (omega (arith, w.loop-case-test.false))
      | then-loop-case-test+then-least-eq0 w ↦ at_zero x c.args.wanted.now c.args.cases.now c.loop-case.case-index c.loop-case.best c.loop-case.least yet w.if-least-eq0.true
    ]
