use Rattle.std.proofs.Common.{ap, arith, subst, sym, ◌+◌, ◌∙◌, ◌≡◌}
use Rattle.mc_boot.specs.{Boot.{HasCome, begun, left_of, progress}, Plan.{PowerOn, again, plan}, Twins.{HasTwin}}
use Rattle.mc_explore.proofs.Onwards.{passes_twins}
use Rattle.mc_explore.specs.inner.OneRound.{begins, one_round}
use Rattle.mc_flash.specs.{Flash.{Content, IsSized}, Geometry.{Geometry}, Usage.{LeaveRoom, Seen, plus}}
use Rattle.mc_explore.proofs.one_round.OneRoundFlashTree.pass_twins.Goals as goal

pub returns-clause-passes : goal.returns-clause-passes
returns-clause-passes g c = unfold one_round in
    let old : Seen = g.F.Flash.seen c.args.flash.now in
    let new : Seen = g.F.Flash.seen c.pass_twins.new.flash in
    let b = c.args.at.now in
    let b' = c.pass_twins.new.cut in
    let child = c.args.child.now in
    let e = c.in_ok-count.ensures in
    let P : Geometry → Type 0 = λ y. LeaveRoom new.usage.counts (left_of y (progress b')) (plus old.usage.counts (left_of y (progress b))) in (
      e.passed.at_most,
      λ x i at more is.
          let layout = ap (λ (y : PowerOn). y.geometry) at.on_is.0 ∙ sym at.layout_is in
          let there = sym at.content_is in
          let sized = subst (IsSized x.geometry) there is.1.sized in
          let come = subst (HasCome x (progress b)) there at.on_is.1.come in
          let start = subst (λ (t : Content). progress child.boot ≡ begun x.rules (plan (again x t))) there is.1.boot_is in
          passes_twins (begins c.args.self) x i c.in_ok-count.count b b' child old new at (omega (arith, more)) e.goes e.passed.count_is is
          (λ j some le. subst (λ (t : Content). HasTwin x t (b.done + j)) at.content_is (e.twins x j layout sized come start some le)),
      subst P c.requires.2.layout_is e.counts,
    )
