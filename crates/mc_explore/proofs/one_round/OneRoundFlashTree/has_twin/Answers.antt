use Rattle.std.proofs.Common.{ap, arith, subst, sym, ◌+◌, ◌∙◌, ◌≡◌}
use Rattle.mc_boot.specs.{Boot.{HasCome, begun, progress}, Plan.{PowerOn, again, plan}, Twins.{HasTwin}}
use Rattle.mc_explore.proofs.Onwards.{twin_here}
use Rattle.mc_explore.specs.inner.OneRound.{begins, one_round}
use Rattle.mc_flash.specs.{Flash.{Content, IsSized}, Usage.{Seen}}
use Rattle.mc_explore.proofs.one_round.OneRoundFlashTree.has_twin.Goals as goal

pub returns : goal.returns
returns g c = unfold one_round in λ is x i at more summary.
    let f : Seen = g.F.Flash.seen c.args.flash.now in
    let layout = ap (λ (y : PowerOn). y.geometry) at.on_is.0 ∙ sym at.layout_is in
    let there = sym at.content_is in
    let child = c.args.child.now in
    let sized = subst (IsSized x.geometry) there summary.1.sized in
    let come = subst (HasCome x (progress c.args.at.now)) there at.on_is.1.come in
    let begins_so = subst (λ (t : Content). progress child.boot ≡ begun x.rules (plan (again x t))) there summary.1.boot_is in
    let has = c.has_twin.ensures x layout sized come (omega (arith, more, at.on_is.1.count_is)) begins_so is in
    twin_here (begins c.args.self) x i c.args.at.now child at.on_is summary (subst (λ (t : Content). HasTwin x t (c.args.at.now.done + 1)) at.content_is has)
