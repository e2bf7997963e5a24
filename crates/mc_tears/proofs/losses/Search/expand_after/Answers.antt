use Rattle.std.proofs.Common.{Some, subst, sym, ◌≡◌}
use Rattle.mc_boot.specs.Plan.{PowerOn, again}
use Rattle.mc_flash.specs.Flash.{Content}
use Rattle.mc_output.specs.facts.Results.{on_ok}
use Rattle.mc_start.specs.Start.{begun}
use Rattle.mc_tears.proofs.Losing.{begins_there}
use Rattle.mc_tears.specs.{Losses.{after_losses}, inner.Losing.{IsReady}}
use Rattle.mc_tears.proofs.losses.Search.expand_after.Given.{Over}
use Rattle.mc_tears.proofs.losses.Search.expand_after.Goals as goal
use Rattle.mc_tears.proofs.losses.Search.expand_after.Goals.{In-Some}

there : (g : Over) (c : In-Some g) → let x = begun c.args.start.now in
    (u : Content) × (after_losses c.args.self.now.erasing x c.args.losses.now ≡ Some u) × (begun c.in-Some.here ≡ again x u)
there g c =
    let x = begun c.args.start.now in
    begins_there x (after_losses c.args.self.now.erasing x c.args.losses.now) (begun c.in-Some.here) (rw c.in-Some.is at c.in_ok-here.ensures)

pub expand-requires : goal.expand-requires
expand-requires g c =
    let t = there g (goal.at.expand-requires g c).In-Some in
    record { ready = subst (λ (z : PowerOn). IsReady z.geometry.sector c.args.self.now) (sym t.2) c.requires.ready }

pub returns-clause-expanded : goal.returns-clause-expanded
returns-clause-expanded g c =
    let x = begun c.args.start.now in
    let t = there g (goal.at.returns-clause-expanded g c).In-Some in
    on_ok c.expand.result _ _ (λ expanded bound index p is exp. expanded x bound index p (record { losses_is = is; at = t.0; leaves = t.1; begins_is = t.2 }) exp) c.expand.ensures.expanded
