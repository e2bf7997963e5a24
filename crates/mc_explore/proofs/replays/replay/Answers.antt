use Rattle.std.proofs.Common.{length, sym, ap, subst, ◌∙◌}
use Rattle.mc_boot.specs.Plan.{PowerOn}
use Rattle.mc_start.specs.Start.{begun}
use Rattle.mc_explore.specs.inner.View.{IsLoaded}
use Rattle.mc_explore.proofs.Restarts.{replay_restarts}
use Rattle.mc_explore.proofs.replays.replay.Goals as goal

pub replay_on-requires-clause-loaded : goal.replay_on-requires-clause-loaded
replay_on-requires-clause-loaded g c =
    let l = c.in_ok-walk.ensures.loaded in
    subst (λ (x : PowerOn). IsLoaded g.F.Flash.counted x (length c.cuts-cuts.result.now) c.in_ok-walk.walk) (sym l.start_is) l

pub replay_on-requires-clause-at_most : goal.replay_on-requires-clause-at_most
replay_on-requires-clause-at_most g c = c.cuts-cuts.ensures.at_most

pub returns-clause-replayed : goal.returns-clause-replayed
returns-clause-replayed g c = rw c.cuts-cuts.ensures.value at (rw c.in_ok-walk.ensures.loaded.start_is at c.in_ok-done.ensures.replayed)

pub returns-clause-geometry : goal.returns-clause-geometry
returns-clause-geometry g c = c.in_ok-done.ensures.geometry ∙ ap (λ (x : PowerOn). x.geometry) c.in_ok-walk.ensures.loaded.start_is

pub returns-clause-exact : goal.returns-clause-exact
returns-clause-exact g c = λ counts. c.in_ok-done.ensures.limits ∙ (rw c.cuts-cuts.ensures.value at c.in_ok-walk.ensures.exact) counts

pub returns-clause-restarts : goal.returns-clause-restarts
returns-clause-restarts g c =
    let here = rw c.cuts-cuts.ensures.value at (rw c.in_ok-walk.ensures.loaded.start_is at c.in_ok-done.ensures.replayed) in
    replay_restarts (begun c.args.start.now) _ c.args.schedule.now _ c.in_ok-walk.ensures.loaded.valid (c.restart_law.ensures.restart c.args.start.now.rules) here
