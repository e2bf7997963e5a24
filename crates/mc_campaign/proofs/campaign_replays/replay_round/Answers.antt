use Rattle.std.proofs.Common.{length, sym, subst}
use Rattle.mc_boot.specs.Plan.{PowerOn}
use Rattle.mc_explore.specs.inner.View.{IsLoaded}
use Rattle.mc_campaign.proofs.campaign_replays.replay_round.Goals as goal

pub replay_on-requires-clause-loaded : goal.replay_on-requires-clause-loaded
replay_on-requires-clause-loaded g c =
    let l = c.in_ok-walk.ensures.loaded in
    subst (λ (s : PowerOn). IsLoaded g.F.Flash.counted s (length c.args.cuts.now) c.in_ok-walk.walk) (sym l.start_is) l
