use Rattle.mc_options.specs.declared.refusal.Refusal.TheVariants as refusals
use Rattle.mc_actions.proofs.Showing.{mapped_match}
use Rattle.mc_actions.proofs.life.replay.Goals as goal

pub returns : goal.returns
returns g c =
    let replayed = rw c.deref.ensures.value at c.replay_life-replayed.ensures.replayed in
    let failed = rw c.deref.ensures.value at c.replay_life-replayed.ensures.failed in
    mapped_match _ _ (λ e. refusals.Life e) _ _ replayed failed c.map_err.ensures.cases
