use Rattle.std.specs.Prelude.{◌≡◌, ◌≤◌, length, take}
use Rattle.mc_campaign.specs.Campaigns.{in_round}
use Rattle.mc_explore.specs.Rounds.{number_of}
use Rattle.mc_campaign.proofs.campaign.Campaign.schedule.Given as goal

abbrev pub invariant-loop-cut : goal.invariant-loop-cut
invariant-loop-cut l = (l.schedule ≡ in_round (number_of l.round) (take l.cut-index l.self)) × (length l.schedule ≤ l.cut-index)
