use Rattle.std.proofs.Common.{arith}
use Rattle.mc_campaign.specs.facts.Cuts.{last_pushed}
use Rattle.mc_campaign.proofs.campaign.Campaign.last_round.Goals as goal

pub returns-in-Some : goal.returns-in-Some
returns-in-Some c = grind (arith, last_pushed)
