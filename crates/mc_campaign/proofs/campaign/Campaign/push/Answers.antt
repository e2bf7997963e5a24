use Rattle.std.proofs.{Common.{arith}, lemmas.List.{length-set, take_more_set}}
use Rattle.mc_campaign.specs.facts.Room.{len_again}
use Rattle.mc_campaign.proofs.Reading.{blanks_beyond}
use Rattle.mc_campaign.proofs.campaign.Campaign.push.Goals as goal

pub invariant_of-self : goal.invariant_of-self
invariant_of-self c = grind (arith, len_again, take_more_set, length-set, blanks_beyond)
