use Rattle.std.proofs.Common.{◌≡◌, take}
use Rattle.mc_campaign.specs.inner.InRounds.{in_rounds}
use Rattle.mc_campaign.proofs.campaign.Campaign.of.Given as goal

abbrev pub invariant-loop-number : goal.invariant-loop-number
invariant-loop-number l = l.campaign ≡ in_rounds l.cuts.in_first (take l.number-index l.cuts.numbers)
