use Rattle.mc_campaign.proofs.Along.{IsAlong}
use Rattle.mc_campaign.proofs.campaign_path.follow.Given as goal

abbrev pub invariant-loop-cut : goal.invariant-loop-cut
invariant-loop-cut g l = IsAlong l.campaign l.confirms l.fn.walk l.cut-index l.walk
