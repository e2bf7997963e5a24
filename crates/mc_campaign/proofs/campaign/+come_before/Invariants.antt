use Rattle.std.proofs.Common.{length}
use Rattle.mc_campaign.proofs.campaign.+come_before.Given as goal

abbrev pub decreases-come_before : goal.decreases-come_before
decreases-come_before l = length l.cuts.now
