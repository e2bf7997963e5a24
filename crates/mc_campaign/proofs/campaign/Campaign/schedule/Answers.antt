use Rattle.std.proofs.{Common.{arith}, lemmas.Grind.{common_steps}}
use Rattle.mc_campaign.proofs.CutsInRounds.{in_round-push}
use Rattle.mc_campaign.proofs.campaign.Campaign.schedule.Goals as goal

pub loop-cut-preserved : goal.loop-cut-preserved
loop-cut-preserved c = grind (arith, common_steps, in_round-push)
