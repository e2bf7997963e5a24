use Rattle.mc_campaign.proofs.Restarts.{row_restarts}
use Rattle.mc_campaign.proofs.campaign_subject.CampaignsSubject.restarts.Goals as goal

pub returns : goal.returns
returns c = λ start confirms row outcomes. row_restarts start confirms row c.restart_law.ensures.restart c.restart_law.ensures.rounds outcomes
