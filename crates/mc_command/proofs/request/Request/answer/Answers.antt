use Rattle.mc_command.proofs.request.Request.answer.Goals as goal

pub returns-in-Create : goal.returns-in-Create
returns-in-Create g c = rw c.in-Create.is c.answer.ensures

pub returns-in-Sectors : goal.returns-in-Sectors
returns-in-Sectors g c = rw c.in-Sectors.is c.answer_sectors.ensures

pub returns-in-CampaignShown : goal.returns-in-CampaignShown
returns-in-CampaignShown g c = rw c.in-CampaignShown.is c.show.ensures

pub returns-in-Frames : goal.returns-in-Frames
returns-in-Frames g c = rw c.in-Frames.is c.answer_frames.ensures

pub returns-in-Picture : goal.returns-in-Picture
returns-in-Picture g c = rw c.in-Picture.is c.answer-in-Picture.ensures

pub returns-in-Explore : goal.returns-in-Explore
returns-in-Explore g c = rw c.in-Explore.is c.run.ensures

pub returns-in-Campaigns : goal.returns-in-Campaigns
returns-in-Campaigns g c = rw c.in-Campaigns.is c.run-in-Campaigns.ensures

pub returns-in-Survey : goal.returns-in-Survey
returns-in-Survey g c = rw c.in-Survey.is c.survey.ensures

pub returns-in-CampaignSurvey : goal.returns-in-CampaignSurvey
returns-in-CampaignSurvey g c = rw c.in-CampaignSurvey.is c.survey-in-CampaignSurvey.ensures

pub returns-in-Replay : goal.returns-in-Replay
returns-in-Replay g c = rw c.in-Replay.is c.answer-in-Replay.ensures

pub returns-in-CampaignReplay : goal.returns-in-CampaignReplay
returns-in-CampaignReplay g c = rw c.in-CampaignReplay.is c.answer-in-CampaignReplay.ensures
