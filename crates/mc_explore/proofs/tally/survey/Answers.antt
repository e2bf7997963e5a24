use Rattle.mc_explore.proofs.Counted.{surveyed_whole}
use Rattle.mc_explore.proofs.tally.survey.Goals as goal

pub returns-clause-surveys : goal.returns-clause-surveys
returns-clause-surveys g c =
    surveyed_whole _ c.args.explorer.now.state c.survey_rows.new.explorer.state c.args.limit _ _ (rw c.explorer.view_is at c.in_ok-tally.ensures.surveys)
