use Rattle.mc_explore.specs.{facts.Whole.{whole_page, whole_began}, Subject.{rows_of}}
use Rattle.mc_campaign.specs.Rows.{campaigns}
use Rattle.mc_output.specs.facts.Results.{on_err, on_ok}
use Rattle.mc_campaign.proofs.pages.write_campaign_page.Goals as goal

pub returns-clause-page : goal.returns-clause-page
returns-clause-page g c = on_ok c.write_rows.result _ _ (whole_page (rows_of campaigns) _ _ c.args.limit _ _) c.write_rows.ensures.page

pub returns-clause-began : goal.returns-clause-began
returns-clause-began g c = on_err c.write_rows.result _ _ (whole_began (rows_of campaigns) _ c.args.limit _ _) c.write_rows.ensures.began
