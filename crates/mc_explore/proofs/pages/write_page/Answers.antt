use Rattle.mc_explore.specs.{facts.Whole.{whole_page, whole_began}, Rows.{schedules}}
use Rattle.mc_output.specs.facts.Results.{on_err, on_ok}
use Rattle.mc_explore.proofs.pages.write_page.Goals as goal

pub returns-clause-page : goal.returns-clause-page
returns-clause-page g c = on_ok c.write_rows.result _ _ (whole_page schedules c.args.explorer.now.state c.write_rows.new.explorer.state c.args.limit _ _)
    (rw c.explorer.view_is at c.write_rows.ensures.page)

pub returns-clause-began : goal.returns-clause-began
returns-clause-began g c = on_err c.write_rows.result _ _ (whole_began schedules c.args.explorer.now.state c.args.limit _ _) (rw c.explorer.view_is at c.write_rows.ensures.began)
