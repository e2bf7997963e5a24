use Rattle.mc_explore.proofs.JudgedRows.{rights_judged}
use Rattle.mc_explore.proofs.start_census.take_rights.Goals as goal

pub returns-clause-rights : goal.returns-clause-rights
returns-clause-rights g c =
    let is = c.in_ok-census.ensures in
    let x = g.X.Subject.subject in
    record { rows = is.rows; rest = is.rest; rights_are = rights_judged x.ends x.key c.args.expectation.now is.rows c.in_ok-census.census is.census_is }
