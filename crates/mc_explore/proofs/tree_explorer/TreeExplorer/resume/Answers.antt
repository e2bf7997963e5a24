use Rattle.std.proofs.Common.{ap, ◌∙◌}
use Rattle.mc_start.specs.Start.{begun}
use Rattle.mc_explore.specs.Subject.{Explored}
use Rattle.mc_walk.specs.Walks.{position_of}
use Rattle.mc_explore.proofs.Beginning.{same_digest}
use Rattle.mc_explore.proofs.tree_explorer.TreeExplorer.resume.Goals as goal

pub invariant_of-explorer : goal.invariant_of-explorer
invariant_of-explorer g c = let e = c.explorer.inside in (
  c.explorer.invariant.0,
  same_digest (begun e.start.now) e.choice e.bound e.rows.walk (position_of e.rows.phase (g.X.Subject.edge.key_in e.last)) _ _ _ _ _
      (ap (λ (z : Explored g.row.X-Choice.Denot g.row.X-Key.Denot). z.state) c.explorer.view_is ∙ c.in_ok-explorer.ensures.resumes.1)
      c.in_ok-check_cursor.ensures.names.digest_is,
  c.explorer.invariant.2,
)

pub returns-clause-resumes : goal.returns-clause-resumes
returns-clause-resumes g c = (
  rw c.fields-fields.ensures at c.in_ok-check_cursor.ensures.names,
  rw c.fields-fields.ensures at c.in_ok-explorer.ensures.resumes.0,
  rw c.fields-fields.ensures at (ap (λ (z : Explored g.row.X-Choice.Denot g.row.X-Key.Denot). z.state) c.explorer.view_is ∙ c.in_ok-explorer.ensures.resumes.1),
)
