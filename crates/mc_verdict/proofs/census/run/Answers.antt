use Rattle.mc_verdict.proofs.Answering.{concluded}
use Rattle.mc_verdict.proofs.census.run.Goals as goal

pub returns : goal.returns
returns g c = concluded g.X.Subject.subject _ _ _ _ _ c.in_ok-counts.ensures.counts (c.conclude.ensures c.in_ok-counts.ensures.counts)
