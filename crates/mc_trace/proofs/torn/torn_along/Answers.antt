use Rattle.mc_start.specs.Start.{begun}
use Rattle.mc_trace.proofs.TornLines.{none_torn}
use Rattle.mc_trace.proofs.torn.torn_along.Goals as goal

pub returns-in_default : goal.returns-in_default
returns-in_default g c = rw (c.in_default.is, c.new-boots.ensures.items) (none_torn c.args.expectation.now (begun c.args.start.now) c.args.cuts.now)
