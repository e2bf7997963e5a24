use Rattle.mc_c.specs.Exports.{is_trace}
use Rattle.mc_c.proofs.Answered.{of_engine}
use Rattle.mc_c.proofs.engines.trace.Goals as goal

pub returns : goal.returns
returns c =
    of_engine (is_trace c.args.span) c.args.source.now c.args.a.now c.args.b.now c.args.cuts.now (c.in_ok-start.start, c.in_ok-start.schedule) c.in_ok-start.ensures c.trace_text.result
    c.trace_text.ensures
