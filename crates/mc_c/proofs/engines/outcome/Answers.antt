use Rattle.mc_c.specs.Exports.{is_outcome}
use Rattle.mc_c.proofs.Answered.{of_engine}
use Rattle.mc_c.proofs.engines.outcome.Goals as goal

pub returns : goal.returns
returns c =
    of_engine is_outcome c.args.source.now c.args.a.now c.args.b.now c.args.cuts.now (c.in_ok-start.start, c.in_ok-start.schedule) c.in_ok-start.ensures c.replay_text.result
    c.replay_text.ensures
