use Rattle.mc_c.specs.Exports.{is_left}
use Rattle.mc_c.proofs.Answered.{of_engine}
use Rattle.mc_c.proofs.engines.left.Goals as goal

pub returns : goal.returns
returns c =
    of_engine is_left c.args.source.now c.args.a.now c.args.b.now c.args.cuts.now (c.in_ok-start.start, c.in_ok-start.schedule) c.in_ok-start.ensures c.bytes_left.result
    c.bytes_left.ensures
