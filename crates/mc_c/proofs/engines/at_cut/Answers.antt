use Rattle.mc_c.specs.Exports.{is_at_cut}
use Rattle.mc_c.proofs.Answered.{of_engine}
use Rattle.mc_c.proofs.engines.at_cut.Goals as goal

pub returns : goal.returns
returns c =
    of_engine is_at_cut c.args.source.now c.args.a.now c.args.b.now c.args.cuts.now (c.in_ok-start.start, c.in_ok-start.schedule) c.in_ok-start.ensures c.bytes_at_cut.result
    c.bytes_at_cut.ensures
