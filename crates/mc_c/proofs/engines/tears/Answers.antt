use Rattle.mc_c.specs.Exports.{is_tears}
use Rattle.mc_c.proofs.Answered.{of_engine}
use Rattle.mc_c.proofs.engines.tears.Goals as goal

pub returns : goal.returns
returns c =
    of_engine (is_tears c.args.asked.now) c.args.source.now c.args.a.now c.args.b.now c.args.cuts.now (c.in_ok-start.start, c.in_ok-start.schedule) c.in_ok-start.ensures c.tears_text.result
    c.tears_text.ensures
