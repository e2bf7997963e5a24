use Rattle.mc_c.specs.Exports.{is_picture}
use Rattle.mc_c.proofs.Answered.{of_engine}
use Rattle.mc_c.proofs.engines.picture.Goals as goal

pub returns : goal.returns
returns c =
    of_engine (is_picture c.args.view) c.args.source.now c.args.a.now c.args.b.now c.args.cuts.now (c.in_ok-start.start, c.in_ok-start.schedule) c.in_ok-start.ensures c.picture_text.result
    c.picture_text.ensures
