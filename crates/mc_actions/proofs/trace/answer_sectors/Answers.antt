use Rattle.mc_actions.proofs.Showing.{pictured}
use Rattle.mc_actions.proofs.trace.answer_sectors.Goals as goal

pub returns : goal.returns
returns g c = pictured _ _ _ _ _ _ c.write_sectors.ensures c.map_err.ensures.cases
