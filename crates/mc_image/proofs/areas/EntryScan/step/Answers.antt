use Rattle.mc_image.proofs.Scans.{stepped}
use Rattle.mc_image.proofs.areas.EntryScan.step.Goals as goal

pub returns : goal.returns
returns c = stepped c.feed_entry.ensures c.finish_entry.ensures
