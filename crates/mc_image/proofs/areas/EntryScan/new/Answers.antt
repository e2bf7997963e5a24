use Rattle.mc_image.proofs.Scans.{scan_new}
use Rattle.mc_image.proofs.areas.EntryScan.new.Goals as goal

pub returns : goal.returns
returns c = scan_new c.new.result c.new.ensures
