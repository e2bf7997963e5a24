use Rattle.std.proofs.Common.{Bor, List, ℕ, ap, option_map}
use Rattle.mc_life.proofs.Events.{no_download, unnamed_download}
use Rattle.mc_life.proofs.event.download.Goals as goal

pub returns-in_default : goal.returns-in_default
returns-in_default c = unnamed_download _ c.in_default.ensures

pub returns-in-None : goal.returns-in-None
returns-in-None c = no_download _ _ _ c.in-Some.ensures _ (ap (option_map (λ (t : Bor (List ℕ)). t.now)) c.in-Some-more.is) c.in-None.ensures
