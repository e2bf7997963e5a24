use Rattle.std.proofs.Common.{Bor, List, ℕ, ap, option_map}
use Rattle.mc_life.proofs.Events.{no_store, unnamed_store}
use Rattle.mc_life.proofs.event.store.Goals as goal

pub returns-in_default : goal.returns-in_default
returns-in_default c = unnamed_store _ c.in_default.ensures

pub returns-in-Some-more : goal.returns-in-Some-more
returns-in-Some-more c = no_store _ _ _ c.in-Some.ensures _ (ap (option_map (λ (t : Bor (List ℕ)). t.now)) c.in-Some-more.is)
