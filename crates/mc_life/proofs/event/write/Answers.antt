use Rattle.std.proofs.Common.{Bor, List, ℕ, ap, option_map}
use Rattle.mc_life.proofs.Events.{alone_no_write, no_write, unnamed_write}
use Rattle.mc_life.proofs.event.write.Goals as goal

pub returns-in_default : goal.returns-in_default
returns-in_default c = unnamed_write _ c.in_default.ensures

pub returns-in_default-more : goal.returns-in_default-more
returns-in_default-more c = alone_no_write _ _ _ c.in-Some.ensures (ap (option_map (λ (t : Bor (List ℕ)). t.now)) c.in_default-more.is)

pub returns-in-None : goal.returns-in-None
returns-in-None c = no_write _ _ _ c.in-Some.ensures _ (ap (option_map (λ (t : Bor (List ℕ)). t.now)) c.in-Some-more.is) c.in-None.ensures
