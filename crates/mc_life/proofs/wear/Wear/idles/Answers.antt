use Rattle.std.proofs.Common.{refl}
use Rattle.mc_life.proofs.Worn.{worn_idle}
use Rattle.mc_life.proofs.wear.Wear.idles.Goals as goal

pub returns : goal.returns
returns c = rw (← c.self.view_is) (worn_idle _ _ (rw c.deref.ensures.value at c.counts_fit.ensures) (rw c.deref-2.ensures.value at c.counts_fit-2.ensures) (λ _. refl) (λ _. refl))
