use Rattle.std.proofs.Common.{refl}
use Rattle.mc_life.proofs.Worn.{worn_idle}
use Rattle.mc_life.proofs.wear.Wear.note.Goals as goal

pub returns-in-Program : goal.returns-in-Program
returns-in-Program c =
    rw (← c.self.view_is, c.in-Program.is) (worn_idle _ _ (rw c.deref.ensures.value at c.counts_fit.ensures) (rw c.deref-2.ensures.value at c.counts_fit-2.ensures) (λ _. refl) (λ _. refl))

pub returns-in-Copy : goal.returns-in-Copy
returns-in-Copy c =
    rw (← c.self.view_is, c.in-Copy.is) (worn_idle _ _ (rw c.deref.ensures.value at c.counts_fit.ensures) (rw c.deref-2.ensures.value at c.counts_fit-2.ensures) (λ _. refl) (λ _. refl))
