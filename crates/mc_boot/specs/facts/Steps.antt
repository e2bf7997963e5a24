-- What a step of a boot spends. Proved here, so that the crates above can cite it.
use Rattle.std.specs.Prelude.{◌≡◌, ◌+◌, ◌<◌, ◌≤◌, false, List, [], ◌∷◌, length, slice_get, is_some, Option, Result, Ok, Err, refl}
use Rattle.std.proofs.Common.{arith}
use Rattle.mc_flash.specs.{Usage.{IsFull, Seen, GivesUp, Allows}}
use Rattle.mc_flash.specs.{facts.Spends.{Notes, done_notes}, declared.op.Op.{Op}, declared.flash.FlashError.{FlashError}}
use Rattle.mc_flash.specs.declared.flash.FlashError.TheVariants as errors
use Rattle.mc_boot.specs.Boot.{Progress, Steps, CountsOn, left_of}

-- Operations done and operations to come are together no more than before, and memory did not fail.
pub record StepSpends (p q : Progress) (old new : Seen) : Type 0 where
  pub applied : new.usage.applied + length q.to_come ≤ old.usage.applied + length p.to_come
  pub limits : new.usage.limits ≡ old.usage.limits
  pub failed : new.usage.failed ≡ old.usage.failed

-- Where something was to come, less is to come now.
pub record Comes (p q : Progress) (old new : Seen) : Type 0 where
  pub spends : StepSpends p q old new
  pub less : 0 < length p.to_come → length q.to_come < length p.to_come

-- ---- one after another

-- Where the layout stays.
pub counts_on_both : (o p q : Progress) (x y z : Seen) → y.geometry ≡ x.geometry → CountsOn o p x y → CountsOn p q y z → CountsOn o q x z
counts_on_both o p q x y z same c d = grind arith

pub step_spends_both : (o p q : Progress) (x y z : Seen) → StepSpends o p x y → StepSpends p q y z → StepSpends o q x z
step_spends_both o p q x y z s t = grind arith

-- ---- the first operation to come

pub none_first : (ops : List Op) (first : Option Op) → first ≡ slice_get ops 0 → is_some first ≡ false → ops ≡ []
none_first [] first is none = refl
none_first (op ∷ rest) first is none = absurd cc

-- ---- a step

module _ (p q : Progress) (old new : Seen) where
  stays_counted : q ≡ p → new.usage.counts ≡ old.usage.counts → CountsOn p q old new
  stays_counted a b = grind arith

  stays_spent : q ≡ p → new ≡ old → StepSpends p q old new
  stays_spent a b = grind arith

  module _ (op : Op) (rest : List Op) (first : p.to_come ≡ op ∷ rest) where
    next_counted : q.to_come ≡ rest → Notes old.geometry op old.usage new.usage → CountsOn p q old new
    next_counted left n = grind arith

    next_spent : q.to_come ≡ rest → Notes old.geometry op old.usage new.usage → StepSpends p q old new
    next_spent left n = grind arith

  none_counted : q.to_come ≡ [] → new ≡ old → CountsOn p q old new
  none_counted left same = grind arith

  none_spent : q.to_come ≡ [] → new ≡ old → StepSpends p q old new
  none_spent left same = grind arith

  given_up : (op : Op) → GivesUp (IsFull old.geometry op old.usage) old new → new.usage.counts ≡ old.usage.counts
  given_up op it = grind arith

  -- Whatever it answers.
  pub step_counts : (result : Result (Unit {0}) FlashError) → Steps p old result q new → CountsOn p q old new
  step_counts result steps = grind (arith, stays_counted, next_counted, done_notes, none_counted, given_up)

  -- Where memory does not fail.
  pub step_spends : (result : Result (Unit {0}) FlashError) → (result ≡ Err errors.Memory → ⊥) → Steps p old result q new
      → StepSpends p q old new
  step_spends result other steps = grind (arith, stays_spent, next_spent, done_notes, none_spent)

  -- Where something was to come, less is to come then.
  pub step_less : (result : Result (Unit {0}) FlashError) → (result ≡ Err errors.Memory → ⊥) → Steps p old result q new → Comes p q old new
  step_less result other steps = record { spends = step_spends result other steps; less = λ some. fewer result other steps some }
    where
      fewer : (result : Result (Unit {0}) FlashError) → (result ≡ Err errors.Memory → ⊥) → Steps p old result q new → 0 < length p.to_come → length q.to_come < length p.to_come
      fewer result other steps some = grind arith

  -- There is still room for all that is to come.
  pub comes_allows : new.geometry ≡ old.geometry → CountsOn p q old new → Comes p q old new → Allows (left_of old.geometry p) old → Allows (left_of new.geometry q) new
  comes_allows same counts comes allows = let limits = comes.spends.limits in grind (arith, limits)

  -- After a refusal nothing is to come, and no operation more happened.
  pub refused_here : (result : Result (Unit {0}) FlashError) → result ≡ Err errors.NotErased → Steps p old result q new
      → (q.to_come ≡ []) × (q.count ≡ p.count)
  refused_here result refuses steps = grind arith

  -- Where one was to come, one more happened.
  pub stepped_here : (result : Result (Unit {0}) FlashError) (v : Unit {0}) → result ≡ Ok v → 0 < length p.to_come → Steps p old result q new
      → q.count ≡ p.count + 1
  stepped_here result v happens some steps = grind arith
