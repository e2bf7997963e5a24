-- The sector that was erased most often, and all erases.
use Rattle.std.specs.Prelude.{◌≡◌, ℕ, ◌+◌, ◌-◌, ◌^◌, ◌<◌, ◌≤◌, ◌⊎◌, min, List, length, drop, get_or}
use Rattle.std.proofs.{Common.{arith, drop-cons, drop_of_length-le, inl, inr}, lemmas.Bool.Decides.{eqb_tells}}
use Rattle.mc_life.specs.Device.{IsMost, sum_of, total}

-- The most of the first counts.
pub record IsSoFar (counts : List ℕ) (i sector count : ℕ) : Type 0 where
  pub value : get_or counts sector 0 ≡ count
  pub greatest : (k : ℕ) → k < i → get_or counts k 0 ≤ count
  pub first : (k : ℕ) → k < sector → get_or counts k 0 < count
  pub inside : sector ≤ i

pub begins : (counts : List ℕ) (count : ℕ) → get_or counts 0 0 ≡ count → IsSoFar counts 0 0 count
begins counts count is = record { value = is; greatest = λ k lt. absurd (omega (arith, lt)); first = λ k lt. absurd (omega (arith, lt)); inside = omega arith }

below : (k i : ℕ) → k < i + 1 → (k < i) ⊎ (k ≡ i)
below k i lt = elim (eqb_tells k i) [ inl same ↦ inr same.1 | inr other ↦ inl (omega (arith, lt, other.1)) ]

module _ (counts : List ℕ) (i sector count here : ℕ) (so : IsSoFar counts i sector count) (is : get_or counts i 0 ≡ here) where
  pub stays : here ≤ count → IsSoFar counts (i + 1) sector count
  stays le = grind arith

-- ---- sums

pub sum_next : (counts : List ℕ) (i all here more : ℕ) → i < length counts → get_or counts i 0 ≡ here → more ≡ min (all + here) (2 ^ 64 - 1)
    → min (2 ^ 64 - 1) (all + sum_of (drop i counts)) ≡ total counts → min (2 ^ 64 - 1) (more + sum_of (drop (i + 1) counts)) ≡ total counts
sum_next counts i all here more inside is next so_far = grind (arith, drop-cons)

pub sum_ends : (counts : List ℕ) (i all : ℕ) → length counts ≤ i → all < 2 ^ 64 → min (2 ^ 64 - 1) (all + sum_of (drop i counts)) ≡ total counts → all ≡ total counts
sum_ends counts i all end small so_far = grind (arith, drop_of_length-le)
