-- How many bytes come before the blank ones at the end.
use Rattle.std.specs.Prelude.{◌≡◌, ℕ, zero, suc, ◌<◌, ◌==◌, false, List, [], ◌∷◌, length, drop, get_or, refl}
use Rattle.std.proofs.{Common.{arith}, lemmas.Bool.Decides.{nat_tests}}
use Rattle.mc_trace.specs.Sectors.{used}

first_used : (b : ℕ) (bs : List ℕ) → (b ≡ 255 → ⊥) → used bs ≡ 0 → used (b ∷ bs) ≡ 1
first_used b bs other none = let is : (b == 255) ≡ false = grind (arith, nat_tests, other) in rw (none, is) refl

-- A byte that is not blank, before nothing that is used, is the last that is used.
pub last_used : (bs : List ℕ) (n : ℕ) → n < length bs → (get_or bs n 0 ≡ 255 → ⊥) → used (drop (suc n) bs) ≡ 0 → used bs ≡ suc n
last_used [] n below other none = absurd (omega (arith, below))
last_used (x ∷ xs) zero below other none = first_used x xs other none
last_used (x ∷ xs) (suc n) below other none =
    let rest : used xs ≡ suc n = last_used xs n (omega (arith, below)) other none in
    let some : (suc n == 0) ≡ false = grind (arith, nat_tests) in
    rw (rest, some) refl
