-- The cuts of a round, one after another.
use Rattle.std.specs.Prelude.{◌≡◌, ℕ, suc, ◌==◌, ◌≤◌, if◌then◌else◌, Bool, true, false, List, [], ◌∷◌, ◌++◌, length, refl}
use Rattle.std.proofs.Common.{ap, arith}
use Rattle.mc_campaign.specs.Campaigns.{in_round}

-- One cut more.
pub in_round-push : (round : ℕ) (cuts : List (ℕ × ℕ)) (cut : ℕ × ℕ) → in_round round (cuts ++ cut ∷ []) ≡ in_round round cuts ++ in_round round (cut ∷ [])
in_round-push round [] cut = refl
in_round-push round (x ∷ cuts) cut = by (x.0 == round) (in_round-push round cuts cut)
  where
    by : (b : Bool) → in_round round (cuts ++ cut ∷ []) ≡ in_round round cuts ++ in_round round (cut ∷ [])
        → (if b then x.1 ∷ in_round round (cuts ++ cut ∷ []) else in_round round (cuts ++ cut ∷ []))
        ≡ (if b then x.1 ∷ in_round round cuts else in_round round cuts) ++ in_round round (cut ∷ [])
    by true rest = ap (λ z. x.1 ∷ z) rest
    by false rest = rest

pub in_round_few : (round : ℕ) (cuts : List (ℕ × ℕ)) → length (in_round round cuts) ≤ length cuts
in_round_few round [] = omega arith
in_round_few round (x ∷ cuts) = by (x.0 == round) (in_round_few round cuts)
  where
    by : (b : Bool) → length (in_round round cuts) ≤ length cuts → length (if b then x.1 ∷ in_round round cuts else in_round round cuts) ≤ suc (length cuts)
    by true at_most = omega (arith, at_most)
    by false at_most = omega (arith, at_most)
