-- The first row that is not right, of more and more cuts.
use Rattle.std.specs.Prelude.{None, ℕ}
use Rattle.std.proofs.Common.{arith, inl, inr, refl, subst, sym, ap, ◌+◌, ◌<◌, ◌≡◌, ◌⊎◌}
use Rattle.std.proofs.Math.Nat.{eq-or-lt_of_le}
use Rattle.mc_boot.specs.Plan.{PowerOn}
use Rattle.mc_explore.specs.{Census.{IsCensus}, Right.{AreRights}, Subject.{Subject}}
use Rattle.mc_explore.specs.{declared.census.CensusOf.{CensusOf}, declared.expectation.Expectation.{Expectation}, declared.rights.RightsOf.{RightsOf}}
use Rattle.mc_verdict.specs.Shortest.{HasFirst, anything}

module _ {C K R U : Type 0} (x : Subject C K R U) (e : Expectation) (start : PowerOn) (choice : C) where
  -- Of one cut more there is none either.
  pub none_below : (n : ℕ) (rights : RightsOf K) → AreRights x e start choice n rights → rights.first_not_right ≡ None
      → ((m : ℕ) → m < n → HasFirst x e start choice m None) → (m : ℕ) → m < n + 1 → HasFirst x e start choice m None
  none_below n rights are none below m lt = by (eq-or-lt_of_le (omega (arith, lt)))
    where
      by : (m ≡ n) ⊎ (m < n) → HasFirst x e start choice m None
      by (inr less) = below m less
      by (inl is) = subst (λ (k : ℕ). HasFirst x e start choice k None) (sym is) (record { rights = rights; are = are; first_is = none })

-- The first that does not end in a boot is the first that is not right where nothing is expected.
pub boots_first : {C K R U : Type 0} (x : Subject C K R U) (start : PowerOn) (choice : C) (n : ℕ) (c : CensusOf K) → IsCensus x start choice n c
    → HasFirst x anything start choice n c.first_not_boot
boots_first {K = K} x start choice n c is = record {
  rights = _;
  are = record { rows = is.rows; rest = is.rest; rights_are = refl };
  first_is = sym (ap (λ (counted : CensusOf K). counted.first_not_boot) is.census_is);
}
