-- Where no twin is known. Proved here, so that the crates above can cite it.
use Rattle.std.proofs.Common.{arith, subst}
use Rattle.std.specs.Prelude.{Ok, refl, suc, zero, ℕ, ◌+◌, ◌<◌, ◌≡◌, ◌≤◌}
use Rattle.mc_flash.specs.Usage.{Seen}
use Rattle.mc_walk.specs.TreeModel.{IsAt, PassesTwins, TreeModel}

module _ {N A T : Type 0} (k : TreeModel N A T) (most : ℕ) (at : A) (summary : T) (f : Seen) where
  -- None is passed.
  pub none_passed : PassesTwins k {E = Unit {0}} most at summary f (Ok 0) at f
  none_passed = (
    omega arith,
    λ n i here more is.
        let same : i ≡ i + 0 = omega arith in (
          subst (λ m. IsAt k n m at f) same here,
          record {
            summaries = λ j le. let at_it : i ≡ i + j = omega (arith, le) in subst (λ m. k.IsSummary (k.tree.child n m) summary) at_it is;
            twins = λ j some le. absurd (omega (arith, some, le));
          },
        ),
    record { entries = omega arith; saved = omega arith },
  )
