-- The shortest row that does not end as it should.
use Rattle.std.specs.Prelude.{Bool, List, None, Option, Some, [], codes, if◌then◌else◌, ℕ, ◌++◌, ◌<◌, ◌≡◌, ◌≤◌}
use Rattle.mc_boot.specs.Plan.{PowerOn}
use Rattle.mc_explore.specs.{Census.{key_or_none}, Right.{AreRights}, Subject.{Subject}}
use Rattle.mc_explore.specs.{declared.expectation.Expectation.{Expectation}, declared.rights.RightsOf.{RightsOf}}
use Rattle.mc_explore.specs.declared.expectation.Wanted.TheVariants as wanted
use Rattle.mc_verdict.specs.declared.shortest.Shortest.{Shortest}

-- Where nothing is expected of the slots, a row is right that ends in a boot.
abbrev pub anything : Expectation
anything = record { primary = wanted.Anything; secondary = wanted.Anything }

module _ {C K R U : Type 0} (x : Subject C K R U) (e : Expectation) (start : PowerOn) (choice : C) where
  -- Of the rows of at most so many cuts this is the first that is not right, or there is none.
  pub record HasFirst (bound : ℕ) (first : Option K) : Type 0 where
    pub rights : RightsOf K
    pub are : AreRights x e start choice bound rights
    pub first_is : rights.first_not_right ≡ first

  -- The first that is not right where any is: of the fewest cuts of which there is one.
  abbrev pub IsShortest : ℕ → Option K → Type 0
  IsShortest bound None = HasFirst bound None
  IsShortest bound (Some key) = (n : ℕ) × (n ≤ bound) × HasFirst n (Some key) × ((m : ℕ) → m < n → HasFirst m None)

module _ {C K R U : Type 0} (x : Subject C K R U) where
  -- A word, and the key or that there is none.
  abbrev pub key_line : List ℕ → Option K → List ℕ
  key_line word key = word ++ (key_or_none x.key_text key ++ codes "\n")

  -- A line; and one more where something is expected of the slots.
  abbrev pub shortest_text : Bool → Shortest K → List ℕ
  shortest_text judged s =
      key_line (codes "shortest-not-boot ") s.not_boot ++ (if judged then key_line (codes "shortest-not-right ") s.not_right else [])
