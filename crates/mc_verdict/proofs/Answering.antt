-- What was counted of the rows that a census has.
use Rattle.std.specs.Prelude.{ℕ, List, Option, Some, None}
use Rattle.std.proofs.Common.{ap, inl, inr, ◌∙◌}
use Rattle.mc_boot.specs.Plan.{PowerOn}
use Rattle.mc_explore.specs.{Pages.{IsLawful, IsRest}, Right.{rights_by}, Subject.{Subject, at_start, rows_of}, facts.Listings.{one_rest}}
use Rattle.mc_explore.specs.{declared.expectation.Expectation.{Expectation}, declared.rights.RightsOf.{RightsOf}}
use Rattle.mc_options.specs.Requests.{End}
use Rattle.mc_verdict.specs.{Requests.{AnswersCensus, ConcludesCensus}, Sessions.{AreCounts, AreRightsIf, or_any}, Verdicts.{AreCounted}}
use Rattle.mc_verdict.specs.{declared.census.Counts.{Counts}, declared.census.Wanted.{Wanted}}

module _ {C K R U : Type 0} (x : Subject C K R U) (lawful : IsLawful (rows_of x)) where
  -- What is right was counted of the very rows of the census.
  pub counted : (e : Option Expectation) (start : PowerOn) (choice : C) (bound : ℕ) (rights : Option (RightsOf K)) (rows : List R)
      → IsRest (rows_of x) (at_start start choice bound) rows → AreRightsIf x e start choice bound rights → AreCounted x (or_any e) rows rights
  counted None start choice bound None rows rest are = tt
  counted None start choice bound (Some r) rows rest are = absurd are
  counted (Some e) start choice bound None rows rest are = absurd are
  counted (Some e) start choice bound (Some r) rows rest are =
      are.rights_are ∙ ap (λ (l : List R). rights_by x.ends x.key e l) (one_rest (rows_of x) lawful (at_start start choice bound) are.rows rows are.rest rest)

module _ {C K R U : Type 0} (x : Subject C K R U) where
  -- What was concluded of a census answers it.
  pub concluded : (w : Wanted C) (c : Counts K) (before after : Option (List ℕ)) (end : End) (are : AreCounts x w c) → ConcludesCensus x w c are before after end → AnswersCensus x w before after end
  concluded w c before after end are (inl p) = inl (record { counts = c; are = are }, p.0, p.1)
  concluded w c before after end are (inr p) = inr (inr (p.0, p.1, p.2, record { counts = c; are = are }, p.3))
