-- The verdict on rows is the first of what was asked for that does not hold.
use Rattle.std.proofs.Common.{Bool, List, None, Option, Result, Some, false, not, refl, true, ◌≡◌, ◌↔◌}
use Rattle.std.specs.Prelude.{IfSome, is_none, is_some}
use Rattle.mc_boot.specs.Outcome.{Report}
use Rattle.mc_explore.specs.{Right.{AllEndRight}, Survey.{AllEndInBoot}, declared.expectation.Expectation.{Expectation}, declared.rights.RightsOf.{RightsOf}}
use Rattle.mc_verdict.specs.Verdicts.{IsVerdict, verdict_of}
use Rattle.mc_options.specs.declared.refusal.Refusal.{Refusal}

-- That holds where it was counted.
where_counted : {K : Type 0} (P : Type 0) (o : Option (RightsOf K)) → P → IfSome o (λ _. P)
where_counted P None p = tt
where_counted P (Some r) p = p

-- That there is none, as it is answered.
pub none_is : {A : Type 0} (o : Option A) (b : Bool) → is_some o ≡ not b → b ≡ is_none o
none_is None true is = refl
none_is None false is = absurd cc
none_is (Some x) true is = absurd cc
none_is (Some x) false is = refl

module _ {R K : Type 0} (ends : R → Report) (e : Expectation) (rows : List R) (rights : Option (RightsOf K)) where
  -- By what was asked, and by what holds.
  by : (of_boots of_slots boots all whole : Bool) → ((boots ≡ true) ↔ AllEndInBoot ends rows) → ((all ≡ true) ↔ IfSome rights (λ _. AllEndRight ends e rows))
      → IsVerdict ends of_boots of_slots e rows rights whole (verdict_of of_boots of_slots boots all whole)
  by true of_slots false all whole boots_is all_is = (refl, λ boot. let no : false ≡ true = boots_is.1 boot in absurd (cc))
  by true true true false whole boots_is all_is = (refl, λ good. let no : false ≡ true = all_is.1 (where_counted (AllEndRight ends e rows) rights good) in absurd (cc))
  by true true true true false boots_is all_is = (refl, refl)
  by true true true true true boots_is all_is = (λ _. boots_is.0 refl, λ _. all_is.0 refl, λ _. refl)
  by true false true all false boots_is all_is = (refl, refl)
  by true false true all true boots_is all_is = (λ _. boots_is.0 refl, λ no. absurd (cc), λ _. refl)
  by false true boots false whole boots_is all_is = (refl, λ good. let no : false ≡ true = all_is.1 (where_counted (AllEndRight ends e rows) rights good) in absurd (cc))
  by false true boots true false boots_is all_is = (refl, refl)
  by false true boots true true boots_is all_is = (λ no. absurd (cc), λ _. all_is.0 refl, λ _. refl)
  by false false boots all whole boots_is all_is = (λ no. absurd (cc), λ no. absurd (cc), λ no. absurd (cc))

  pub is_verdict : (of_boots of_slots boots all whole : Bool) (r : Result (Unit {0}) Refusal) → ((boots ≡ true) ↔ AllEndInBoot ends rows)
      → ((all ≡ true) ↔ IfSome rights (λ _. AllEndRight ends e rows)) → r ≡ verdict_of of_boots of_slots boots all whole
      → IsVerdict ends of_boots of_slots e rows rights whole r
  is_verdict of_boots of_slots boots all whole r boots_is all_is is = rw is (by of_boots of_slots boots all whole boots_is all_is)
