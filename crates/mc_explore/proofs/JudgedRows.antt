-- Rows that pass a test, those that are right, one more of them, and the census of rows that are judged.
use Rattle.std.proofs.Common.{Bool, List, None, Option, Some, [], ap, arith, cond, false, if◌then◌else◌, is_some, min, not, option_map, refl, sym, true, ◌+◌, ◌-◌, ◌&&◌, ◌++◌, ◌^◌, ◌∙◌, ◌∷◌, ◌≡◌}
use Rattle.std.proofs.{lemmas.List.Folds.{find-append}, lemmas.List.Sums.{sum_by-append}}
use Rattle.std.specs.{List.{AllByRecursion, find}, Option.{option_or}, Prelude.{count_by}}
use Rattle.mc_boot.specs.{Outcome.{Report}, declared.outcome.BootResult.{BootResult}}
use Rattle.mc_explore.specs.{Census.{census_by, cut_number}, declared.census.CensusOf.{CensusOf}}
use Rattle.mc_explore.specs.{Right.{is_met, is_right, judged, no_rights, one_judged_more, rights_by}, Survey.{is_boot}}
use Rattle.mc_explore.specs.declared.expectation.Expectation.{Expectation}
use Rattle.mc_boot.specs.declared.outcome.BootResult.TheVariants as results

or_none : {X : Type 0} (o : Option X) → option_or o None ≡ o
or_none None = refl
or_none (Some x) = refl

or_mapped : {X Y : Type 0} (f : X → Y) (a b : Option X) → option_map f (option_or a b) ≡ option_or (option_map f a) (option_map f b)
or_mapped f None b = refl
or_mapped f (Some x) b = refl

-- Rows that pass a test, and the first that does not.
module _ {R K : Type 0} (test : R → Bool) (key : R → K) where
  abbrev pub first_failing : List R → Option K
  first_failing rows = option_map key (find (λ row. not (test row)) rows)

  abbrev pub AllPass : List R → Type 0
  AllPass rows = AllByRecursion (λ row. test row ≡ true) rows

  pub none_found : (rows : List R) → is_some (first_failing rows) ≡ false → AllPass rows
  none_found [] none = tt
  none_found (row ∷ rows) none = by (test row) refl (none_found rows)
    where
      by : (b : Bool) → test row ≡ b → (is_some (first_failing rows) ≡ false → AllPass rows) → AllPass (row ∷ rows)
      by true is rest = (is, rest (rw is at none))
      by false is rest = absurd (let no = rw is at none in cc)

  pub all_found : (rows : List R) → AllPass rows → is_some (first_failing rows) ≡ false
  all_found [] all = refl
  all_found (row ∷ rows) all = rw all.0 (all_found rows all.1)

  -- Another test that says the same.
  module _ (other : R → Bool) (same : (row : R) → test row ≡ other row) where
    pub same_number : (rows : List R) → count_by test rows ≡ count_by other rows
    same_number [] = refl
    same_number (row ∷ rows) = grind arith

    pub same_failing : (rows : List R) → first_failing rows ≡ option_map key (find (λ row. not (other row)) rows)
    same_failing [] = refl
    same_failing (row ∷ rows) =
        ap (λ b. option_map key (if not b then Some row else find (λ row. not (test row)) rows)) (same row) ∙ by (other row) (same_failing rows)
      where
        by : (b : Bool) → first_failing rows ≡ option_map key (find (λ row. not (other row)) rows)
            → option_map key (if not b then Some row else find (λ row. not (test row)) rows) ≡ option_map key (if not b then Some row else find (λ row. not (other row)) rows)
        by true rest = rest
        by false rest = refl

-- A row ends in a boot.
pub boots_if : (r : BootResult) → is_boot r ≡ true → r ≡ results.Boot
boots_if results.Boot is = refl
boots_if results.None is = absurd cc
boots_if results.Panic is = absurd cc
boots_if results.Fault is = absurd cc

pub boots_then : (r : BootResult) → r ≡ results.Boot → is_boot r ≡ true
boots_then r is = ap is_boot is

-- Rows of whatever is explored.
module _ {R K : Type 0} (ends : R → Report) (key : R → K) (e : Expectation) where
  abbrev right : R → Bool
  right row = is_right e (ends row)

  abbrev first : List R → Option K
  first rows = option_map key (find (λ row. not (right row)) rows)

  pub none_right : no_rights ≡ rights_by ends key e []
  unfolding cut_number
  none_right = let none : 0 ≡ cut_number 0 = omega arith in cc

  -- One row more.
  many_more : (rows : List R) (row : R) (b : Bool) → right row ≡ b → count_by right (rows ++ row ∷ []) ≡ count_by right rows + cond b 1 0
  many_more rows row b is = sum_by-append (λ (row : R). cond (right row) 1 0) rows (row ∷ []) ∙ ap (λ n. count_by right rows + n) (one b is)
    where
      one : (b : Bool) → right row ≡ b → 0 + cond (right row) 1 0 ≡ cond b 1 0
      one true is = rw is refl
      one false is = rw is refl

  first_more : (rows : List R) (row : R) (b : Bool) → right row ≡ b → first (rows ++ row ∷ []) ≡ option_or (first rows) (if b then None else Some (key row))
  first_more rows row b is =
      ap (option_map key) (find-append (λ (row : R). not (right row)) rows (row ∷ []))
      ∙ or_mapped key (find (λ row. not (right row)) rows) (find (λ row. not (right row)) (row ∷ [])) ∙ ap (option_or (first rows)) (by b is)
    where
      by : (b : Bool) → right row ≡ b → option_map key (find (λ row. not (right row)) (row ∷ [])) ≡ (if b then None else Some (key row))
      by true is = rw is refl
      by false is = rw is refl

  pub rights_more : (rows : List R) (row : R) → one_judged_more e (key row) (ends row) (rights_by ends key e rows) ≡ rights_by ends key e (rows ++ row ∷ [])
  unfolding cut_number
  rights_more rows row = by (right row) refl
    where
      by : (b : Bool) → right row ≡ b → one_judged_more e (key row) (ends row) (rights_by ends key e rows) ≡ rights_by ends key e (rows ++ row ∷ [])
      by true is =
          let right_is : min (min (count_by right rows) (2 ^ 128 - 1) + 1) (2 ^ 128 - 1) ≡ min (count_by right (rows ++ row ∷ [])) (2 ^ 128 - 1) = omega (arith, many_more rows row true is) in
          let first_is : first rows ≡ first (rows ++ row ∷ []) = sym (first_more rows row true is ∙ or_none (first rows)) in
          rw is cc
      by false is =
          let right_is : min (count_by right rows) (2 ^ 128 - 1) ≡ min (count_by right (rows ++ row ∷ [])) (2 ^ 128 - 1) = omega (arith, many_more rows row false is) in
          let first_is : option_or (first rows) (Some (key row)) ≡ first (rows ++ row ∷ []) = sym (first_more rows row false is) in
          rw is cc

-- The census of rows as they are judged.
boot_by : (m : Bool) (o : Report) (r : BootResult) → o.result ≡ r → is_boot (if not m && is_boot o.result then record o { result = results.None } else o).result ≡ (m && is_boot o.result)
boot_by true o r is = refl
boot_by false o results.Boot is = rw is refl
boot_by false o results.None is = rw is refl
boot_by false o results.Panic is = rw is refl
boot_by false o results.Fault is = rw is refl

module _ {R K : Type 0} (ends : R → Report) (key : R → K) (e : Expectation) where
  boot_judged : (row : R) → is_boot (judged e (ends row)).result ≡ is_right e (ends row)
  boot_judged row = boot_by (is_met e (ends row)) (ends row) (ends row).result refl

  pub rights_judged : (rows : List R) (census : CensusOf K) → census ≡ census_by (λ row. judged e (ends row)) key rows
      → record { right = census.boot; first_not_right = census.first_not_boot } ≡ rights_by ends key e rows
  rights_judged rows census is =
      let right_is = ap (λ (c : CensusOf K). c.boot) is
      ∙ ap cut_number (same_number (λ row. is_boot (judged e (ends row)).result) key (λ row. is_right e (ends row)) boot_judged rows) in
      let first_is = ap (λ (c : CensusOf K). c.first_not_boot) is ∙ same_failing (λ row. is_boot (judged e (ends row)).result) key (λ row. is_right e (ends row)) boot_judged rows in
      cc
