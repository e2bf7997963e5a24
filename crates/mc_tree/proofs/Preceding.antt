-- The order of schedules as a test.
use Rattle.std.specs.{Prelude.{◌≡◌, ◌↔◌, ℕ, ◌==◌, nat_lt, Bool, true, false, if◌then◌else◌, List, [], ◌∷◌, Some, refl}, Cmp.Lexicographic.{slice_partial_cmp}}
use Rattle.std.specs.Ordering.{nat_cmp, is_lt, is_some_and}
use Rattle.std.proofs.{Common.{arith, sym, ap, ◌∙◌, inl, inr}, lemmas.Bool.{cases_eq, ltb-true, lt-ltb}, lemmas.Bool.Decides.{nat_tests}}
use Rattle.std.proofs.lemmas.Cmp.{same_from_slice_cmp_tested}
use Rattle.mc_tree.specs.Tree.{Precedes}

abbrev is_before : List ℕ → List ℕ → Bool
is_before [] [] = false
is_before [] (y ∷ ys) = true
is_before (x ∷ xs) [] = false
is_before (x ∷ xs) (y ∷ ys) = if x == y then is_before xs ys else nat_lt x y

compared : (xs ys : List ℕ) (r : Bool) → r ≡ is_some_and is_lt (slice_partial_cmp (λ x y. Some (nat_cmp x y)) xs ys) → r ≡ is_before xs ys
compared = same_from_slice_cmp_tested nat_cmp is_lt is_before refl (λ _ _. refl) (λ _ _. refl) (λ x y xs ys o h. grind (arith, nat_tests))

decided : (xs ys : List ℕ) → (is_before xs ys ≡ true) ↔ Precedes xs ys
decided [] [] = (λ e. let no : false ≡ true = e in absurd cc, λ p. absurd p)
decided [] (y ∷ ys) = (λ e. tt, λ p. refl)
decided (x ∷ xs) [] = (λ e. let no : false ≡ true = e in absurd cc, λ p. absurd p)
decided (x ∷ xs) (y ∷ ys) = elim (cases_eq x y) [
  | inl same ↦
      let test : (x == y) ≡ true = grind (arith, nat_tests) in
      let is : is_before (x ∷ xs) (y ∷ ys) ≡ is_before xs ys = ap (λ b. if b then is_before xs ys else nat_lt x y) test in
      let rest = decided xs ys in (
        λ e. inr (same, rest.0 (sym is ∙ e)),
        λ p. elim p [
          | inl less ↦ absurd (omega (arith, less, same))
          | inr both ↦ is ∙ rest.1 both.1
        ],
      )
  | inr other ↦
      let test : (x == y) ≡ false = grind (arith, nat_tests) in
      let is : is_before (x ∷ xs) (y ∷ ys) ≡ nat_lt x y = ap (λ b. if b then is_before xs ys else nat_lt x y) test in (
        λ e. inl (ltb-true x y (sym is ∙ e)),
        λ p. elim p [
          | inl less ↦ is ∙ lt-ltb x y less
          | inr both ↦ absurd (other both.0)
        ],
      )
]

-- What Rust's `<` of slices says.
pub slice_before : (xs ys : List ℕ) (r : Bool) → r ≡ is_some_and is_lt (slice_partial_cmp (λ x y. Some (nat_cmp x y)) xs ys) → (r ≡ true) ↔ Precedes xs ys
slice_before xs ys r is =
    let same = compared xs ys r is in
    let both = decided xs ys in
    (λ e. both.0 (sym same ∙ e), λ p. same ∙ both.1 p)
