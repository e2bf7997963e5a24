-- The elements of a list, and its pairs, by recursion.
use Rattle.std.proofs.{Common.{◌≡◌, suc, ◌⊎◌, List, [], ◌∷◌, ◌++◌, map, inl, inr, refl, sym, subst, arith}, lemmas.List.Kept.{AllPairs-cons}}
use Rattle.std.proofs.lemmas.List.Elements.{All-weaker, All-contains_itself, Contains-append_cases}
use Rattle.std.specs.Prelude.{AllPairs, Contains}

module _ {X : Type 0} where
  pub no_element : (x : X) → Contains [] x → ⊥
  no_element x c = omega (arith, c.1)

  pub at_head : (x : X) (xs : List X) → Contains (x ∷ xs) x
  at_head x xs = (0, omega arith, refl)

  pub in_rest : (x y : X) (xs : List X) → Contains xs y → Contains (x ∷ xs) y
  in_rest x y xs c = (suc c.0, omega (arith, c.1), c.2)

  pub head_or_rest : (x y : X) (xs : List X) → Contains (x ∷ xs) y → (y ≡ x) ⊎ Contains xs y
  head_or_rest x y xs it = grind arith

module _ {X : Type 0} (P : X → X → Type 0) where
  pub no_pairs : AllPairs P []
  no_pairs i j d lt within = absurd (omega arith)

  pub pairs_rest : (x : X) (xs : List X) → AllPairs P (x ∷ xs) → AllPairs P xs
  pairs_rest x xs all i j d lt within = all (suc i) (suc j) d (omega arith) (omega arith)

  pub pairs_head : (x y : X) (xs : List X) → AllPairs P (x ∷ xs) → Contains xs y → P x y
  pairs_head x y xs all (k, lt, is) = subst (P x) is (all 0 (suc k) y (omega arith) (omega (arith, lt)))

  pub pairs_after : (prefix xs : List X) → AllPairs P (prefix ++ xs) → AllPairs P xs
  pairs_after [] xs all = all
  pairs_after (y ∷ prefix) xs all = pairs_after prefix xs (pairs_rest y (prefix ++ xs) all)

  pub more_pairs : (x : X) (xs : List X) → ((y : X) → Contains xs y → P x y) → AllPairs P xs → AllPairs P (x ∷ xs)
  more_pairs x xs first all = AllPairs-cons P x xs (All-weaker (Contains xs) (P x) first xs (All-contains_itself xs)) all

  pub pairs_append : (xs ys : List X) → AllPairs P xs → AllPairs P ys → ((x y : X) → Contains xs x → Contains ys y → P x y) → AllPairs P (xs ++ ys)
  pairs_append [] ys prefix back across = back
  pairs_append (x ∷ xs) ys prefix back across =
      more_pairs x (xs ++ ys) (λ y c. elim (Contains-append_cases xs ys y c) [
        | inl i ↦ pairs_head x y xs prefix i
        | inr j ↦ across x y (at_head x xs) j
      ]) (pairs_append xs ys (pairs_rest x xs prefix) back (λ a b i j. across a b (in_rest x a xs i) j))

module _ {X Y : Type 0} (f : X → Y) where
  pub in_map : (y : Y) (xs : List X) → Contains (map f xs) y → (x : X) × (y ≡ f x) × Contains xs x
  in_map y [] c = absurd (no_element y c)
  in_map y (x ∷ xs) c = elim (head_or_rest (f x) y (map f xs) c) [
    | inl e ↦ (x, e, at_head x xs)
    | inr i ↦ let q = in_map y xs i in (q.0, q.1, in_rest x q.0 xs q.2)
  ]

  pub map_in : (x : X) (xs : List X) → Contains xs x → Contains (map f xs) (f x)
  map_in x [] c = absurd (no_element x c)
  map_in x (y ∷ ys) c = elim (head_or_rest y x ys c) [
    | inl e ↦ subst (λ z. Contains (map f (z ∷ ys)) (f x)) e (at_head (f x) (map f ys))
    | inr i ↦ in_rest (f y) (f x) (map f ys) (map_in x ys i)
  ]

  -- Pairs of which one thing holds are mapped to pairs of which another does.
  pub pairs_mapped : (P : X → X → Type 0) (Q : Y → Y → Type 0) (xs : List X) → ((a b : X) → Contains xs a → Contains xs b → P a b → Q (f a) (f b))
      → AllPairs P xs → AllPairs Q (map f xs)
  pairs_mapped P Q [] on all = no_pairs Q
  pairs_mapped P Q (x ∷ xs) on all = more_pairs Q (f x) (map f xs) (λ y c.
      let q = in_map y xs c in subst (Q (f x)) (sym q.1) (on x q.0 (at_head x xs) (in_rest x q.0 xs q.2) (pairs_head P x q.0 xs all q.2)))
      (pairs_mapped P Q xs (λ a b i j. on a b (in_rest x a xs i) (in_rest x b xs j)) (pairs_rest P x xs all))
