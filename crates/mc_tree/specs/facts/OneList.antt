-- There is at most one list of the rows to come, and a row or none is taken off at its start.
use Rattle.std.proofs.{Common.{◌≡◌, List, [], ◌∷◌, ◌++◌, ◌⊎◌, inl, inr, refl, sym, ap, subst}, lemmas.List.Elements.{Contains-append_right}}
use Rattle.std.specs.Prelude.{Contains}
use Rattle.mc_tree.specs.{Tree.{Position, After, IsPastIn, Ascends, IsRest}, facts.Order.{IsOrder, not_same, past_on}}
use Rattle.mc_tree.specs.facts.Lists.{no_element, at_head, in_rest, head_or_rest, pairs_rest, pairs_head, pairs_after}

module _ {K R : Type 0} (Before : K → K → Type 0) (order : IsOrder Before) (key : R → K) where
  abbrev RowsBefore : R → R → Type 0
  RowsBefore a b = Before (key a) (key b)

  apart : (x y : R) → x ≡ y → RowsBefore x y → ⊥
  apart x y e = not_same Before order (key x) (key y) (ap key e)

  -- Of an ascending list the first element comes nowhere after.
  others : (x m : R) (xs ys : List R) → Ascends Before key (x ∷ xs) → Contains xs m → (m ≡ x) ⊎ Contains ys m → Contains ys m
  others x m xs ys up i (inl e) = absurd (apart x m (sym e) (pairs_head RowsBefore x m xs up i))
  others x m xs ys up i (inr j) = j

  -- Ascending lists of the same elements are one.
  pub same_ascending : (xs ys : List R) → Ascends Before key xs → Ascends Before key ys
      → ((m : R) → Contains xs m → Contains ys m) → ((m : R) → Contains ys m → Contains xs m) → xs ≡ ys
  same_ascending [] [] up on there back = refl
  same_ascending [] (y ∷ ys) up on there back = absurd (no_element y (back y (at_head y ys)))
  same_ascending (x ∷ xs) [] up on there back = absurd (no_element x (there x (at_head x xs)))
  same_ascending (x ∷ xs) (y ∷ ys) up on there back =
      let e : x ≡ y = elim (head_or_rest y x ys (there x (at_head x xs))) [
        | inl e ↦ e
        | inr i ↦ elim (head_or_rest x y xs (back y (at_head y ys))) [
          | inl e ↦ sym e
          | inr j ↦ absurd (order.asym (key x) (key y) (pairs_head RowsBefore x y xs up j) (pairs_head RowsBefore y x ys on i))
        ]
      ] in
      let there' : (m : R) → Contains xs m → Contains ys m = λ m i.
      others x m xs ys up i (subst (λ z. (m ≡ z) ⊎ Contains ys m) (sym e) (head_or_rest y m ys (there m (in_rest x m xs i)))) in
      let back' : (m : R) → Contains ys m → Contains xs m = λ m i.
      others y m ys xs on i (subst (λ z. (m ≡ z) ⊎ Contains xs m) e (head_or_rest x m xs (back m (in_rest y m ys i)))) in
      let rest = same_ascending xs ys (pairs_rest RowsBefore x xs up) (pairs_rest RowsBefore y ys on) there' back' in
      cc

  module _ (IsRow : R → Type 0) (position : Position K) where
    pub one_rest : (xs ys : List R) → IsRest Before key IsRow position xs → IsRest Before key IsRow position ys → xs ≡ ys
    one_rest xs ys r s =
        same_ascending xs ys r.ascends s.ascends
        (λ m i. let is = r.only m i in s.all m is.0 is.1) (λ m i. let is = s.only m i in r.all m is.0 is.1)

    -- Past the first of them the others are to come.
    pub rest_tail : (row : R) (rows : List R) → IsRest Before key IsRow position (row ∷ rows) → IsRest Before key IsRow (After (key row)) rows
    rest_tail row rows r = record {
      ascends = pairs_rest RowsBefore row rows r.ascends;
      only = λ m i. ((r.only m (in_rest row m rows i)).0, pairs_head RowsBefore row m rows r.ascends i);
      all = λ m is past. elim (head_or_rest row m rows (r.all m is (past_on Before order position (key row) (key m) (r.only row (at_head row rows)).1 past))) [
        | inl e ↦ absurd (apart row m (sym e) past)
        | inr i ↦ i
      ];
    }

    -- The next row is the first of them.
    pub rest_next : (row : R) (rows : List R) → IsRow row → IsPastIn Before position (key row)
        → ((m : R) → IsRow m → IsPastIn Before position (key m) → RowsBefore m row → ⊥)
        → IsRest Before key IsRow position rows → (rest : List R) × (rows ≡ row ∷ rest) × IsRest Before key IsRow (After (key row)) rest
    rest_next row [] is past none r = absurd (no_element row (r.all row is past))
    rest_next row (x ∷ xs) is past none r =
        let e : row ≡ x = elim (head_or_rest x row xs (r.all row is past)) [
          | inl e ↦ e
          | inr i ↦ let first = r.only x (at_head x xs) in absurd (none x first.0 first.1 (pairs_head RowsBefore x row xs r.ascends i))
        ] in
        (xs, ap (λ z. z ∷ xs) (sym e), subst (λ z. IsRest Before key IsRow (After (key z)) xs) (sym e) (rest_tail x xs r))

    -- Where no row is past the position there are none.
    pub rest_over : (rows : List R) → ((m : R) → IsRow m → IsPastIn Before position (key m) → ⊥) → IsRest Before key IsRow position rows → rows ≡ []
    rest_over [] over r = refl
    rest_over (x ∷ xs) over r = let first = r.only x (at_head x xs) in absurd (over x first.0 first.1)

    -- Each comes before those that stand after it.
    pub in_order : (prefix between rest : List R) (first later : R)
        → IsRest Before key IsRow position (prefix ++ first ∷ (between ++ later ∷ rest)) → RowsBefore first later
    in_order prefix between rest first later r =
        let up = pairs_after RowsBefore prefix (first ∷ (between ++ later ∷ rest)) r.ascends in
        pairs_head RowsBefore first later (between ++ later ∷ rest) up (Contains-append_right between (later ∷ rest) later (at_head later rest))
