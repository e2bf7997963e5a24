-- Weights of lists of rows and of trees: what a list of all rows comes to, and what follows for nodes whose children are another's.
use Rattle.std.specs.Prelude.{◌≡◌, ℕ, zero, suc, ◌+◌, ◌-◌, ◌<◌, ◌≤◌, List, [], ◌∷◌, ◌++◌, map, refl}
use Rattle.std.proofs.{Common.{arith, sym, ap, ◌∙◌}, lemmas.List.{map-append}}
use Rattle.mc_tree.specs.{Tree.{Tree, landed}, facts.Order.{landed-push}}
use Rattle.mc_tree.specs.{inner.Weights.{AreTwins, Weighing, IsWeighing, IsShared, from, path_tree, shared_below, total, weight}, facts.Existence.{all_from, beginning}}

module _ {M : Type 0} (w : Weighing M) (is : IsWeighing w) where
  total_append : {R : Type 0} (one : R → M) (xs ys : List R) → total w one (xs ++ ys) ≡ w.merged (total w one xs) (total w one ys)
  total_append one [] ys = sym (is.left (total w one ys))
  total_append one (x ∷ xs) ys =
      ap (w.merged (one x)) (total_append one xs ys) ∙ sym (is.joined (one x) (total w one xs) (total w one ys))

  -- The numbers up to one, and that one.
  pub from_more : (f : ℕ → M) (n i : ℕ) → from w f (suc n) i ≡ w.merged (from w f n i) (w.prefixed (i + n) (f (i + n)))
  from_more f zero i = grind arith
  from_more f (suc n) i =
      let at : ℕ → M = λ x. w.prefixed x (f x) in
      ap (w.merged (at i)) (from_more f n (i + 1))
      ∙ sym (is.joined (at i) (from w f n (i + 1)) (at (i + 1 + n)))
      ∙ ap (λ x. w.merged (from w f (suc n) i) (at x)) (omega arith)

  -- The numbers in two parts.
  pub from_parts : (f : ℕ → M) (n m i : ℕ) → from w f (n + m) i ≡ w.merged (from w f n i) (from w f m (i + n))
  from_parts f zero m i = grind arith
  from_parts f (suc n) m i =
      let at : M = w.prefixed i (f i) in
      let count : suc n + m ≡ suc (n + m) = omega arith in
      let last : i + 1 + n ≡ i + suc n = omega arith in
      ap (λ k. from w f k i) count
      ∙ ap (w.merged at) (from_parts f n m (i + 1))
      ∙ sym (is.joined at (from w f n (i + 1)) (from w f m (i + 1 + n)))
      ∙ ap (λ x. w.merged (from w f (suc n) i) (from w f m x)) last

  -- Weights that are alike for each of the numbers.
  pub from_alike : (f h : ℕ → M) (n i : ℕ) → ((x : ℕ) → i ≤ x → x < i + n → f x ≡ h x) → from w f n i ≡ from w h n i
  from_alike f h zero i same = refl
  from_alike f h (suc n) i same =
      ap (λ a. w.merged (w.prefixed i a) (from w f n (i + 1))) (same i (omega arith) (omega arith))
      ∙ ap (w.merged (w.prefixed i (h i))) (from_alike f h n (i + 1) (λ x le lt. same x (omega (arith, le)) (omega (arith, lt))))

  -- Numbers that are lowered.
  pub from_back : (f : ℕ → M) (j n i : ℕ) → w.first_lowered j (from w f n (j + i)) ≡ from w (λ x. f (j + x)) n i
  from_back f j zero i = is.lowered_none j
  from_back f j (suc n) i =
      is.lowered_merged j (w.prefixed (j + i) (f (j + i))) (from w f n (j + i + 1))
      ∙ ap (λ a. w.merged a (w.first_lowered j (from w f n (j + i + 1)))) (is.lowered_prefixed j i (f (j + i)))
      ∙ ap (λ x. w.merged (w.prefixed i (f (j + i))) (w.first_lowered j (from w f n x))) (omega arith)
      ∙ ap (w.merged (w.prefixed i (f (j + i)))) (from_back f j n (i + 1))

  module _ {N R : Type 0} (t : Tree N) (own : N → M) (one : R → M) (row_of : N → List ℕ → R) where
    -- A row weighs what its node does, after the numbers of its path.
    pub record AreWeighed : Type 0 where
      pub here : (s : N) → one (row_of s []) ≡ own s
      pub below : (s : N) (i : ℕ) (l : List ℕ) → one (row_of s (i ∷ l)) ≡ w.prefixed i (one (row_of (t.child s i) l))

    module _ (are : AreWeighed) where
      rows_prefixed : (s : N) (i : ℕ) (ls : List (List ℕ))
          → total w one (map (row_of s) (map (λ l. i ∷ l) ls)) ≡ w.prefixed i (total w one (map (row_of (t.child s i)) ls))
      rows_prefixed s i [] = sym (is.prefixed_none i)
      rows_prefixed s i (l ∷ ls) =
          ap (λ a. w.merged a (total w one (map (row_of s) (map (λ l. i ∷ l) ls)))) (are.below s i l)
          ∙ ap (w.merged (w.prefixed i (one (row_of (t.child s i) l)))) (rows_prefixed s i ls)
          ∙ sym (is.prefixed_merged i (one (row_of (t.child s i) l)) (total w one (map (row_of (t.child s i)) ls)))

      rows_beginning : (s : N) (f : ℕ → List (List ℕ)) (n : ℕ)
          → total w one (map (row_of s) (beginning f n)) ≡ from w (λ i. total w one (map (row_of (t.child s i)) (f i))) n 0
      unfolding beginning
      rows_beginning s f zero = refl
      rows_beginning s f (suc n) =
          let under : ℕ → M = λ i. total w one (map (row_of (t.child s i)) (f i)) in
          ap (total w one) (map-append (row_of s) (beginning f n) (map (λ l. n ∷ l) (f n)))
          ∙ total_append one (map (row_of s) (beginning f n)) (map (row_of s) (map (λ l. n ∷ l) (f n)))
          ∙ ap (λ a. w.merged a (total w one (map (row_of s) (map (λ l. n ∷ l) (f n))))) (rows_beginning s f n)
          ∙ ap (w.merged (from w under n 0)) (rows_prefixed s n (f n))
          ∙ ap (λ x. w.merged (from w under n 0) (w.prefixed x (under x))) (omega arith)
          ∙ sym (from_more under n 0)

      -- All rows weigh what the tree does.
      pub rows_weigh : (k : ℕ) (s : N) → total w one (map (row_of s) (all_from t k s)) ≡ weight w t own k s
      unfolding all_from
      rows_weigh zero s = is.right (one (row_of s [])) ∙ are.here s
      rows_weigh (suc k) s =
          let f : ℕ → List (List ℕ) = λ x. all_from t k (t.child s x) in
          ap (λ a. w.merged a (total w one (map (row_of s) (beginning f (t.width s))))) (are.here s)
          ∙ ap (w.merged (own s)) (rows_beginning s f (t.width s)
          ∙ from_alike (λ i. total w one (map (row_of (t.child s i)) (f i))) (λ i. weight w t own k (t.child s i)) (t.width s) 0
          (λ i le lt. rows_weigh k (t.child s i)))

  module _ {N : Type 0} (t : Tree N) (own : N → M) (p u : N) (j m : ℕ) (index : ℕ → ℕ) where
    -- What is below the second node, by what lies below the first.
    pub shared_weight : (k : ℕ) → IsShared w t own p u j m index
        → weight w t own (suc k) u ≡ w.merged (own u) (shared_below w (λ x. weight w t own k (t.child p x)) (t.width p) j m index)
    shared_weight k is_shared =
        let under : ℕ → M = λ x. weight w t own k (t.child p x) in
        let below : ℕ → M = λ i. weight w t own k (t.child u i) in
        let rest : ℕ = t.width p - (j + m) in
        let count : t.width u ≡ m + rest = (let a = is_shared.width in let b = is_shared.at_most in omega (arith, a, b)) in
        let first : 0 + m ≡ m = omega arith in
        let early : from w below m 0 ≡ from w (λ i. under (index i)) m 0 =
        from_alike below (λ i. under (index i)) m 0 (λ i le lt. is_shared.early i (omega (arith, lt)) k) in
        let late : from w below rest m ≡ w.first_lowered j (from w under rest (j + m)) =
        from_alike below (λ i. under (j + i)) rest m (λ i le lt. is_shared.late i le (omega (arith, lt, count)) k) ∙ sym (from_back under j rest m) in
        ap (w.merged (own u))
        (ap (λ n. from w below n 0) count
        ∙ from_parts below m rest 0
        ∙ ap (λ x. w.merged (from w below m 0) (from w below rest x)) first
        ∙ ap (λ a. w.merged a (from w below rest m)) early
        ∙ ap (w.merged (from w (λ i. under (index i)) m 0)) late)

  -- Paths weigh what the nodes at their ends do.
  module _ {N : Type 0} (t : Tree N) (root : N) (own : N → M) where
    abbrev own_of : List ℕ → M
    own_of l = own (landed t root l)

    path_weighs : (k : ℕ) (l : List ℕ) → weight w (path_tree t root) own_of k l ≡ weight w t own k (landed t root l)
    path_weighs zero l = refl
    path_weighs (suc k) l =
        ap (w.merged (own (landed t root l)))
        (from_alike (λ i. weight w (path_tree t root) own_of k (l ++ i ∷ [])) (λ i. weight w t own k (t.child (landed t root l) i)) (t.width (landed t root l)) 0
        (λ i le lt. path_weighs k (l ++ i ∷ []) ∙ ap (weight w t own k) (landed-push t root l i)))

    child_weighs : (k : ℕ) (l : List ℕ) (i : ℕ) → weight w (path_tree t root) own_of k (l ++ i ∷ []) ≡ weight w t own k (t.child (landed t root l) i)
    child_weighs k l i = path_weighs k (l ++ i ∷ []) ∙ ap (weight w t own k) (landed-push t root l i)

    pub path_shared : (l : List ℕ) (c j m : ℕ) (index : ℕ → ℕ) → IsShared w t own (landed t root l) (t.child (landed t root l) c) j m index
        → IsShared w (path_tree t root) own_of l (l ++ c ∷ []) j m index
    path_shared l c j m index is =
        let here : landed t root (l ++ c ∷ []) ≡ t.child (landed t root l) c = landed-push t root l c in
        let below : (k i : ℕ) → weight w (path_tree t root) own_of k ((l ++ c ∷ []) ++ i ∷ []) ≡ weight w t own k (t.child (t.child (landed t root l) c) i) =
        λ k i. child_weighs k (l ++ c ∷ []) i ∙ ap (λ n. weight w t own k (t.child n i)) here in
        record {
          width = ap (λ n. t.width n + j) here ∙ is.width;
          at_most = omega (arith, is.at_most, ap t.width here);
          within = is.within;
          early = λ i lt k. below k i ∙ is.early i lt k ∙ sym (child_weighs k l (index i));
          late = λ i le lt k. below k i ∙ is.late i le (omega (arith, lt, ap t.width here)) k ∙ sym (child_weighs k l (j + i));
        }

  -- Paths to the same node weigh the same, and so do paths to twins, where they do by themselves.
  module _ {N : Type 0} (t : Tree N) (root : N) (own : List ℕ → M) (same_own : (l m : List ℕ) → landed t root l ≡ landed t root m → own l ≡ own m) where
    abbrev paths : Tree (List ℕ)
    paths = path_tree t root

    children_alike : (k : ℕ) (l m : List ℕ) → own l ≡ own m → t.width (landed t root l) ≡ t.width (landed t root m)
        → ((i : ℕ) → weight w paths own k (l ++ i ∷ []) ≡ weight w paths own k (m ++ i ∷ [])) → weight w paths own (suc k) l ≡ weight w paths own (suc k) m
    children_alike k l m here width below =
        let width_of : List ℕ → ℕ = λ x. t.width (landed t root x) in
        ap (λ a. w.merged a (from w (λ i. weight w paths own k (l ++ i ∷ [])) (width_of l) 0)) here
        ∙ ap (w.merged (own m)) (from_alike (λ i. weight w paths own k (l ++ i ∷ [])) (λ i. weight w paths own k (m ++ i ∷ [])) (width_of l) 0 (λ i le lt. below i))
        ∙ ap (λ n. w.merged (own m) (from w (λ i. weight w paths own k (m ++ i ∷ [])) n 0)) width

    same_weigh : (k : ℕ) (l m : List ℕ) → landed t root l ≡ landed t root m → weight w paths own k l ≡ weight w paths own k m
    same_weigh zero l m same = same_own l m same
    same_weigh (suc k) l m same =
        children_alike k l m (same_own l m same) (ap t.width same)
        (λ i. same_weigh k (l ++ i ∷ []) (m ++ i ∷ []) (landed-push t root l i ∙ ap (λ n. t.child n i) same ∙ sym (landed-push t root m i)))

    pub twins_weigh : (l m : List ℕ) → own l ≡ own m → AreTwins t (landed t root l) (landed t root m) → (k : ℕ) → weight w paths own k l ≡ weight w paths own k m
    twins_weigh l m same twins zero = same
    twins_weigh l m same twins (suc k) = children_alike k l m same twins.width (below (twins_weigh l m same twins k))
      where
        below : weight w paths own k l ≡ weight w paths own k m → (i : ℕ) → weight w paths own k (l ++ i ∷ []) ≡ weight w paths own k (m ++ i ∷ [])
        below before zero =
            same_weigh k (l ++ 0 ∷ []) l (landed-push t root l 0 ∙ twins.one) ∙ before
            ∙ sym (same_weigh k (m ++ 0 ∷ []) m (landed-push t root m 0 ∙ twins.other))
        below before (suc i) = same_weigh k (l ++ suc i ∷ []) (m ++ suc i ∷ []) (landed-push t root l (suc i) ∙ twins.later i ∙ sym (landed-push t root m (suc i)))
