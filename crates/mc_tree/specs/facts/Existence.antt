-- There is a list of the rows to come: of all paths within the bound those past the position, each with its row.
use Rattle.std.proofs.Common.{◌≡◌, ℕ, suc, zero, ◌<◌, List, [], ◌∷◌, ◌++◌, map, inl, inr, refl, sym, subst, ap, ◌∙◌, append-nil, append_assoc, arith}
use Rattle.std.proofs.{lemmas.Bool.{cases_lt}, lemmas.List.Elements.{Contains-append_cases, Contains-append_left, Contains-append_right}}
use Rattle.std.specs.Prelude.{AllPairs, Contains}
use Rattle.mc_tree.specs.Tree.{Tree, IsMember, Precedes, Position, AtStart, After, Lost, Ascends, IsRest, landed}
use Rattle.mc_tree.specs.{facts.Order.{IsOrder, cases_of, landed-push}, inner.Weights.{path_tree}}
use Rattle.mc_tree.specs.facts.Lists.{no_element, at_head, in_rest, head_or_rest, no_pairs, pairs_rest, pairs_head, more_pairs, pairs_append, in_map, map_in, pairs_mapped}

-- Each path comes before all that stand after it.
abbrev pub PathsAscend : List (List ℕ) → Type 0
PathsAscend = AllPairs Precedes

-- The paths that begin with a number below n, of those that go on after each.
unfoldable pub beginning : (ℕ → List (List ℕ)) → ℕ → List (List ℕ)
beginning f zero = []
beginning f (suc n) = beginning f n ++ map (λ l. n ∷ l) (f n)

in_beginning : (f : ℕ → List (List ℕ)) (n : ℕ) (m : List ℕ) → Contains (beginning f n) m → (x : ℕ) × (l : List ℕ) × (x < n) × (m ≡ x ∷ l) × Contains (f x) l
unfolding beginning
in_beginning f zero m i = absurd (no_element m i)
in_beginning f (suc n) m i = elim (Contains-append_cases (beginning f n) (map (λ l. n ∷ l) (f n)) m i) [
  | inl j ↦ let q = in_beginning f n m j in (q.0, q.1, omega (arith, q.2), q.3, q.4)
  | inr j ↦ let q = in_map (λ l. n ∷ l) m (f n) j in (n, q.0, omega arith, q.1, q.2)
]

beginning_in : (f : ℕ → List (List ℕ)) (n x : ℕ) (l : List ℕ) → x < n → Contains (f x) l → Contains (beginning f n) (x ∷ l)
unfolding beginning
beginning_in f zero x l lt i = absurd (omega (arith, lt))
beginning_in f (suc n) x l lt i = elim (cases_lt x n) [
  | inl below ↦ Contains-append_left (beginning f n) (map (λ l. n ∷ l) (f n)) (x ∷ l) (beginning_in f n x l below i)
  | inr le ↦
      let e : x ≡ n = omega (arith, lt, le) in
      let at_n = map_in (λ l. n ∷ l) l (f n) (subst (λ c. Contains (f c) l) e i) in
      subst (λ c. Contains (beginning f n ++ map (λ l. n ∷ l) (f n)) (c ∷ l)) (sym e)
      (Contains-append_right (beginning f n) (map (λ l. n ∷ l) (f n)) (n ∷ l) at_n)
]

beginning_ascends : (f : ℕ → List (List ℕ)) (n : ℕ) → ((x : ℕ) → PathsAscend (f x)) → PathsAscend (beginning f n)
unfolding beginning
beginning_ascends f zero up = no_pairs Precedes
beginning_ascends f (suc n) up =
    pairs_append Precedes (beginning f n) (map (λ l. n ∷ l) (f n)) (beginning_ascends f n up)
    (pairs_mapped (λ l. n ∷ l) Precedes Precedes (f n) (λ a b i j before. inr (refl, before)) (up n)) (λ x y i j.
    let a = in_beginning f n x i in
    let b = in_map (λ l. n ∷ l) y (f n) j in
    let before : Precedes (a.0 ∷ a.1) (n ∷ b.0) = inl a.2 in
    subst (λ z. Precedes z y) (sym a.3) (subst (Precedes (a.0 ∷ a.1)) (sym b.1) before))

module _ {N : Type 0} (t : Tree N) where
  -- All paths of at most k steps.
  unfoldable pub all_from : ℕ → N → List (List ℕ)
  all_from zero s = [] ∷ []
  all_from (suc k) s = [] ∷ beginning (λ x. all_from k (t.child s x)) (t.width s)

  ascends_all : (k : ℕ) (s : N) → PathsAscend (all_from k s)
  unfolding all_from
  ascends_all zero s = more_pairs Precedes [] [] (λ m i. absurd (no_element m i)) (no_pairs Precedes)
  ascends_all (suc k) s =
      let f : ℕ → List (List ℕ) = λ x. all_from k (t.child s x) in
      more_pairs Precedes [] (beginning f (t.width s))
      (λ m i. let q = in_beginning f (t.width s) m i in subst (Precedes []) (sym q.3) tt)
      (beginning_ascends f (t.width s) (λ x. ascends_all k (t.child s x)))

  pub in_all : (k : ℕ) (s : N) (m : List ℕ) → Contains (all_from k s) m → IsMember t s k m
  unfolding all_from
  in_all zero s m i = grind arith
  in_all (suc k) s m i =
      let f : ℕ → List (List ℕ) = λ x. all_from k (t.child s x) in
      elim (head_or_rest [] m (beginning f (t.width s)) i) [
        | inl e ↦ subst (IsMember t s (suc k)) (sym e) (omega arith, tt)
        | inr j ↦
            let q = in_beginning f (t.width s) m j in
            let b = in_all k (t.child s q.0) q.1 q.4 in
            subst (IsMember t s (suc k)) (sym q.3) (omega (arith, b.0), (q.2, b.1))
      ]

  all_in : (k : ℕ) (s : N) (m : List ℕ) → IsMember t s k m → Contains (all_from k s) m
  unfolding all_from
  all_in zero s [] mem = at_head [] []
  all_in zero s (x ∷ xs) mem = absurd (omega (arith, mem.0))
  all_in (suc k) s [] mem = at_head [] (beginning (λ x. all_from k (t.child s x)) (t.width s))
  all_in (suc k) s (x ∷ xs) mem =
      let f : ℕ → List (List ℕ) = λ x. all_from k (t.child s x) in
      in_rest [] (x ∷ xs) (beginning f (t.width s))
      (beginning_in f (t.width s) x xs mem.1.0 (all_in k (t.child s x) xs (omega (arith, mem.0), mem.1.1)))

beginning_alike : (f h : ℕ → List (List ℕ)) (n : ℕ) → ((x : ℕ) → f x ≡ h x) → beginning f n ≡ beginning h n
unfolding beginning
beginning_alike f h it same = grind arith

-- The paths from the end of a path, in the tree of paths.
module _ {N : Type 0} (t : Tree N) (root : N) where
  pub all_paths : (k : ℕ) (l : List ℕ) → all_from (path_tree t root) k l ≡ all_from t k (landed t root l)
  unfolding all_from
  all_paths zero l = refl
  all_paths (suc k) l =
      ap (λ (ls : List (List ℕ)). [] ∷ ls)
      (beginning_alike (λ x. all_from (path_tree t root) k (l ++ x ∷ [])) (λ x. all_from t k (t.child (landed t root l) x)) (t.width (landed t root l))
      (λ x. all_paths k (l ++ x ∷ []) ∙ ap (all_from t k) (landed-push t root l x)))

  pub landed_path : (l m : List ℕ) → landed (path_tree t root) l m ≡ l ++ m
  landed_path l [] = sym (append-nil l)
  landed_path l (x ∷ m) = landed_path (l ++ x ∷ []) m ∙ append_assoc l (x ∷ []) m

module _ {K R : Type 0} (Before : K → K → Type 0) (order : IsOrder Before) (key : R → K) where
  abbrev RowsBefore : R → R → Type 0
  RowsBefore a b = Before (key a) (key b)

  -- The rows of a list past a key.
  past_of : (last : K) (rows : List R) → Ascends Before key rows → (past : List R) × Ascends Before key past
      × ((m : R) → Contains past m → Contains rows m × Before last (key m)) × ((m : R) → Contains rows m → Before last (key m) → Contains past m)
  past_of last [] up = ([], no_pairs RowsBefore, λ m i. absurd (no_element m i), λ m i p. i)
  past_of last (x ∷ xs) up =
      let rest = past_of last xs (pairs_rest RowsBefore x xs up) in
      elim (cases_of Before order last (key x)) [
        | inl before ↦ (
          x ∷ rest.0,
          more_pairs RowsBefore x rest.0 (λ m i. pairs_head RowsBefore x m xs up (rest.2 m i).0) rest.1,
          λ m i. elim (head_or_rest x m rest.0 i) [
            | inl e ↦ (subst (Contains (x ∷ xs)) (sym e) (at_head x xs), subst (λ y. Before last (key y)) (sym e) before)
            | inr j ↦ (in_rest x m xs (rest.2 m j).0, (rest.2 m j).1)
          ],
          λ m i after. elim (head_or_rest x m xs i) [
            | inl e ↦ subst (Contains (x ∷ rest.0)) (sym e) (at_head x rest.0)
            | inr j ↦ in_rest x m rest.0 (rest.3 m j after)
          ],
        )
        | inr not ↦ (
          rest.0,
          rest.1,
          λ m i. (in_rest x m xs (rest.2 m i).0, (rest.2 m i).1),
          λ m i after. elim (head_or_rest x m xs i) [
            | inl e ↦ absurd (not (subst (λ y. Before last (key y)) e after))
            | inr j ↦ rest.3 m j after
          ],
        )
      ]

  module _ (IsRow : R → Type 0) where
    -- All rows, in their order.
    record AreAll (rows : List R) : Type 0 where
      pub ascends : Ascends Before key rows
      pub only : (row : R) → Contains rows row → IsRow row
      pub all : (row : R) → IsRow row → Contains rows row

    from_start : (rows : List R) → AreAll rows → IsRest Before key IsRow AtStart rows
    from_start rows are = record { ascends = are.ascends; only = λ row i. (are.only row i, tt); all = λ row is past. are.all row is }

    past_from : (rows : List R) → AreAll rows → (position : Position K) → (past : List R) × IsRest Before key IsRow position past
    past_from rows are AtStart = (rows, from_start rows are)
    past_from rows are (After last) =
        let q = past_of last rows are.ascends in
        (q.0, record { ascends = q.1; only = λ row i. (are.only row (q.2 row i).0, (q.2 row i).1); all = λ row is past. q.3 row (are.all row is) past })
    past_from rows are Lost = ([], record { ascends = no_pairs RowsBefore; only = λ row i. absurd (no_element row i); all = λ row is past. absurd past })

    -- A row for each path of the tree, in the order of these, and no others.
    pub record AreRows {N : Type 0} (t : Tree N) (s : N) (bound : ℕ) (row_of : List ℕ → R) : Type 0 where
      pub in_order : (l m : List ℕ) → IsMember t s bound l → IsMember t s bound m → Precedes l m → RowsBefore (row_of l) (row_of m)
      pub is_row : (l : List ℕ) → IsMember t s bound l → IsRow (row_of l)
      pub only : (row : R) → IsRow row → (l : List ℕ) × IsMember t s bound l × (row ≡ row_of l)

    are_all : {N : Type 0} (t : Tree N) (s : N) (bound : ℕ) (row_of : List ℕ → R) → AreRows t s bound row_of → AreAll (map row_of (all_from t bound s))
    are_all t s bound row_of are = record {
      ascends = pairs_mapped row_of Precedes RowsBefore (all_from t bound s) (λ l m i j. are.in_order l m (in_all t bound s l i) (in_all t bound s m j)) (ascends_all t bound s);
      only = λ row i. let q = in_map row_of row (all_from t bound s) i in subst IsRow (sym q.1) (are.is_row q.0 (in_all t bound s q.0 q.2));
      all = λ row is. let q = are.only row is in
          subst (Contains (map row_of (all_from t bound s))) (sym q.2) (map_in row_of q.0 (all_from t bound s) (all_in t bound s q.0 q.1));
    }

    -- From the start these are the rows of all paths.
    pub all_rest : {N : Type 0} (t : Tree N) (s : N) (bound : ℕ) (row_of : List ℕ → R) → AreRows t s bound row_of
        → IsRest Before key IsRow AtStart (map row_of (all_from t bound s))
    all_rest t s bound row_of are = from_start (map row_of (all_from t bound s)) (are_all t s bound row_of are)

    pub some_rest : {N : Type 0} (t : Tree N) (s : N) (bound : ℕ) (row_of : List ℕ → R) → AreRows t s bound row_of
        → (position : Position K) → (rows : List R) × IsRest Before key IsRow position rows
    some_rest t s bound row_of are = past_from (map row_of (all_from t bound s)) (are_all t s bound row_of are)
