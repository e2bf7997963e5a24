-- Paths in two rounds: their pairs, in their order.
use Rattle.std.proofs.Common.{◌≡◌, ℕ, ◌+◌, ◌-◌, ◌<◌, ◌≤◌, Bool, true, false, List, [], ◌∷◌, length, map, inl, inr, refl, sym, ap, subst, ◌∙◌, arith}
use Rattle.std.proofs.lemmas.Bool.Decides.{nat_tests}
use Rattle.std.specs.Prelude.{nat_lt, if◌then◌else◌}
use Rattle.mc_tree.specs.Tree.{Tree, landed, Allowed, Precedes, RoundNode, round_one, round_two, two_rounds, two_rounds_child, label, labels, in_both, pairs, Before, PairsPrecede}
use Rattle.mc_tree.specs.facts.Order.{not_same, paths_in_order, pairs_in_order}

-- ---- the order

-- What a test of a child's number says.
test_is : (w i : ℕ) (b : Bool) → nat_lt i w ≡ b → (i < w → b ≡ true) × (w ≤ i → b ≡ false)
test_is w i it e = grind arith

pub inside : (w i : ℕ) → i < w → nat_lt i w ≡ true
inside w i lt = (test_is w i (nat_lt i w) refl).0 lt

pub outside : (w i : ℕ) → w ≤ i → nat_lt i w ≡ false
outside w i le = (test_is w i (nat_lt i w) refl).1 le

module _ {N : Type 0} (t : Tree N) (next : N → N) where
  label_before : (p : RoundNode N) (i j : ℕ) → i < j → Before (label t next p i) (label t next p j)
  label_before it i j lt = grind arith

  -- The order of paths is that of their pairs.
  pub pairs_precede : (p : RoundNode N) (l m : List ℕ) → Precedes l m → PairsPrecede (labels t next p l) (labels t next p m)
  pairs_precede p [] [] h = h
  pairs_precede p [] (y ∷ ys) h = tt
  pairs_precede p (x ∷ xs) [] h = h
  pairs_precede p (x ∷ xs) (y ∷ ys) (inl lt) = inl (label_before p x y lt)
  pairs_precede p (x ∷ xs) (y ∷ ys) (inr h) =
      let same : labels t next (two_rounds_child t next p x) ys ≡ labels t next (two_rounds_child t next p y) ys = ap (λ z. labels t next (two_rounds_child t next p z) ys) h.0 in
      inr (ap (label t next p) h.0, subst (PairsPrecede (labels t next (two_rounds_child t next p x) xs)) same (pairs_precede (two_rounds_child t next p x) xs ys h.1))

  pub paths_precede : (p : RoundNode N) (l m : List ℕ) → PairsPrecede (labels t next p l) (labels t next p m) → Precedes l m
  paths_precede p l m h = grind (arith, paths_in_order, not_same, pairs_in_order, pairs_precede)

  -- ---- a child of a node of the first round

  pub child_first : (s : N) (i : ℕ) → i < t.width s → two_rounds_child t next (round_one s) i ≡ round_one (t.child s i)
  child_first s i lt = ap (λ b. if b then round_one (t.child s i) else round_two s (t.child (next s) (i - t.width s))) (inside (t.width s) i lt)

  pub child_second : (s : N) (i : ℕ) → t.width s ≤ i → two_rounds_child t next (round_one s) i ≡ round_two s (t.child (next s) (i - t.width s))
  child_second s i le = ap (λ b. if b then round_one (t.child s i) else round_two s (t.child (next s) (i - t.width s))) (outside (t.width s) i le)

  label_first : (s : N) (i : ℕ) → i < t.width s → label t next (round_one s) i ≡ (1, i)
  label_first s i lt = ap (λ b. if b then (1, i) else (2, i - t.width s)) (inside (t.width s) i lt)

  label_second : (s : N) (i : ℕ) → t.width s ≤ i → label t next (round_one s) i ≡ (2, i - t.width s)
  label_second s i le = ap (λ b. if b then (1, i) else (2, i - t.width s)) (outside (t.width s) i le)

  -- ---- a path in both rounds

  later_allowed : (began s : N) (later : List ℕ) → Allowed t s later → Allowed (two_rounds t next) (round_two began s) later
  later_allowed began s [] a = tt
  later_allowed began s (j ∷ later) a = (a.0, later_allowed began (t.child s j) later a.1)

  allowed_later : (began s : N) (later : List ℕ) → Allowed (two_rounds t next) (round_two began s) later → Allowed t s later
  allowed_later began s [] a = tt
  allowed_later began s (j ∷ later) a = (a.0, allowed_later began (t.child s j) later a.1)

  later_labels : (began s : N) (later : List ℕ) → labels t next (round_two began s) later ≡ map (λ j. (2, j)) later
  later_labels began s [] = refl
  later_labels began s (j ∷ later) = ap (λ (z : List (ℕ × ℕ)). (2, j) ∷ z) (later_labels began (t.child s j) later)

  pub later_lands : (began s : N) (later : List ℕ) → landed (two_rounds t next) (round_two began s) later ≡ round_two began (landed t s later)
  later_lands began s [] = refl
  later_lands began s (j ∷ later) = later_lands began (t.child s j) later

  offset : (w j : ℕ) → (w + j) - w ≡ j
  offset w j = omega arith

  -- The first child in the second round, by its number there.
  child_beyond : (s : N) (j : ℕ) → two_rounds_child t next (round_one s) (t.width s + j) ≡ round_two s (t.child (next s) j)
  child_beyond s j = child_second s (t.width s + j) (omega arith) ∙ ap (λ n. round_two s (t.child (next s) n)) (offset (t.width s) j)

  -- It is one of the tree, where each of the two is, from where its round begins.
  pub both_allowed : (s : N) (path later : List ℕ) → Allowed t s path → Allowed t (next (landed t s path)) later → Allowed (two_rounds t next) (round_one s) (in_both t next s path later)
  both_allowed s [] [] a b = tt
  both_allowed s [] (j ∷ later) a b = grind (arith, later_allowed, child_beyond)
  both_allowed s (i ∷ path) later a b =
      let rest = both_allowed (t.child s i) path later a.1 b in
      (omega (arith, a.0), subst (λ p. Allowed (two_rounds t next) p (in_both t next (t.child s i) path later)) (sym (child_first s i a.0)) rest)

  pub both_labels : (s : N) (path later : List ℕ) → Allowed t s path → labels t next (round_one s) (in_both t next s path later) ≡ pairs path later
  both_labels s [] [] a = refl
  both_labels s [] (j ∷ later) a = grind (arith, label_second, offset, child_beyond, later_labels)
  both_labels s (i ∷ path) later a =
      ap (λ (z : ℕ × ℕ). z ∷ labels t next (two_rounds_child t next (round_one s) i) (in_both t next (t.child s i) path later)) (label_first s i a.0)
      ∙ ap (λ p. (1, i) ∷ labels t next p (in_both t next (t.child s i) path later)) (child_first s i a.0)
      ∙ ap (λ (z : List (ℕ × ℕ)). (1, i) ∷ z) (both_labels (t.child s i) path later a.1)

  pub both_length : (s : N) (path later : List ℕ) → length (in_both t next s path later) ≡ length path + length later
  both_length s [] [] = refl
  both_length s [] (j ∷ later) = omega arith
  both_length s (i ∷ path) later = omega (arith, both_length (t.child s i) path later)

  -- Each path of the tree is such a one.
  pub record IsBoth (s : N) (whole : List ℕ) : Type 0 where
    pub path : List ℕ
    pub later : List ℕ
    pub path_allowed : Allowed t s path
    pub later_allowed : Allowed t (next (landed t s path)) later
    pub is : whole ≡ in_both t next s path later

  pub parts : (s : N) (whole : List ℕ) → Allowed (two_rounds t next) (round_one s) whole → IsBoth s whole
  parts s [] a = record { path = []; later = []; path_allowed = tt; later_allowed = tt; is = refl }
  parts s (i ∷ rest) a = by (nat_lt i (t.width s)) refl (λ c b. parts c rest b)
    where
      in_first : ((c : N) → Allowed (two_rounds t next) (round_one c) rest → IsBoth c rest) → i < t.width s → IsBoth s (i ∷ rest)
      in_first beyond lt =
          let b = beyond (t.child s i) (subst (λ p. Allowed (two_rounds t next) p rest) (child_first s i lt) a.1) in
          record { path = i ∷ b.path; later = b.later; path_allowed = (lt, b.path_allowed); later_allowed = b.later_allowed; is = ap (λ (z : List ℕ). i ∷ z) b.is }

      in_second : t.width s ≤ i → IsBoth s (i ∷ rest)
      in_second le =
          let b = allowed_later s (t.child (next s) (i - t.width s)) rest (subst (λ p. Allowed (two_rounds t next) p rest) (child_second s i le) a.1) in
          record { path = []; later = (i - t.width s) ∷ rest; path_allowed = tt; later_allowed = (omega (arith, a.0, le), b); is = ap (λ (n : ℕ). n ∷ rest) (omega (arith, le)) }

      by : (b : Bool) → nat_lt i (t.width s) ≡ b → ((c : N) → Allowed (two_rounds t next) (round_one c) rest → IsBoth c rest) → IsBoth s (i ∷ rest)
      by true e beyond = in_first beyond (grind (arith, nat_tests))
      by false e beyond = in_second (grind (arith, nat_tests))

  -- Where such a path lands: the node of the first round, and the one whose children are those of the second.
  abbrev pub first_of : RoundNode N → N
  first_of (round_one s) = s
  first_of (round_two began s) = began

  abbrev pub second_of : RoundNode N → N
  second_of (round_one s) = next s
  second_of (round_two began s) = s

  pub both_first : (s : N) (path later : List ℕ) → Allowed t s path → first_of (landed (two_rounds t next) (round_one s) (in_both t next s path later)) ≡ landed t s path
  both_first s [] [] a = refl
  both_first s [] (j ∷ later) a = ap (λ p. first_of (landed (two_rounds t next) p later)) (child_beyond s j) ∙ ap first_of (later_lands s (t.child (next s) j) later)
  both_first s (i ∷ path) later a =
      ap (λ p. first_of (landed (two_rounds t next) p (in_both t next (t.child s i) path later))) (child_first s i a.0) ∙ both_first (t.child s i) path later a.1

  pub both_second : (s : N) (path later : List ℕ) → Allowed t s path
      → second_of (landed (two_rounds t next) (round_one s) (in_both t next s path later)) ≡ landed t (next (landed t s path)) later
  both_second s [] [] a = refl
  both_second s [] (j ∷ later) a = ap (λ p. second_of (landed (two_rounds t next) p later)) (child_beyond s j) ∙ ap second_of (later_lands s (t.child (next s) j) later)
  both_second s (i ∷ path) later a =
      ap (λ p. second_of (landed (two_rounds t next) p (in_both t next (t.child s i) path later))) (child_first s i a.0) ∙ both_second (t.child s i) path later a.1
