-- The order of paths, the next path, and what is past one.
use Rattle.std.proofs.Common.{List, [], arith, inl, inr, length, length-append, refl, subst, suc, sym, take, zero, ℕ, ◌++◌, ◌+◌, ◌<◌, ◌∙◌, ◌∷◌, ◌≡◌, ◌≤◌, ◌⊎◌}
use Rattle.mc_tree.specs.Tree.{After, Allowed, Before, Beyond, IsMember, IsNext, IsOver, IsPastIn, PairsPrecede, Position, Precedes, PrecedesIn, Tree, landed}

-- The order of lists is one, where that of their elements is.

-- An order, in which of any two it is known whether the one comes before the other.
pub record IsOrder {K : Type 0} (Before : K → K → Type 0) : Type 0 where
  pub asym : (x y : K) → Before x y → Before y x → ⊥
  pub trans : (x y z : K) → Before x y → Before y z → Before x z
  pub total : (x y : K) → Before x y ⊎ (x ≡ y) ⊎ Before y x

module _ {K : Type 0} (Before : K → K → Type 0) (order : IsOrder Before) where
  pub never_itself : (x : K) → Before x x → ⊥
  never_itself x p = order.asym x x p p

  pub not_same : (x y : K) → x ≡ y → Before x y → ⊥
  not_same x y e p = never_itself x (subst (Before x) (sym e) p)

  pub cases_of : (x y : K) → Before x y ⊎ (Before x y → ⊥)
  cases_of x y = grind arith

module _ {X : Type 0} (Less : X → X → Type 0) (order : IsOrder Less) where
  lists_asym : (x y : List X) → PrecedesIn Less x y → PrecedesIn Less y x → ⊥
  lists_asym [] [] p q = p
  lists_asym [] (y ∷ ys) p q = q
  lists_asym (x ∷ xs) [] p q = p
  lists_asym (x ∷ xs) (y ∷ ys) (inl p) (inl q) = order.asym x y p q
  lists_asym (x ∷ xs) (y ∷ ys) (inl p) (inr q) = not_same Less order x y (sym q.0) p
  lists_asym (x ∷ xs) (y ∷ ys) (inr p) (inl q) = not_same Less order y x (sym p.0) q
  lists_asym (x ∷ xs) (y ∷ ys) (inr p) (inr q) = lists_asym xs ys p.1 q.1

  lists_trans : (x y z : List X) → PrecedesIn Less x y → PrecedesIn Less y z → PrecedesIn Less x z
  lists_trans [] [] z p q = absurd p
  lists_trans [] (y ∷ ys) [] p q = absurd q
  lists_trans [] (y ∷ ys) (z ∷ zs) p q = tt
  lists_trans (x ∷ xs) [] z p q = absurd p
  lists_trans (x ∷ xs) (y ∷ ys) [] p q = absurd q
  lists_trans (x ∷ xs) (y ∷ ys) (z ∷ zs) (inl p) (inl q) = inl (order.trans x y z p q)
  lists_trans (x ∷ xs) (y ∷ ys) (z ∷ zs) (inl p) (inr q) = inl (subst (Less x) q.0 p)
  lists_trans (x ∷ xs) (y ∷ ys) (z ∷ zs) (inr p) (inl q) = inl (subst (λ w. Less w z) (sym p.0) q)
  lists_trans (x ∷ xs) (y ∷ ys) (z ∷ zs) (inr p) (inr q) = inr (p.0 ∙ q.0, lists_trans xs ys zs p.1 q.1)

  lists_total : (x y : List X) → PrecedesIn Less x y ⊎ (x ≡ y) ⊎ PrecedesIn Less y x
  lists_total [] [] = inr (inl refl)
  lists_total [] (y ∷ ys) = inl tt
  lists_total (x ∷ xs) [] = inr (inr tt)
  lists_total (x ∷ xs) (y ∷ ys) =
      elim (order.total x y) [
        | inl p ↦ inl (inl p)
        | inr (inl e) ↦ elim (lists_total xs ys) [
          | inl p ↦ inl (inr (e, p))
          | inr (inl same) ↦ inr (inl cc)
          | inr (inr p) ↦ inr (inr (inr (sym e, p)))
        ]
        | inr (inr p) ↦ inr (inr (inl p))
      ]

  pub lists_in_order : IsOrder (PrecedesIn Less)
  lists_in_order = record { asym = lists_asym; trans = lists_trans; total = lists_total }

-- ---- numbers, and paths

numbers_in_order : IsOrder (λ (x : ℕ) (y : ℕ). x < y)
numbers_in_order = grind arith

pub paths_in_order : IsOrder Precedes
paths_in_order = lists_in_order (λ (x : ℕ) (y : ℕ). x < y) numbers_in_order

-- ---- pairs, and their lists

before_asym : (x y : ℕ × ℕ) → Before x y → Before y x → ⊥
before_asym x y it one = grind arith

before_trans : (x y z : ℕ × ℕ) → Before x y → Before y z → Before x z
before_trans x y z it one = grind arith

before_total : (x y : ℕ × ℕ) → Before x y ⊎ (x ≡ y) ⊎ Before y x
before_total (round, index) (round', index') = grind arith

pub pairs_in_order : IsOrder PairsPrecede
pairs_in_order = lists_in_order Before (record { asym = before_asym; trans = before_trans; total = before_total })

-- The next path in a tree: down to a first child, or up and on to a next one.

-- ---- paths alone

pub beyond_after : (l m : List ℕ) → Beyond l m → Precedes l m
beyond_after [] m b = absurd b
beyond_after (x ∷ xs) [] b = absurd b
beyond_after (x ∷ xs) (y ∷ ys) (inl lt) = inl lt
beyond_after (x ∷ xs) (y ∷ ys) (inr b) = inr (b.0, beyond_after xs ys b.1)

-- The next number at a position of a path lies beyond it, and nothing lies between.
beyond_later : (l : List ℕ) (number : ℕ) (more : List ℕ) → Beyond (l ++ number ∷ more) (l ++ (number + 1) ∷ [])
beyond_later [] number more = inl (omega arith)
beyond_later (x ∷ xs) number more = inr (refl, beyond_later xs number more)

none_between_later : (l : List ℕ) (number : ℕ) (m : List ℕ) → Beyond (l ++ number ∷ []) m → Precedes m (l ++ (number + 1) ∷ []) → ⊥
none_between_later [] number [] b p = b
none_between_later [] number (y ∷ ys) (inl lt) (inl lt') = omega arith
none_between_later [] number (y ∷ []) (inl lt) (inr p) = p.1
none_between_later [] number (y ∷ z ∷ zs) (inl lt) (inr p) = p.1
none_between_later [] number (y ∷ ys) (inr b) p = b.1
none_between_later (x ∷ xs) number [] b p = b
none_between_later (x ∷ xs) number (y ∷ ys) (inl lt) (inl lt') = omega arith
none_between_later (x ∷ xs) number (y ∷ ys) (inl lt) (inr p) = omega (arith, p.0)
none_between_later (x ∷ xs) number (y ∷ ys) (inr b) (inl lt') = omega (arith, b.0)
none_between_later (x ∷ xs) number (y ∷ ys) (inr b) (inr p) = none_between_later xs number ys b.1 p.1

after_prefix : (l : List ℕ) → Precedes l (l ++ 0 ∷ [])
after_prefix [] = tt
after_prefix (x ∷ xs) = inr (refl, after_prefix xs)

none_between_prefix : (l m : List ℕ) → Precedes l m → Precedes m (l ++ 0 ∷ []) → ⊥
none_between_prefix [] [] p q = p
none_between_prefix [] (y ∷ ys) p (inl lt) = omega arith
none_between_prefix [] (y ∷ []) p (inr q) = q.1
none_between_prefix [] (y ∷ z ∷ zs) p (inr q) = q.1
none_between_prefix (x ∷ xs) [] p q = p
none_between_prefix (x ∷ xs) (y ∷ ys) (inl lt) (inl lt') = omega arith
none_between_prefix (x ∷ xs) (y ∷ ys) (inl lt) (inr q) = omega (arith, q.0)
none_between_prefix (x ∷ xs) (y ∷ ys) (inr p) (inl lt') = omega (arith, p.0)
none_between_prefix (x ∷ xs) (y ∷ ys) (inr p) (inr q) = none_between_prefix xs ys p.1 q.1

-- Before the empty path there is nothing.
pub none_before_root : (m : List ℕ) → Precedes m [] → ⊥
none_before_root [] p = p
none_before_root (x ∷ xs) p = p

module _ {N : Type 0} (t : Tree N) where
  -- ---- paths of a tree

  pub allowed-push : (s : N) (l : List ℕ) (number : ℕ) → Allowed t s l → number < t.width (landed t s l) → Allowed t s (l ++ number ∷ [])
  allowed-push s [] number a lt = (lt, tt)
  allowed-push s (x ∷ xs) number a lt = (a.0, allowed-push (t.child s x) xs number a.1 lt)

  pub allowed-last : (s : N) (l : List ℕ) (number : ℕ) → Allowed t s (l ++ number ∷ []) → number < t.width (landed t s l)
  allowed-last s [] number a = a.0
  allowed-last s (x ∷ xs) number a = allowed-last (t.child s x) xs number a.1

  pub landed-push : (s : N) (l : List ℕ) (number : ℕ) → landed t s (l ++ number ∷ []) ≡ t.child (landed t s l) number
  landed-push s [] number = refl
  landed-push s (x ∷ xs) number = landed-push (t.child s x) xs number

  pub allowed_prefix : (s : N) (l : List ℕ) (n : ℕ) → Allowed t s l → Allowed t s (take n l)
  allowed_prefix s l zero a = tt
  allowed_prefix s [] (suc n) a = tt
  allowed_prefix s (x ∷ xs) (suc n) a = (a.0, allowed_prefix (t.child s x) xs n a.1)

  allowed_at : (s : N) (x y : ℕ) (ys : List ℕ) → x ≡ y → Allowed t (t.child s y) ys → Allowed t (t.child s x) ys
  allowed_at s x y ys e a = subst (λ z. Allowed t (t.child s z) ys) (sym e) a

  -- ---- down

  -- No path goes on from that one.
  abbrev pub HasNoChild : N → ℕ → List ℕ → Type 0
  HasNoChild s bound l = (number : ℕ) → IsMember t s bound (l ++ number ∷ []) → ⊥

  -- The next path after one is that with a 0 after it, where there is such a one.
  pub next_below : (s : N) (bound : ℕ) (l : List ℕ) → IsMember t s bound (l ++ 0 ∷ []) → IsNext (IsMember t s bound) (After l) (l ++ 0 ∷ [])
  next_below s bound l h = record {
    listed = h;
    past = after_prefix l;
    none_between = λ m _ after before. none_between_prefix l m after before;
  }

  -- ---- up and on

  -- The next path beyond one, and that there is none.
  pub record IsNextBeyond (s : N) (l next : List ℕ) : Type 0 where
    pub shorter : length next ≤ length l
    pub allowed : Allowed t s next
    pub beyond : Beyond l next
    pub none_between : (m : List ℕ) → Allowed t s m → Beyond l m → Precedes m next → ⊥

  abbrev pub NoneBeyond : N → List ℕ → Type 0
  NoneBeyond s l = (m : List ℕ) → Allowed t s m → Beyond l m → ⊥

  -- Each step of a path is to the last child.
  abbrev pub AllLast : N → List ℕ → Type 0
  AllLast s [] = Unit {0}
  AllLast s (x ∷ xs) = (t.width s ≤ x + 1) × AllLast (t.child s x) xs

  -- Beyond such a path there is nothing.
  pub none_beyond : (s : N) (l : List ℕ) → AllLast s l → NoneBeyond s l
  none_beyond s [] last m a b = b
  none_beyond s (x ∷ xs) last [] a b = b
  none_beyond s (x ∷ xs) last (y ∷ ys) a (inl lt) = omega (arith, last.0, a.0)
  none_beyond s (x ∷ xs) last (y ∷ ys) a (inr b) = none_beyond (t.child s x) xs last.1 ys (allowed_at s x y ys b.0 a.1) b.1

  -- Such an end of a path can be left away.
  beyond_cut : (s : N) (l : List ℕ) (number : ℕ) (xs m : List ℕ) → AllLast (t.child (landed t s l) number) xs → Allowed t s m
      → Beyond (l ++ number ∷ xs) m → Beyond (l ++ number ∷ []) m
  beyond_cut s [] number xs [] last a b = absurd b
  beyond_cut s [] number xs (y ∷ ys) last a (inl lt) = inl lt
  beyond_cut s [] number xs (y ∷ ys) last a (inr b) = absurd (none_beyond (t.child s number) xs last ys (allowed_at s number y ys b.0 a.1) b.1)
  beyond_cut s (x ∷ l) number xs [] last a b = absurd b
  beyond_cut s (x ∷ l) number xs (y ∷ ys) last a (inl lt) = inl lt
  beyond_cut s (x ∷ l) number xs (y ∷ ys) last a (inr b) =
      inr (b.0, beyond_cut (t.child s x) l number xs ys last (allowed_at s x y ys b.0 a.1) b.1)

  allowed_before : (s : N) (l m : List ℕ) → Allowed t s (l ++ m) → Allowed t s l
  allowed_before s [] m a = tt
  allowed_before s (x ∷ xs) m a = (a.0, allowed_before (t.child s x) xs m a.1)

  -- Up past steps to last children, and one child on.
  pub next_beyond : (s : N) (l : List ℕ) (number : ℕ) (xs : List ℕ) → Allowed t s (l ++ number ∷ xs) → AllLast (t.child (landed t s l) number) xs
      → number + 1 < t.width (landed t s l) → IsNextBeyond s (l ++ number ∷ xs) (l ++ (number + 1) ∷ [])
  next_beyond s l number xs a last lt = record {
    shorter = omega (arith, length-append l (number ∷ xs), length-append l ((number + 1) ∷ []));
    allowed = allowed-push s l (number + 1) (allowed_before s l (number ∷ xs) a) lt;
    beyond = beyond_later l number xs;
    none_between = λ m am b p. none_between_later l number m (beyond_cut s l number xs m last am b) p;
  }

  -- Where there is no first child there is none.
  pub childless : (s : N) (bound : ℕ) (l : List ℕ) → (IsMember t s bound (l ++ 0 ∷ []) → ⊥) → HasNoChild s bound l
  childless s bound l none number m = grind (arith, length-append, allowed-push, allowed_before, allowed-last)

  -- ---- both

  -- What comes after a path goes on from it or lies beyond it.
  on_or_beyond : (s : N) (l m : List ℕ) → Allowed t s m → Precedes l m →
      ((number : ℕ) × Allowed t s (l ++ number ∷ []) × (length l < length m)) ⊎ Beyond l m
  on_or_beyond s [] [] a p = absurd p
  on_or_beyond s [] (y ∷ ys) a p = inl (y, (a.0, tt), omega arith)
  on_or_beyond s (x ∷ xs) [] a p = absurd p
  on_or_beyond s (x ∷ xs) (y ∷ ys) a (inl lt) = inr (inl lt)
  on_or_beyond s (x ∷ xs) (y ∷ ys) a (inr p) =
      elim (on_or_beyond (t.child s x) xs ys (allowed_at s x y ys p.0 a.1) p.1) [
        | inl q ↦ inl (q.0, (subst (λ z. z < t.width s) (sym p.0) a.0, q.1), omega (arith, q.2))
        | inr q ↦ inr (inr (p.0, q))
      ]

  beyond_childless : (s : N) (bound : ℕ) (l m : List ℕ) → HasNoChild s bound l → IsMember t s bound m → Precedes l m → Beyond l m
  beyond_childless s bound l m none mem p = grind (arith, on_or_beyond, length-append)

  pub next_above : (s : N) (bound : ℕ) (l next : List ℕ) → length l ≤ bound → HasNoChild s bound l → IsNextBeyond s l next → IsNext (IsMember t s bound) (After l) next
  next_above s bound l next at_most none n = record {
    listed = (omega (arith, n.shorter), n.allowed);
    past = beyond_after l next n.beyond;
    none_between = λ m mem p q. n.none_between m mem.1 (beyond_childless s bound l m none mem p) q;
  }

  pub none_above : (s : N) (bound : ℕ) (l : List ℕ) → HasNoChild s bound l → NoneBeyond s l → IsOver (IsMember t s bound) (After l)
  none_above s bound l none nb = λ m mem p. nb m mem.1 (beyond_childless s bound l m none mem p)

  -- ---- after the last child of a node whose children have none

  beyond_more : (l m : List ℕ) (number : ℕ) → Beyond l m → Beyond (l ++ number ∷ []) m
  beyond_more [] m number b = absurd b
  beyond_more (x ∷ xs) [] number b = absurd b
  beyond_more (x ∷ xs) (y ∷ ys) number (inl lt) = inl lt
  beyond_more (x ∷ xs) (y ∷ ys) number (inr b) = inr (b.0, beyond_more xs ys number b.1)

  pub beyond_last : (s : N) (l m : List ℕ) (number : ℕ) → t.width (landed t s l) ≤ number + 1 → Allowed t s m → Beyond (l ++ number ∷ []) m → Beyond l m
  beyond_last s [] [] number last a b = b
  beyond_last s [] (y ∷ ys) number last a (inl lt) = omega (arith, last, a.0)
  beyond_last s [] (y ∷ ys) number last a (inr b) = b.1
  beyond_last s (x ∷ xs) [] number last a b = b
  beyond_last s (x ∷ xs) (y ∷ ys) number last a (inl lt) = inl lt
  beyond_last s (x ∷ xs) (y ∷ ys) number last a (inr b) =
      inr (b.0, beyond_last (t.child s x) xs ys number last (allowed_at s x y ys b.0 a.1) b.1)

  module _ (s : N) (bound : ℕ) (l : List ℕ) (number : ℕ) (deep : length l + 1 ≡ bound) where
    full : HasNoChild s bound (l ++ number ∷ [])
    full more m = omega (arith, deep, m.0, length-append (l ++ number ∷ []) (more ∷ []), length-append l (number ∷ []))

    at_most : length (l ++ number ∷ []) ≤ bound
    at_most = omega (arith, deep, length-append l (number ∷ []))

    -- The next child of that node.
    pub next_after : Allowed t s (l ++ number ∷ []) → number + 1 < t.width (landed t s l) → IsNext (IsMember t s bound) (After (l ++ number ∷ [])) (l ++ (number + 1) ∷ [])
    next_after a lt = next_above s bound (l ++ number ∷ []) (l ++ (number + 1) ∷ []) at_most full (next_beyond s l number [] a tt lt)

    -- After its last child what is beyond the node.
    pub next_after_last : (next : List ℕ) → t.width (landed t s l) ≤ number + 1 → IsNextBeyond s l next → IsNext (IsMember t s bound) (After (l ++ number ∷ [])) next
    next_after_last next last n = next_above s bound (l ++ number ∷ []) next at_most full (record {
      shorter = omega (arith, n.shorter, length-append l (number ∷ []));
      allowed = n.allowed;
      beyond = beyond_more l next number n.beyond;
      none_between = λ m a b p. n.none_between m a (beyond_last s l m number last a b) p;
    })

    pub none_after_last : t.width (landed t s l) ≤ number + 1 → NoneBeyond s l → IsOver (IsMember t s bound) (After (l ++ number ∷ []))
    none_after_last last nb = none_above s bound (l ++ number ∷ []) full (λ m a b. nb m a (beyond_last s l m number last a b))

-- The children of a node, one after another, past what lies below each.
module _ {N : Type 0} (t : Tree N) (s : N) (l : List ℕ) where
  -- One has come to a path that begins with l: to l, or to one below a child, past whose end nothing lies below that child.
  abbrev pub HasPassed : ℕ → List ℕ → Type 0
  HasPassed zero path = path ≡ l
  HasPassed (suc number) path =
      (more : List ℕ) × (path ≡ l ++ number ∷ more) × ((m : List ℕ) → Allowed t s m → Beyond path m → Beyond (l ++ number ∷ []) m)

  -- What is beyond it then is the next child, where there is one.
  pub next_child : (number : ℕ) (path next : List ℕ) → HasPassed (suc number) path → Allowed t s (l ++ (number + 1) ∷ [])
      → IsNextBeyond t s path next → next ≡ l ++ (number + 1) ∷ []
  next_child number path next passed allowed n = elim (paths_in_order.total next (l ++ (number + 1) ∷ [])) [
    | inl before ↦ absurd (none_between_later l number next (passed.2 next n.allowed n.beyond) before)
    | inr (inl same) ↦ same
    | inr (inr before) ↦ absurd (n.none_between (l ++ (number + 1) ∷ []) allowed (subst (λ p. Beyond p (l ++ (number + 1) ∷ [])) (sym passed.1) (beyond_later l number passed.0)) before)
  ]

  pub some_child : (number : ℕ) (path : List ℕ) → HasPassed (suc number) path → Allowed t s (l ++ (number + 1) ∷ []) → NoneBeyond t s path → ⊥
  some_child number path passed allowed none = none (l ++ (number + 1) ∷ []) allowed (subst (λ p. Beyond p (l ++ (number + 1) ∷ [])) (sym passed.1) (beyond_later l number passed.0))

  -- Past the last child nothing lies below the node.
  pub passed_all : (path m : List ℕ) → HasPassed (t.width (landed t s l)) path → Allowed t s m → Beyond path m → Beyond l m
  passed_all path m passed allowed beyond = by (t.width (landed t s l)) refl passed
    where
      by : (n : ℕ) → t.width (landed t s l) ≡ n → HasPassed n path → Beyond l m
      by zero is at = subst (λ p. Beyond p m) at beyond
      by (suc number) is at = beyond_last t s l m number (omega (arith, is)) allowed (at.2 m allowed beyond)

-- What is past a position, and what is next there.

pub past_on : {K : Type 0} (Before : K → K → Type 0) → IsOrder Before → (p : Position K) (l m : K) → IsPastIn Before p l → Before l m → IsPastIn Before p m
past_on it order one l m p q = grind arith
