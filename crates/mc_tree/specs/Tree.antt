-- A tree, the node at the end of a path, the paths within a bound and their order; the rows to come, and pages that are continued; the tree of two rounds.
use Rattle.std.specs.Prelude.{AllPairs, Bool, Contains, List, [], false, if◌then◌else◌, length, map, nat_lt, take, true, ℕ, ◌++◌, ◌+◌, ◌-◌, ◌<◌, ◌∷◌, ◌≡◌, ◌≤◌, ◌⊎◌}

-- A tree whose nodes have numbered children.

-- How many children a node has, and the child of a number. Of a greater number it says nothing.
pub record Tree (N : Type 0) : Type 0 where
  pub width : N → ℕ
  pub child : N → ℕ → N

-- The node at the end of a path.
abbrev pub landed : {N : Type 0} → Tree N → N → List ℕ → N
landed t s [] = s
landed t s (number ∷ path) = landed t (t.child s number) path

-- Each number of the path is that of a child.
abbrev pub Allowed : {N : Type 0} → Tree N → N → List ℕ → Type 0
Allowed t s [] = Unit {0}
Allowed t s (number ∷ path) = (number < t.width s) × Allowed t (t.child s number) path

-- The paths of at most so many steps.
abbrev pub IsMember : {N : Type 0} → Tree N → N → ℕ → List ℕ → Type 0
IsMember t s bound path = (length path ≤ bound) × Allowed t s path

-- The labels along a path, where each child of a node has one.
abbrev pub labelled : {N L : Type 0} → Tree N → (N → ℕ → L) → N → List ℕ → List L
labelled t label s [] = []
labelled t label s (number ∷ path) = label s number ∷ labelled t label (t.child s number) path

-- The order of paths, and which of them comes next.

-- A proper prefix of a list comes before it, else the first element that differs decides.
abbrev pub PrecedesIn : {X : Type 0} → (X → X → Type 0) → List X → List X → Type 0
PrecedesIn Less [] [] = ⊥
PrecedesIn Less [] (y ∷ ys) = Unit {0}
PrecedesIn Less (x ∷ xs) [] = ⊥
PrecedesIn Less (x ∷ xs) (y ∷ ys) = Less x y ⊎ ((x ≡ y) × PrecedesIn Less xs ys)

-- So it is of paths.
abbrev pub Precedes : List ℕ → List ℕ → Type 0
Precedes = PrecedesIn (λ x y. x < y)

-- After a path and after all that go on from it.
abbrev pub Beyond : List ℕ → List ℕ → Type 0
Beyond [] m = ⊥
Beyond (x ∷ xs) [] = ⊥
Beyond (x ∷ xs) (y ∷ ys) = (x < y) ⊎ ((x ≡ y) × Beyond xs ys)

-- Where one has come to among elements in their order: before the first; or at one of them; or one has lost the way, and nothing
-- is to come.
pub data Position (K : Type 0) : Type 0 where
  AtStart : Position K
  After : (last : K) → Position K
  Lost : Position K

module _ {K : Type 0} (Before : K → K → Type 0) where
  abbrev pub IsPastIn : Position K → K → Type 0
  IsPastIn AtStart x = Unit {0}
  IsPastIn (After last) x = Before last x
  IsPastIn Lost x = ⊥

  -- Of the listed elements, the first past the position.
  pub record IsNextIn (Listed : K → Type 0) (position : Position K) (next : K) : Type 0 where
    pub listed : Listed next
    pub past : IsPastIn position next
    pub none_between : (m : K) → Listed m → IsPastIn position m → Before m next → ⊥

  -- None of them is past the position.
  abbrev pub IsOverIn : (K → Type 0) → Position K → Type 0
  IsOverIn Listed position = (m : K) → Listed m → IsPastIn position m → ⊥

-- The same of paths.
abbrev pub IsPast : Position (List ℕ) → List ℕ → Type 0
IsPast = IsPastIn Precedes

abbrev pub IsNext : (List ℕ → Type 0) → Position (List ℕ) → List ℕ → Type 0
IsNext = IsNextIn Precedes

abbrev pub IsOver : (List ℕ → Type 0) → Position (List ℕ) → Type 0
IsOver = IsOverIn Precedes

-- The rows to come: a sorted set, without a word of how they are found. What a row is, is left open: `key` is what one is found by,
-- `Before` is the order of these, and `IsRow` says which rows there are.

module _ {K R : Type 0} (Before : K → K → Type 0) (key : R → K) where
  -- Each row comes before all that stand after it.
  abbrev pub Ascends : List R → Type 0
  Ascends rows = AllPairs (λ x y. Before (key x) (key y)) rows

  -- The rows past the position, each of them and no others, in their order.
  pub record IsRest (IsRow : R → Type 0) (position : Position K) (rows : List R) : Type 0 where
    pub ascends : Ascends rows
    pub only : (row : R) → Contains rows row → IsRow row × IsPastIn Before position (key row)
    pub all : (row : R) → IsRow row → IsPastIn Before position (key row) → Contains rows row

-- Pages of rows that are continued one after another.

-- What the last row is found by, or that one where there is no row.
abbrev pub last_key : {K R : Type 0} → (R → K) → K → List R → K
last_key key k [] = k
last_key key k (row ∷ rows) = last_key key (key row) rows

module _ {K R : Type 0} (Before : K → K → Type 0) (key : R → K) (no_key : K) (IsRow : R → Type 0) where
  -- The rows of a page of at most so many of the rows to come.
  pub record IsPage (position : Position K) (limit : ℕ) (page : List R) : Type 0 where
    pub all : List R
    pub rest : IsRest Before key IsRow position all
    pub first : page ≡ take limit all

  -- The rows of the pages of a chain, joined. The first page begins at the position, and each further one after the last row of
  -- the page before it. A page that is not full ends the chain.
  abbrev pub Chain : Position K → List ℕ → Bool → List R → Type 0
  Chain position [] ended rows = (rows ≡ []) × (ended ≡ false)
  Chain position (limit ∷ limits) ended rows =
      (page : List R) × (more : List R) × IsPage position limit page × (rows ≡ page ++ more)
      × (((length page ≡ limit) × Chain (After (last_key key no_key page)) limits ended more)
      ⊎ ((length page < limit) × (limits ≡ []) × (ended ≡ true) × (more ≡ [])))

-- Pages join up: the rows of a chain are a prefix of the rows to come where it began, and all of them where it ended.
pub record JoinUp {R : Type 0} (whole rows : List R) (ended : Bool) : Type 0 where
  pub prefix : (n : ℕ) × (rows ≡ take n whole)
  pub all : ended ≡ true → rows ≡ whole

-- The tree of two rounds over a tree.

-- A node of the first round; or one of the second, with the node of the first after which its round began.
pub data RoundNode (N : Type 0) : Type 0 where
  round_one : (s : N) → RoundNode N
  round_two : (began s : N) → RoundNode N

module _ {N : Type 0} (t : Tree N) (next : N → N) where
  -- The children of a node of the first round are those of its round, and then those of the node that `next` gives, where the
  -- second round after it begins. Those of a node of the second round are of the second round.
  abbrev pub two_rounds_width : RoundNode N → ℕ
  two_rounds_width (round_one s) = t.width s + t.width (next s)
  two_rounds_width (round_two began s) = t.width s

  abbrev pub two_rounds_child : RoundNode N → ℕ → RoundNode N
  two_rounds_child (round_one s) i =
      if nat_lt i (t.width s) then round_one (t.child s i) else round_two s (t.child (next s) (i - t.width s))
  two_rounds_child (round_two began s) i = round_two began (t.child s i)

  abbrev pub two_rounds : Tree (RoundNode N)
  two_rounds = record { width = two_rounds_width; child = two_rounds_child }

  -- A child by its round and its number there.
  abbrev pub label : RoundNode N → ℕ → ℕ × ℕ
  label (round_one s) i = if nat_lt i (t.width s) then (1, i) else (2, i - t.width s)
  label (round_two began s) i = (2, i)

  abbrev pub labels : RoundNode N → List ℕ → List (ℕ × ℕ)
  labels = labelled two_rounds label

  -- The path that goes along one path in the first round, and along another in the second.
  abbrev pub in_both : N → List ℕ → List ℕ → List ℕ
  in_both s [] [] = []
  in_both s [] (j ∷ later) = (t.width s + j) ∷ later
  in_both s (i ∷ path) later = i ∷ in_both (t.child s i) path later

-- The numbers of two rounds, each with its round.
abbrev pub pairs : List ℕ → List ℕ → List (ℕ × ℕ)
pairs path later = map (λ i. (1, i)) path ++ map (λ j. (2, j)) later

-- By round, and then by number.
abbrev pub Before : ℕ × ℕ → ℕ × ℕ → Type 0
Before x y = (x.0 < y.0) ⊎ ((x.0 ≡ y.0) × (x.1 < y.1))

-- Lists of pairs in their order.
abbrev pub PairsPrecede : List (ℕ × ℕ) → List (ℕ × ℕ) → Type 0
PairsPrecede = PrecedesIn Before
