-- What the nodes of a tree come to together, each by a weight of its own. What a weight is, is left open.
use Rattle.std.specs.Prelude.{List, [], suc, zero, ℕ, ◌++◌, ◌+◌, ◌-◌, ◌<◌, ◌∷◌, ◌≡◌, ◌≤◌}
use Rattle.mc_tree.specs.Tree.{Tree, landed}

-- Weights: none, two one after another, the one of paths that have a number in front, and of paths whose first number is lowered.
pub record Weighing (M : Type 0) : Type 0 where
  pub none : M
  pub merged : M → M → M
  pub prefixed : ℕ → M → M
  pub first_lowered : ℕ → M → M

module _ {M : Type 0} (w : Weighing M) where
  -- It does not matter how they are put together.
  pub record IsWeighing : Type 0 where
    pub left : (a : M) → w.merged w.none a ≡ a
    pub right : (a : M) → w.merged a w.none ≡ a
    pub joined : (a b c : M) → w.merged (w.merged a b) c ≡ w.merged a (w.merged b c)
    pub prefixed_none : (i : ℕ) → w.prefixed i w.none ≡ w.none
    pub prefixed_merged : (i : ℕ) (a b : M) → w.prefixed i (w.merged a b) ≡ w.merged (w.prefixed i a) (w.prefixed i b)
    pub lowered_none : (j : ℕ) → w.first_lowered j w.none ≡ w.none
    pub lowered_merged : (j : ℕ) (a b : M) → w.first_lowered j (w.merged a b) ≡ w.merged (w.first_lowered j a) (w.first_lowered j b)
    pub lowered_prefixed : (j i : ℕ) (a : M) → w.first_lowered j (w.prefixed (j + i) a) ≡ w.prefixed i a

  -- The weights of so many numbers from one on, each after its number.
  abbrev pub from : (ℕ → M) → ℕ → ℕ → M
  from f zero i = w.none
  from f (suc n) i = w.merged (w.prefixed i (f i)) (from f n (i + 1))

  -- The weights of a list.
  abbrev pub total : {R : Type 0} → (R → M) → List R → M
  total one [] = w.none
  total one (row ∷ rows) = w.merged (one row) (total one rows)

  -- The weight of a node, and of all that are at most so many steps below it.
  abbrev pub weight : {N : Type 0} → Tree N → (N → M) → ℕ → N → M
  weight t own zero s = own s
  weight t own (suc k) s = w.merged (own s) (from (λ i. weight t own k (t.child s i)) (t.width s) 0)

  -- What is below a node whose children from m on are the other one's from j + m on, and the ones before lie there too: by the
  -- weights of the other one's children, of which it has so many.
  abbrev pub shared_below : (ℕ → M) → ℕ → ℕ → ℕ → (ℕ → ℕ) → M
  shared_below under width j m index =
      w.merged (from (λ i. under (index i)) m 0) (w.first_lowered j (from under (width - (j + m)) (j + m)))

-- The tree of the paths from a node.
abbrev pub path_tree : {N : Type 0} → Tree N → N → Tree (List ℕ)
path_tree t root = record { width = λ l. t.width (landed t root l); child = λ l i. l ++ i ∷ [] }

module _ {M N : Type 0} (w : Weighing M) (t : Tree N) (own : N → M) where
  -- Two nodes weigh the same, with whatever number of steps below them.
  abbrev pub WeighAlike : N → N → Type 0
  WeighAlike x y = (k : ℕ) → weight w t own k x ≡ weight w t own k y

  -- The children of a node u weigh what children of p do: from number m on those j numbers further, and each before where it is
  -- placed.
  pub record IsShared (p u : N) (j m : ℕ) (index : ℕ → ℕ) : Type 0 where
    pub width : t.width u + j ≡ t.width p
    pub at_most : m ≤ t.width u
    pub within : (i : ℕ) → i < m → index i < t.width p
    pub early : (i : ℕ) → i < m → WeighAlike (t.child u i) (t.child p (index i))
    pub late : (i : ℕ) → m ≤ i → i < t.width u → WeighAlike (t.child u i) (t.child p (j + i))

-- Two nodes with as many children, each of them its own first child, and their other children are the same.
pub record AreTwins {N : Type 0} (t : Tree N) (x y : N) : Type 0 where
  pub width : t.width x ≡ t.width y
  pub one : t.child x 0 ≡ x
  pub other : t.child y 0 ≡ y
  pub later : (i : ℕ) → t.child x (suc i) ≡ t.child y (suc i)
