-- What comes before a path, and before a key.
use Rattle.std.specs.Prelude.{Bool, List, None, Option, Some, [], false, true, ℕ, ◌++◌, ◌≡◌}
use Rattle.mc_boot.specs.Plan.{PowerOn}
use Rattle.mc_explore.specs.{Subject.{Subject}, inner.BootRows.{tree_in}, inner.BootTree.{root_of}, inner.Exploring.{Edge, key_along}}
use Rattle.mc_tree.specs.{Tree.{After, AtStart, IsMember, IsNext, Position}, facts.Order.{AllLast, HasNoChild}}
use Rattle.mc_walk.specs.{TreeModel.{TreeModel}, Walks.{IsPath, IsSame, Walked, node_at}}

module _ {B N A T : Type 0} (k : TreeModel N A T) where
  -- From its path a walk went on by last children alone, to a path from which none goes on.
  pub record GoesToLast (old new : Walked B) : Type 0 where
    pub more : List ℕ
    pub path_is : new.path ≡ old.path ++ more
    pub last : AllLast k.tree (node_at k old) more
    pub none : HasNoChild k.tree k.root old.bound new.path
    pub listed : IsPath k old new.path
    pub same : IsSame old new
    pub stands : new.stands ≡ true

  -- It went to the path before that one, or that is the first.
  abbrev pub GoesBefore : List ℕ → Walked B → Bool → Walked B → Type 0
  GoesBefore path old true new = IsNext (IsPath k old) (After new.path) path × IsPath k old new.path × IsSame old new × (new.stands ≡ true)
  GoesBefore path old false new = path ≡ []

module _ {C K R U : Type 0} (x : Subject C K R U) (edge : Edge C K R) (start : PowerOn) (chosen : C) (bound : ℕ) (k : K) where
  -- That is the path of a key; or it is none of those to go through.
  abbrev pub IsPathOfKey : Option (List ℕ) → Type 0
  IsPathOfKey (Some path) = IsMember (tree_in (edge.rounds_in chosen)) (root_of (edge.rounds_in chosen) start) bound path × (key_along x edge start chosen path ≡ k)
  IsPathOfKey None = x.IsListed start chosen bound k → ⊥

-- The position after a key, or at the start.
abbrev pub place_of : {K : Type 0} → Option K → Position K
place_of (Some last) = After last
place_of None = AtStart
