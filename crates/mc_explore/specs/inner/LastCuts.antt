-- The rows of the longest paths: what is told after their last steps is found among what is told of the children of another node.
use Rattle.std.specs.Prelude.{length, slice_get, ◌-◌, IfSome, List, None, Option, Some, [], ℕ, ◌++◌, ◌+◌, ◌<◌, ◌^◌, ◌∷◌, ◌≡◌, ◌≤◌, ◌⊎◌}
use Rattle.mc_boot.specs.{Plan.{PowerOn}, SharedTail.{index_in_parent}, declared.shared_tail.SharedTail.{SharedTail}}
use Rattle.mc_explore.specs.{declared.at_cuts.AtCuts.{AtCuts}, declared.at_cuts.Joined.{Joined}, declared.run.Run.{Run}, inner.Runs.{AreOf, IsIn}}
use Rattle.mc_explore.specs.Boots.{boots}
use Rattle.mc_tree.specs.Tree.{landed}
use Rattle.mc_walk.specs.TreeModel.{TreeModel}

-- What the boot after a schedule begins with.
abbrev pub boot_at : PowerOn → List ℕ → PowerOn
boot_at from = landed boots from

-- Nothing is kept.
abbrev pub IsNothing : {O : Type 0} → AtCuts O → Type 0
IsNothing kept = (kept.told.items ≡ []) × (kept.count ≡ 0)

-- That is told of the last of the cuts.
abbrev pub IsToldLast : {O : Type 0} → AtCuts O → O → Type 0
IsToldLast kept told = (run : Run _) × (slice_get kept.told.items (length kept.told.items - 1) ≡ Some run) × (run.of ≡ told)

-- A run more is kept, or there is no room for it.
abbrev pub IsOneRunMore : {O : Type 0} → AtCuts O → O → AtCuts O → Type 0
IsOneRunMore old told new =
    ((new.told.items ≡ old.told.items) × (new.count ≡ old.count))
    ⊎ ((new.told.items ≡ old.told.items ++ record { first = old.count; of = told } ∷ []) × (new.count ≡ old.count + 1))

-- That is told at the cuts where those of the other boot from that number on find their flashes, one and so many more.
abbrev pub AreToldAlike : {O : Type 0} → SharedTail → AtCuts O → ℕ → ℕ → ℕ → O → Type 0
AreToldAlike tail kept number i more told =
    (j : ℕ) → j ≤ more → (index_in_parent tail (number + j) ≡ kept.first + (i + j)) × IsIn kept.told.items kept.count (i + j) told

-- What is kept of the cuts of a boot is told of them.
abbrev pub AreTold : {O : Type 0} → (List ℕ → O → Type 0) → AtCuts O → Type 0
AreTold IsTold kept = AreOf (λ i run. IsTold (kept.parent_path ++ (kept.first + i) ∷ []) run.of) kept.count kept.told.items

-- The child of its parent among whose children that of a joined node lies which is at the end of a path.
abbrev pub IsIndexOf : Option Joined → List ℕ → ℕ → Type 0
IsIndexOf None path index = ⊥
IsIndexOf (Some j) path index = (last : ℕ) × (path ≡ j.path ++ last ∷ []) × (index ≡ index_in_parent j.shared_tail last)

module _ {N A T : Type 0} (k : TreeModel N A T) (IsLike : List ℕ → List ℕ → Type 0) where
  -- The children of the node at the end of a path lie among those at the end of its parent's.
  pub record AreLike (parent_path path : List ℕ) (tail : SharedTail) : Type 0 where
    pub within : (i : ℕ) → i < k.tree.width (landed k.tree k.root path) → index_in_parent tail i < k.tree.width (landed k.tree k.root parent_path)
    pub like : (i : ℕ) → i < k.tree.width (landed k.tree k.root path) → IsLike (path ++ i ∷ []) (parent_path ++ index_in_parent tail i ∷ [])

  -- So do those after the last step of a path.
  pub record IsJoined (parent_path path : List ℕ) (tail : SharedTail) : Type 0 where
    pub number : ℕ
    pub path_is : path ≡ parent_path ++ number ∷ []
    pub are_like : AreLike parent_path path tail

  module _ {O : Type 0} (IsTold : List ℕ → O → Type 0) where
    -- What is kept.
    pub record AreKept (kept : AtCuts O) : Type 0 where
      pub at_cuts : AreTold IsTold kept
      pub joined_is : IfSome kept.joined (λ j. IsJoined kept.parent_path j.path j.shared_tail)

    -- The last steps after a path, so many, to children that lie among those of the node before its last step; all is there that is told of
    -- these.
    pub record AreLastCuts (path : List ℕ) (kept : AtCuts O) (tail : SharedTail) (count : ℕ) : Type 0 where
      pub joined : IsJoined kept.parent_path path tail
      pub count_is : count ≡ k.tree.width (landed k.tree k.root path)
      pub whole : kept.first + kept.count ≡ k.tree.width (landed k.tree k.root kept.parent_path)
      pub low : (i : ℕ) → kept.first ≤ index_in_parent tail i
      pub some : 1 ≤ count
      pub small : count ≤ 2 ^ 31
