-- The campaigns along the paths of the tree of two rounds.
use Rattle.std.specs.Prelude.{Bool, List, ℕ, ◌≡◌}
use Rattle.mc_boot.specs.Plan.{PowerOn}
use Rattle.mc_explore.specs.{Boots.{boots}, Rounds.{second_start, tree_of}}
use Rattle.mc_tree.specs.Tree.{labels, round_one}
use Rattle.mc_tree.specs.Tree as tree

-- The cuts along a path, each with its round.
abbrev pub cuts_along : Bool → PowerOn → List ℕ → List (ℕ × ℕ)
cuts_along confirms x path = labels boots (second_start confirms) (round_one x) path

-- A path of at most so many steps, and the campaign of the cuts along it.
pub record IsPathOf (x : PowerOn) (confirms : Bool) (bound : ℕ) (path : List ℕ) (c : List (ℕ × ℕ)) : Type 0 where
  pub member : tree.IsMember (tree_of confirms) (round_one x) bound path
  pub cuts_are : cuts_along confirms x path ≡ c
