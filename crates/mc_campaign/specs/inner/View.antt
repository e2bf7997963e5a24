-- A walk through two rounds, along the path of a campaign.
use Rattle.std.specs.Prelude.{Bool, List, Option, Some, false, true, ℕ, ◌<◌, ◌↔◌, ◌≡◌}
use Rattle.mc_boot.specs.Plan.{PowerOn}
use Rattle.mc_campaign.specs.{Campaigns.{IsMember}, Rounds.{IsPathOf}}
use Rattle.mc_explore.specs.{Boots.{boots}, Rounds.{second_start, tree_of}, declared.rounds.BootTree.{BootTree}, inner.BootTree.{begins_of}}
use Rattle.mc_tree.specs.Tree.{RoundNode, label}
use Rattle.mc_walk.specs.Walks.{IsSame, Walked}

-- The start of a walk.
abbrev pub begun_of : Walked BootTree → PowerOn
begun_of w = begins_of w.flash_tree

-- Of the children of a node that number is the one at the cut; without a number there is none.
abbrev pub HasChildOf : Bool → RoundNode PowerOn → ℕ × ℕ → Option ℕ → Type 0
HasChildOf confirms p cut number = (i : ℕ) → i < (tree_of confirms).width p → label boots (second_start confirms) p i ≡ cut ↔ number ≡ Some i

-- From its root a walk went along the path of a campaign; or that is none of those to go through.
abbrev pub FollowsCampaign : Bool → Walked BootTree → List (ℕ × ℕ) → Bool → Walked BootTree → Type 0
FollowsCampaign confirms old c true new = IsPathOf (begun_of old) confirms old.bound new.path c × IsSame old new × (new.stands ≡ true)
FollowsCampaign confirms old c false new = IsMember (begun_of old) confirms old.bound c → ⊥
