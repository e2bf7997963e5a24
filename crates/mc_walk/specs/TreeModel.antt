-- A kind of tree over the contents of a flash.
use Rattle.std.specs.Prelude.{◌≡◌, ℕ, ◌+◌, ◌<◌, ◌≤◌, Option, Some, None, Result, Ok, Err}
use Rattle.mc_tree.specs.{Tree.{Tree}, inner.Weights.{AreTwins}}
use Rattle.mc_flash.specs.{Flash.{Content}, Geometry.{Geometry}, Usage.{Counts, no_counts, Seen, Allows, LeaveRoom, plus}}

pub record TreeModel (N A T : Type 0) : Type 1 where
  pub tree : Tree N
  pub root : N
  -- the layout of the flash, and what it contains at a node
  pub geometry : Geometry
  pub content : N → Content
  -- the child of that number is on its way from that node
  pub IsOn : N → ℕ → A → Type 0
  pub IsSummary : N → T → Type 0
  -- the most operations from one child to the next
  pub step : ℕ
  -- what is counted at most from a node to its end, to its last child or to find its summary; the most of any; and what a child
  -- on its way has left of that
  pub owed : N → Counts
  pub all : Counts
  pub all_is : (n : N) → LeaveRoom no_counts (owed n) all
  pub left : A → Counts
  -- so much more is owed at the child at most
  pub most : Counts
  pub most_is : (n : N) (i : ℕ) (at : A) → IsOn n i at → i < tree.width n → LeaveRoom no_counts (owed (tree.child n i)) (plus (left at) most)

module _ {N A T : Type 0} (k : TreeModel N A T) where
  -- That child is on its way, and the flash contains what it does there.
  pub record IsAt (n : N) (i : ℕ) (at : A) (seen : Seen) : Type 0 where
    pub on_is : k.IsOn n i at
    pub content_is : seen.content ≡ k.content (k.tree.child n i)
    pub layout_is : seen.geometry ≡ k.geometry

  -- The flash stands at a node, with that summary.
  pub record IsNode (n : N) (summary : T) (seen : Seen) : Type 0 where
    pub summary_is : k.IsSummary n summary
    pub content_is : seen.content ≡ k.content n
    pub layout_is : seen.geometry ≡ k.geometry

  -- The most operations to find the summary of a node.
  abbrev pub summary_cost : ℕ
  summary_cost = k.all.entries

  -- What a child on its way owes at most when its summary is found.
  abbrev pub owed_there : A → Counts
  owed_there at = plus (k.left at) k.most

  abbrev pub HasWidth : T → ℕ → Type 0
  HasWidth summary width = (n : N) → k.IsSummary n summary → width ≡ k.tree.width n

  -- Given the summary of the node at the end of a path of so many steps: that node has a child of that number, and the path may be
  -- longer; or one of these is not so.
  abbrev pub IsParent : ℕ → ℕ → ℕ → Option T → Option T → Type 0
  IsParent number bound steps stood (Some summary) =
      (stood ≡ Some summary) × (steps < bound) × ((n : N) → k.IsSummary n summary → number < k.tree.width n)
  IsParent number bound steps stood None =
      (summary : T) → stood ≡ Some summary → steps < bound → (n : N) → k.IsSummary n summary → k.tree.width n ≤ number

  -- It has a child of that number, and there is room to go to it and on.
  abbrev pub CanReach : ℕ → T → Seen → Type 0
  CanReach number summary seen = (n : N) × IsNode n summary seen × (number < k.tree.width n) × Allows (k.owed n) seen

  -- That child is on its way.
  abbrev pub Reaches : {E : Type 0} → ℕ → T → Seen → Result A E → Seen → Type 0
  Reaches number summary old (Ok at) new =
      (n : N) → IsNode n summary old → number < k.tree.width n
      → IsAt n number at new × LeaveRoom new.usage.counts (k.left at) (plus old.usage.counts (k.owed n))
  Reaches number summary old (Err _) new = Unit {0}

  -- There is a next child, and room for what it has left.
  abbrev pub HasNext : A → Seen → Type 0
  HasNext at seen = (n : N) × (i : ℕ) × IsAt n i at seen × (i + 1 < k.tree.width n) × Allows (k.left at) seen

  abbrev pub ReachesNext : {E : Type 0} → A → Seen → Result (Unit {0}) E → A → Seen → Type 0
  ReachesNext at old (Ok _) at' new =
      ((n : N) (i : ℕ) → IsAt n i at old → i + 1 < k.tree.width n → IsAt n (i + 1) at' new)
      × LeaveRoom new.usage.counts (k.left at') (plus old.usage.counts (k.left at))
  ReachesNext at old (Err _) at' new = Unit {0}

  -- The flash stands at the root.
  pub record IsRoot (seen : Seen) : Type 0 where
    pub content_is : seen.content ≡ k.content k.root
    pub layout_is : seen.geometry ≡ k.geometry

  -- The flash stands at a child on its way, where that is the summary of its parent.
  abbrev pub IsChild : A → T → Seen → Type 0
  IsChild at parent seen = (n : N) × (i : ℕ) × IsAt n i at seen × (i < k.tree.width n) × k.IsSummary n parent

  -- That is the summary of that child.
  abbrev pub IsChildSummary : A → T → Seen → T → Type 0
  IsChildSummary at parent seen summary =
      (n : N) (i : ℕ) → IsAt n i at seen → i < k.tree.width n → k.IsSummary n parent → k.IsSummary (k.tree.child n i) summary

  -- The flash stands at that child, with both summaries.
  pub record IsChildOf (n : N) (i : ℕ) (at : A) (parent child : T) (seen : Seen) : Type 0 where
    pub at_is : IsAt n i at seen
    pub some : i < k.tree.width n
    pub parent_is : k.IsSummary n parent
    pub child_is : k.IsSummary (k.tree.child n i) child

  abbrev pub HasChild : A → T → T → Seen → Type 0
  HasChild at parent child seen = (n : N) × (i : ℕ) × IsChildOf n i at parent child seen

  -- The next child of a node is a twin of that one, and has the same summary.
  pub record IsTwin (n : N) (i : ℕ) (summary : T) : Type 0 where
    pub summary_is : k.IsSummary (k.tree.child n (i + 1)) summary
    pub twins : AreTwins k.tree (k.tree.child n (i + 1)) (k.tree.child n i)

  -- The children of a node after that one, so many, are twins of it, and have the same summary.
  pub record AreTwinsOn (n : N) (i count : ℕ) (summary : T) : Type 0 where
    pub summaries : (j : ℕ) → j ≤ count → k.IsSummary (k.tree.child n (i + j)) summary
    pub twins : (j : ℕ) → 0 < j → j ≤ count → AreTwins k.tree (k.tree.child n (i + j)) (k.tree.child n i)

  -- The flash stands at a child with that summary, after which there are so many at least, and there is room for what it has left.
  abbrev pub CanPassTwins : ℕ → A → T → Seen → Type 0
  CanPassTwins most at summary seen =
      (n : N) × (i : ℕ) × IsAt n i at seen × (i + most < k.tree.width n) × k.IsSummary (k.tree.child n i) summary × Allows (k.left at) seen

  -- It went on to one of those; it and all between are twins of that child.
  abbrev pub PassesTwins : {E : Type 0} → ℕ → A → T → Seen → Result ℕ E → A → Seen → Type 0
  PassesTwins most at summary old (Ok count) at' new =
      (count ≤ most)
      × ((n : N) (i : ℕ) → IsAt n i at old → i + most < k.tree.width n → k.IsSummary (k.tree.child n i) summary
      → IsAt n (i + count) at' new × AreTwinsOn n i count summary)
      × LeaveRoom new.usage.counts (k.left at') (plus old.usage.counts (k.left at))
  PassesTwins most at summary old (Err _) at' new = Unit {0}
