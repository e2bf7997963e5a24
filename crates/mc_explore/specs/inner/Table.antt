-- The totals of the nodes below a node, for each bound, and how a walk passes them.
use Rattle.std.specs.{List.{slice_get}, Prelude.{List, Some, [], length, suc, true, zero, ℕ, ◌++◌, ◌+◌, ◌-◌, ◌<◌, ◌∷◌, ◌≡◌, ◌≤◌, ◌⊎◌}}
use Rattle.mc_boot.specs.{Outcome.{Report, shown}, declared.outcome.Outcome.{Outcome}, SharedTail.{index_in_parent}}
use Rattle.mc_boot.specs.declared.shared_tail.SharedTail.{SharedTail}
use Rattle.mc_explore.specs.{Right.{judged}, declared.census.CensusOf.{CensusOf}, declared.expectation.Expectation.{Expectation}, declared.table.Below.{Below}}
use Rattle.mc_explore.specs.{declared.run.Run.{Run}, declared.table.Below.TheVariants.{Apart, Joined}, declared.table.Child.{Child}, declared.table.Level.{Level}}
use Rattle.mc_explore.specs.inner.Runs.{AreOf, begin_of}
use Rattle.mc_explore.specs.inner.Totals.{Totals, merged, cut_off, no_totals, report_totals, totals}
use Rattle.mc_tree.specs.{Tree.{Allowed, Beyond, Tree, landed}, facts.Order.{HasPassed}, inner.Weights.{IsShared, WeighAlike, from, path_tree, shared_below, weight}}
use Rattle.mc_walk.specs.{TreeModel.{TreeModel}, Walks.{IsPath, IsSame, Walked}}

-- The censuses of the children of one node.

-- Totals by their number, each cut off.
abbrev pub AreCutOff : (ℕ → Totals) → List (CensusOf (List ℕ)) → Type 0
AreCutOff under censuses = (i : ℕ) → i < length censuses → slice_get censuses i ≡ Some (cut_off (under i))

-- For each bound below that one.
abbrev pub IsColumn : (ℕ → Totals) → ℕ → List (CensusOf (List ℕ)) → Type 0
IsColumn by_bound bound column = (length column ≡ bound) × AreCutOff by_bound column

-- The sum of the children from a number on, of which there are n, each after its number.
abbrev pub rest_from : (ℕ → Totals) → ℕ → ℕ → Totals
rest_from under n number = from totals under (n - number) number

-- The flashes of a boot that goes on with one of n children are among those.
pub record IsInside (x : SharedTail) (n : ℕ) : Type 0 where
  pub late : x.kept + x.erases ≤ n
  pub early : (i : ℕ) → i < x.erases → index_in_parent x i < n

-- What lies below two children lies at the same places, or below themselves.
pub record AreAlike (first : ℕ) (x : SharedTail) (number : ℕ) (y : SharedTail) : Type 0 where
  pub kept : x.kept ≡ y.kept
  pub erases : x.erases ≡ y.erases
  pub index : (i : ℕ) → i < x.erases → (index_in_parent x i ≡ index_in_parent y i) ⊎ ((index_in_parent x i ≡ first) × (index_in_parent y i ≡ number))

-- For one bound: the totals of a child of each run, which all its children have.
pub record IsLevel (under : ℕ → Totals) (n : ℕ) (runs : List (Run Child)) (level : List (CensusOf (List ℕ))) : Type 0 where
  pub alike : AreOf (λ i run. under i ≡ under run.first) n runs
  pub many : length level ≡ length runs
  pub cut_offs : AreCutOff (λ r. under (begin_of runs n r)) level

-- The sums of the children of the last runs: of none, of one, and so on to all of them.
abbrev pub AreSums : (ℕ → Totals) → ℕ → List (Run Child) → List (CensusOf (List ℕ)) → Type 0
AreSums under n runs sums = (length sums ≡ length runs + 1) × AreCutOff (λ k. rest_from under n (begin_of runs n (length runs - k))) sums

-- A level is of these totals, and there is some run.
pub record IsSummed (under : ℕ → Totals) (l : Level) : Type 0 where
  pub some : 1 ≤ length l.runs.now
  pub level : IsLevel under l.count l.runs.now l.censuses.now
  pub sums : AreSums under l.count l.runs.now l.sums.now

-- Of a node with n children: `under d c` are the totals of all paths of fewer than d steps from the child of number c.
module _ (under : ℕ → ℕ → Totals) (n most : ℕ) where
  -- A child whose boot goes on with that of its parent: by the censuses of all children for one step fewer.
  pub record IsJoined (c : ℕ) (outcome : Outcome) (x : SharedTail) : Type 0 where
    pub inside : IsInside x n
    pub weighs : (d : ℕ)
        → under (suc d) c ≡ merged (report_totals (shown outcome)) (shared_below totals (under d) n x.kept x.erases (index_in_parent x))

  -- What lies below a child of that outcome.
  abbrev pub IsBelow : ℕ → Outcome → Below → Type 0
  IsBelow c outcome (Joined x) = IsJoined c outcome x
  IsBelow c outcome (Apart column) = IsColumn (λ d. under (suc d) c) most column.items

  abbrev pub IsChild : ℕ → Child → Type 0
  IsChild c child = IsBelow c child.outcome child.below

  -- The first so many children in runs.
  pub record AreRuns (number : ℕ) (runs : List (Run Child)) : Type 0 where
    pub alike : AreOf (λ i run. (d : ℕ) → under d i ≡ under d run.first) number runs
    pub child : (r : ℕ) (run : Run Child) → slice_get runs r ≡ Some run → IsChild run.first run.of

-- The totals of a tree.

module _ {N : Type 0} (t : Tree N) (ended : N → Report) (e : Expectation) where
  -- The totals of the path of no steps from a node, and of all paths of at most so many steps, where only an outcome that meets the
  -- expectation counts as a boot.
  abbrev pub own_totals : N → Totals
  own_totals n = report_totals (judged e (ended n))

  abbrev pub weigh : ℕ → N → Totals
  weigh bound n = weight totals t own_totals bound n

  -- Of all paths of fewer steps.
  abbrev pub weigh_fewer : ℕ → N → Totals
  weigh_fewer zero n = no_totals
  weigh_fewer (suc bound) n = weigh bound n

  -- Of those from the children of a node.
  abbrev pub weigh_below : N → ℕ → ℕ → Totals
  weigh_below n d c = weigh_fewer d (t.child n c)

  -- The totals of a node for each bound.
  abbrev pub HasWeights : N → ℕ → List (CensusOf (List ℕ)) → Type 0
  HasWeights n = IsColumn (λ d. weigh d n)

  -- What lies below a child lies among what lies below its parent.
  abbrev pub IsTailOf : N → ℕ → SharedTail → Type 0
  IsTailOf n c x = IsShared totals t own_totals n (t.child n c) x.kept x.erases (index_in_parent x)

-- A walk that passes the nodes below a node.

-- The limits of its flash stay.
abbrev pub HasSameLimits : {B : Type 0} → Walked B → Walked B → Type 0
HasSameLimits old new = new.seen.usage.limits ≡ old.seen.usage.limits

module _ {N A T : Type 0} (k : TreeModel N A T) where
  -- The tree of the paths from the root.
  abbrev pub paths_of : Tree (List ℕ)
  paths_of = path_tree k.tree k.root

  module _ {B : Type 0} where
    -- The walk has passed so many children of the node at the end of a path, and there is one more, within the bound.
    abbrev pub Passed : List ℕ → ℕ → Walked B → Type 0
    Passed l number walk = HasPassed k.tree k.root l number walk.path

    pub record CanPass (number : ℕ) (walk : Walked B) : Type 0 where
      pub path : List ℕ
      pub passed : Passed path number walk
      pub listed : IsPath k walk (path ++ number ∷ [])

    -- The walk stands at that child.
    abbrev pub ReachesChild : ℕ → Walked B → Walked B → Type 0
    ReachesChild number old new =
        (l : List ℕ) → Passed l number old → IsPath k old (l ++ number ∷ []) → (new.path ≡ l ++ number ∷ []) × IsSame old new × (new.stands ≡ true)

    -- It stands at the child of that number of a node that has so many.
    pub record IsAmong (number count : ℕ) (walk : Walked B) : Type 0 where
      pub before : List ℕ
      pub path_is : walk.path ≡ before ++ number ∷ []
      pub listed : IsPath k walk before
      pub deep : length before < walk.bound
      pub count_is : count ≡ k.tree.width (landed k.tree k.root before)

    -- The walk has passed all that lies below the node where it stood.
    pub record PassesBelow (old new : Walked B) : Type 0 where
      pub same : IsSame old new
      pub limits : HasSameLimits old new
      pub stands : new.stands ≡ true
      pub more : List ℕ
      pub path_is : new.path ≡ old.path ++ more
      pub beyond : (m : List ℕ) → Allowed k.tree k.root m → Beyond new.path m → Beyond old.path m

-- Where what lies below the node at which a walk stands lies among what lies below its parent.
abbrev pub IsTailHere : {N A T B : Type 0} → (B → TreeModel N A T) → (B → List ℕ → Report) → Walked B → SharedTail → Type 0
IsTailHere model report_of walk x =
    (e : Expectation) (l : List ℕ) (number : ℕ) → walk.path ≡ l ++ number ∷ []
    → IsTailOf (paths_of (model walk.flash_tree)) (report_of walk.flash_tree) e l number x

-- The next child of the node before has the totals of the one at which a walk stands.
abbrev pub GoesOnAlike : {N A T B : Type 0} → (B → TreeModel N A T) → (B → List ℕ → Report) → Walked B → Type 0
GoesOnAlike model report_of walk =
    (e : Expectation) (l : List ℕ) (number : ℕ) → walk.path ≡ l ++ number ∷ []
    → WeighAlike totals (paths_of (model walk.flash_tree)) (own_totals (paths_of (model walk.flash_tree)) (report_of walk.flash_tree) e) (l ++ (number + 1) ∷ []) (l ++ number ∷ [])

-- It went on over so many children of the node before, each of which has the totals of the one where it stood.
pub record PassesAlike {N A T B : Type 0} (model : B → TreeModel N A T) (report_of : B → List ℕ → Report) (old : Walked B) (count : ℕ) (new : Walked B) : Type 0 where
  pub same : IsSame old new
  pub limits : HasSameLimits old new
  pub stands : new.stands ≡ true
  pub path_is : (l : List ℕ) (number : ℕ) → old.path ≡ l ++ number ∷ [] → new.path ≡ l ++ (number + count) ∷ []
  pub more : (l : List ℕ) (number : ℕ) → old.path ≡ l ++ number ∷ []
      → number + count < (model old.flash_tree).tree.width (landed (model old.flash_tree).tree (model old.flash_tree).root l)
  pub alike : (e : Expectation) (l : List ℕ) (number j : ℕ) → old.path ≡ l ++ number ∷ [] → j ≤ count
      → WeighAlike totals (paths_of (model old.flash_tree)) (own_totals (paths_of (model old.flash_tree)) (report_of old.flash_tree) e) (l ++ (number + j) ∷ []) (l ++ number ∷ [])
