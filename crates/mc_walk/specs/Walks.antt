-- What callers see of a walk, and how it goes on.
use Rattle.std.specs.Prelude.{Bool, Err, IfSome, List, Ok, Option, Result, [], false, is_some, length, take, true, ℕ, ◌*◌, ◌++◌, ◌+◌, ◌<◌, ◌∷◌, ◌≡◌, ◌≢◌, ◌≤◌}
use Rattle.mc_flash.specs.Usage.{HasRoom, LeaveRoom, RanOut, Seen, Spent, checkpoint_of, no_counts}
use Rattle.mc_tree.specs.{Tree.{After, AtStart, IsMember, IsNext, IsOver, Lost, Position, landed}, facts.Order.{IsNextBeyond, NoneBeyond}, inner.Weights.{AreTwins}}
use Rattle.mc_walk.specs.{TreeModel.{IsAt, IsRoot, IsTwin, TreeModel, summary_cost}, declared.frame.Frame.{Frame}, declared.tour.Phase.{Phase}}
use Rattle.mc_walk.specs.{declared.tour.Phase.TheVariants.{Broken, Done, Fresh, Going}, declared.tour.TourError.{TourError}}
use Rattle.mc_walk.specs.inner.Stack.{IsRoomy, Stands, most_at, path_of}
use Rattle.mc_walk.specs.declared.tour.TourError.TheVariants as errors

-- A walk: its kind of tree, the most steps of a path, the flash, the path, and whether the flash stands at its end, of which
-- something is given.
pub record Walked (B : Type 0) : Type 0 where
  pub flash_tree : B
  pub bound : ℕ
  pub seen : Seen
  pub path : List ℕ
  pub stands : Bool

-- The walk with these fields.
abbrev pub walked : {A T B : Type 0} → B → ℕ → Seen → List (Frame A T) → Option T → Walked B
walked flash_tree bound seen fs summary = record { flash_tree = flash_tree; bound = bound; seen = seen; path = path_of fs; stands = is_some summary }

-- The same walk, elsewhere.
pub record IsSame {B : Type 0} (old new : Walked B) : Type 0 where
  pub flash_tree : new.flash_tree ≡ old.flash_tree
  pub bound : new.bound ≡ old.bound

module _ {N A T B : Type 0} (k : TreeModel N A T) where
  -- The node at the end of its path.
  abbrev pub node_at : Walked B → N
  node_at w = landed k.tree k.root w.path

  -- The flash stands at that node, with that summary, and has room to find its summary once more. No more is counted than a path
  -- so long makes, and that.
  pub record IsThere (w : Walked B) (summary : T) : Type 0 where
    pub summary_is : k.IsSummary (node_at w) summary
    pub content_is : w.seen.content ≡ k.content (node_at w)
    pub layout_is : w.seen.geometry ≡ k.geometry
    pub room : HasRoom (k.owed (node_at w)) w.seen
    pub counts : LeaveRoom w.seen.usage.counts (k.owed (node_at w)) (most_at k (length w.path))

  -- The last step of its path is to that child of the node before, where the flash stands.
  pub record IsLastStep (w : Walked B) (f : Frame A T) : Type 0 where
    pub before : List ℕ
    pub path_is : w.path ≡ before ++ f.number ∷ []
    pub at_is : IsAt k (landed k.tree k.root before) f.number f.at w.seen
    pub some : f.number < k.tree.width (landed k.tree k.root before)
    pub parent_is : k.IsSummary (landed k.tree k.root before) f.parent

  -- The last node before it has a further child, which is a twin of the one where it stands, both with that summary.
  pub record IsBeforeTwin (w : Walked B) (summary : T) : Type 0 where
    pub before : List ℕ
    pub number : ℕ
    pub path_is : w.path ≡ before ++ number ∷ []
    pub more : number + 1 < k.tree.width (landed k.tree k.root before)
    pub summary_is : k.IsSummary (k.tree.child (landed k.tree k.root before) number) summary
    pub twin : IsTwin k (landed k.tree k.root before) number summary

  -- It went on by so many children, all of them twins of the one where it stood, and with that summary, as it has.
  pub record HasPassedTwins (old : Walked B) (count : ℕ) (summary : T) (new : Walked B) : Type 0 where
    pub same : IsSame old new
    pub stands : new.stands ≡ true
    pub limits : new.seen.usage.limits ≡ old.seen.usage.limits
    pub path_is : (before : List ℕ) (number : ℕ) → old.path ≡ before ++ number ∷ [] → new.path ≡ before ++ (number + count) ∷ []
    pub more : (before : List ℕ) (number : ℕ) → old.path ≡ before ++ number ∷ [] → number + count < k.tree.width (landed k.tree k.root before)
    pub summaries : (before : List ℕ) (number j : ℕ) → old.path ≡ before ++ number ∷ [] → j ≤ count
        → k.IsSummary (k.tree.child (landed k.tree k.root before) (number + j)) summary
    pub twins : (before : List ℕ) (number j : ℕ) → old.path ≡ before ++ number ∷ [] → 0 < j → j ≤ count
        → AreTwins k.tree (k.tree.child (landed k.tree k.root before) (number + j)) (k.tree.child (landed k.tree k.root before) number)

  -- The paths that it can take.
  abbrev pub IsPath : Walked B → List ℕ → Type 0
  IsPath w = IsMember k.tree k.root w.bound

  -- From its root it goes nowhere, and that is the summary of the root.
  pub record Begins (old : Walked B) (summary : T) (new : Walked B) : Type 0 where
    pub path : new.path ≡ []
    pub summary_is : k.IsSummary k.root summary
    pub same : IsSame old new
    pub stands : new.stands ≡ true

  -- From its path it went down to that child, or there is none within the bound, and it stays.
  abbrev pub GoesDown : ℕ → Walked B → Bool → Walked B → Type 0
  GoesDown number old true new = (new.path ≡ old.path ++ number ∷ []) × IsPath old new.path × IsSame old new × (new.stands ≡ true)
  GoesDown number old false new = (IsPath old (old.path ++ number ∷ []) → ⊥) × (new ≡ old)

  -- It went on to the next path beyond; or there is none, and the flash stays.
  abbrev pub Climbs : Walked B → Bool → Walked B → Type 0
  Climbs old true new = IsNextBeyond k.tree k.root old.path new.path × IsSame old new × (new.stands ≡ true)
  Climbs old false new = NoneBeyond k.tree k.root old.path × IsSame old new × (new.seen ≡ old.seen)

  -- It went on to the next path; or there is none, and the flash stays.
  abbrev pub Advances : Walked B → Bool → Walked B → Type 0
  Advances old true new = IsNext (IsPath old) (After old.path) new.path × IsSame old new × (new.stands ≡ true)
  Advances old false new = IsOver (IsPath old) (After old.path) × IsSame old new × (new.seen ≡ old.seen)

  -- From its path it went on along a prefix of another, at whose end there is no such child, or the bound is reached.
  pub record StopsOn (path : List ℕ) (old new : Walked B) : Type 0 where
    pub steps : ℕ
    pub inside : steps < length path
    pub prefix : new.path ≡ old.path ++ take steps path
    pub member : IsPath old new.path
    pub no_child : IsPath old (old.path ++ take (steps + 1) path) → ⊥
    pub same : IsSame old new
    pub stands : new.stands ≡ true

  -- From its path it went on along another; or there is none such.
  abbrev pub Follows : List ℕ → Walked B → Bool → Walked B → Type 0
  Follows path old true new = (new.path ≡ old.path ++ path) × IsPath old new.path × IsSame old new × (new.stands ≡ true)
  Follows path old false new = StopsOn path old new

module _ {N A T : Type 0} (k : TreeModel N A T) where
  -- The most operations to go to a child, and to find its summary; and along a path.
  abbrev pub child_cost : ℕ → ℕ
  child_cost number = (number + 1) * k.step + summary_cost k

  abbrev pub path_cost : List ℕ → ℕ
  path_cost [] = 0
  path_cost (number ∷ path) = child_cost number + path_cost path

  -- What holds of a walk that stands at the end of its path.
  pub record IsGoing (bound : ℕ) (seen : Seen) (fs : List (Frame A T)) (summary : T) : Type 0 where
    pub stands : Stands k seen fs summary
    pub at_most : length fs ≤ bound
    pub roomy : IsRoomy k bound seen

  -- What holds of a walk's fields.
  pub record IsSound (bound capacity : ℕ) (seen : Seen) (fs : List (Frame A T)) (summary : Option T) : Type 0 where
    pub reserved : bound ≤ capacity
    pub going : IfSome summary (IsGoing bound seen fs)

  -- A flash at the root with no checkpoints, on which nothing was done.
  pub record IsClear (bound : ℕ) (seen : Seen) : Type 0 where
    pub root : IsRoot k seen
    pub none : seen.checkpoints ≡ []
    pub counts : seen.usage.counts ≡ no_counts
    pub roomy : IsRoomy k bound seen

  -- A walk at its root, of which nothing is known yet.
  pub record IsFresh {B : Type 0} (walk : Walked B) : Type 0 where
    pub path : walk.path ≡ []
    pub root : IsRoot k walk.seen
    pub checkpoints_are : walk.seen.checkpoints ≡ checkpoint_of walk.seen ∷ []
    pub counts : walk.seen.usage.counts ≡ no_counts
    pub roomy : IsRoomy k walk.bound walk.seen

-- A walk through that tree, with that bound.
pub record IsOf {B : Type 0} (flash_tree : B) (bound : ℕ) (walk : Walked B) : Type 0 where
  pub flash_tree_is : walk.flash_tree ≡ flash_tree
  pub bound_is : walk.bound ≡ bound

-- What callers see of a tour, and the node that it visits next.

-- A tour: its walk, and how it stands with that.
pub record Toured (B : Type 0) : Type 0 where
  pub walk : Walked B
  pub phase : Phase

-- Where one has come to, by how a tour stands and the last element.
abbrev pub position_of : {K : Type 0} → Phase → K → Position K
position_of Fresh last = AtStart
position_of Going last = After last
position_of Done last = After last
position_of Broken last = Lost

module _ {N A T B : Type 0} (k : TreeModel N A T) where
  -- What holds of a tour.
  abbrev pub IsInOrder : Phase → Walked B → Type 0
  IsInOrder Fresh walk = IsFresh k walk
  IsInOrder Going walk = walk.stands ≡ true
  IsInOrder Done walk = Unit {0}
  IsInOrder Broken walk = Unit {0}

  -- Where a tour has come to: it visited no node yet; or last the one at the end of that path; or no node is past that position; or it
  -- has failed.
  abbrev pub StandsAt : Toured B → Position (List ℕ) → Type 0
  StandsAt tour position = by tour.phase
    where
      by : Phase → Type 0
      by Fresh = position ≡ AtStart
      by Going = position ≡ After tour.walk.path
      by Done = IsOver (IsPath k tour.walk) position
      by Broken = position ≡ Lost

  -- It goes to the next node past the position; or there is none, and the flash stays.
  abbrev pub Visits : Toured B → Position (List ℕ) → Bool → Toured B → Type 0
  Visits old position true new =
      IsNext (IsPath k old.walk) position new.walk.path × IsSame old.walk new.walk × (new.phase ≡ Going) × (new.walk.stands ≡ true)
  Visits old position false new =
      IsOver (IsPath k old.walk) position × (new.walk.seen ≡ old.walk.seen) × IsSame old.walk new.walk × (new.phase ≡ Done)

  -- The position is after the last child of the node at which it stands, and no path goes on from there.
  pub record IsBeyondLast (walk : Walked B) (position : Position (List ℕ)) : Type 0 where
    pub number : ℕ
    pub position_is : position ≡ After (walk.path ++ number ∷ [])
    pub last : k.tree.width (node_at k walk) ≤ number + 1
    pub deep : length walk.path + 1 ≡ walk.bound

  -- So it is; or no node is past the position; or it has failed.
  abbrev pub StandsBeyond : Toured B → Position (List ℕ) → Type 0
  StandsBeyond tour position = by tour.phase
    where
      by : Phase → Type 0
      by Fresh = ⊥
      by Going = IsBeyondLast tour.walk position
      by Done = IsOver (IsPath k tour.walk) position
      by Broken = position ≡ Lost

  -- It takes no more than to go to a child and to find its summary, and fails only where memory fails the flash. From then on
  -- it has failed, and stays as it is.
  abbrev pub Costs : {X : Type 0} → Toured B → Result X TourError → Toured B → Type 0
  Costs old (Ok _) new = (old.phase ≢ Broken) × Spent (child_cost k 0) old.walk.seen new.walk.seen
  Costs old (Err errors.Memory) new = (old.phase ≢ Broken) × RanOut old.walk.seen new.walk.seen × (new.phase ≡ Broken)
  Costs old (Err errors.Failed) new = (old.phase ≡ Broken) × (new ≡ old)
