-- The rows of an exploration, as those of paths; how they are those of a subject; and walks that were loaded for a start, and along a key.
use Rattle.std.specs.Prelude.{Bool, Err, IfSome, List, None, Ok, Option, Result, Some, [], false, length, map, suc, true, zero, ℕ, ◌++◌, ◌+◌, ◌-◌, ◌<◌, ◌^◌, ◌↔◌, ◌∷◌, ◌≡◌, ◌≢◌, ◌≤◌}
use Rattle.mc_boot.specs.Plan.{PowerOn}
use Rattle.mc_explore.specs.{Pages.{IsRest}, Subject.{Explored, State, Subject, at_start, rows_of}, declared.ahead.Ahead.{Ahead}, declared.ahead.RowsAhead.{RowsAhead}}
use Rattle.mc_explore.specs.{declared.boot_row.BootRow.{BootRow}, declared.boot_row.Cuts.{Cuts}, declared.rounds.BootTree.{BootTree}, declared.rounds.Rounds.{Rounds}}
use Rattle.mc_explore.specs.inner.{BootEnds.{report_in}, BootRows.{CanCountUp, IsPathOf, IsRowOf, counted_up, cuts_along, tree_in}, BootTree.{begins_of, model_of, root_of}}
use Rattle.mc_flash.specs.{Geometry.{IsLayout}, Usage.{Loads, RanOut, Seen, Spent}}
use Rattle.mc_start.specs.Start.{IsNextText}
use Rattle.mc_tree.specs.{Tree.{After, Allowed, IsNext, IsOver, Position, Precedes, Tree, landed}, facts.Existence.{all_from}, facts.Order.{IsOrder}}
use Rattle.mc_walk.specs.TreeModel.{TreeModel}
use Rattle.mc_walk.specs.Walks.{IsFresh, IsPath, IsSame, StandsAt, StandsBeyond, Toured, Walked, child_cost, position_of}
use Rattle.mc_walk.specs.{declared.tour.Phase.{Phase}, declared.tour.Phase.TheVariants.{Broken, Done, Fresh, Going}, declared.tour.TourError.{TourError}}
use Rattle.mc_walk.specs.declared.tour.TourError.TheVariants as errors
use Rattle.mc_tree.specs.Tree as tree

-- Rows that are given one after another: the walk, how it stands, the path of the last row, and that row, where there was one.
pub record Rowed (B R : Type 0) : Type 0 where
  pub walk : Walked B
  pub phase : Phase
  pub last : List ℕ
  pub row : Option R

abbrev pub position_in : {B R : Type 0} → Rowed B R → Position (List ℕ)
position_in rows = position_of rows.phase rows.last

-- The keys of a subject are the paths of a tree.

module _ {C K R U N : Type 0} (x : Subject C K R U) (t : Tree N) (root : N) (start : PowerOn) (choice : C) (key_of : List ℕ → K) where
  -- Each path of at most so many steps is that of a key that is listed, and each such key is that of a path. Their order is the same.
  pub record AreKeys : Type 0 where
    pub listed : (bound : ℕ) (path : List ℕ) → tree.IsMember t root bound path → x.IsListed start choice bound (key_of path)
    pub path_of : (bound : ℕ) (k : K) → x.IsListed start choice bound k → (path : List ℕ) × tree.IsMember t root bound path × (key_of path ≡ k)
    pub order : (bound : ℕ) (path other : List ℕ) → tree.IsMember t root bound path → tree.IsMember t root bound other
        → x.Before (key_of path) (key_of other) ↔ Precedes path other
    pub none : key_of [] ≡ x.no_key

-- How the rows of a tree of boots are those of a subject.

-- The rounds of a choice, the key of the cuts along a path, what callers see of a row, and the row of a path.
pub record Edge (C K R : Type 0) : Type 0 where
  pub rounds_in : C → Rounds
  pub key_in : Cuts → K
  pub shown_of : BootRow → R
  pub row_at : PowerOn → C → List ℕ → R

-- The texts of rows that differ in their last cut alone: those of their keys, which end so, and then the same.
pub record AreNextTexts {C K R U : Type 0} (x : Subject C K R U) (old new : R) : Type 0 where
  pub key : IsNextText (x.key_text (x.key old)) (x.key_text (x.key new))
  pub rest : List ℕ
  pub old_is : x.row_text old ≡ x.key_text (x.key old) ++ rest
  pub new_is : x.row_text new ≡ x.key_text (x.key new) ++ rest

module _ {C K R U : Type 0} (x : Subject C K R U) (edge : Edge C K R) where
  -- The key of a path.
  abbrev pub key_along : PowerOn → C → List ℕ → K
  key_along start choice path = edge.key_in (cuts_along (edge.rounds_in choice) start path)

  -- What holds of that.
  pub record IsFamily : Type 0 where
    pub keys : (start : PowerOn) (choice : C) → AreKeys x (tree_in (edge.rounds_in choice)) (root_of (edge.rounds_in choice) start) start choice (key_along start choice)
    pub order : IsOrder x.Before
    pub some_rest : (state : State C K) → (rows : List R) × IsRest (rows_of x) state rows
    -- a row of a path is one of its key, and has its outcome
    pub key_is : (row : BootRow) → x.key (edge.shown_of row) ≡ edge.key_in row.cuts
    pub outcomes : (start : PowerOn) (choice : C) (path : List ℕ) (row : BootRow) → Allowed (tree_in (edge.rounds_in choice)) (root_of (edge.rounds_in choice) start) path
        → IsRowOf (edge.rounds_in choice) start path row → x.HasOutcome start choice (edge.shown_of row)
    pub texts : (row : BootRow) → CanCountUp row → AreNextTexts x (edge.shown_of row) (edge.shown_of (counted_up 1 row))
    -- the rows of all paths
    pub all_rows : (start : PowerOn) (choice : C) (bound : ℕ)
        → IsRest (rows_of x) (at_start start choice bound) (map (edge.row_at start choice) (all_from (tree_in (edge.rounds_in choice)) bound (root_of (edge.rounds_in choice) start)))
    pub all_keys : (start : PowerOn) (choice : C) (path : List ℕ) → x.key (edge.row_at start choice path) ≡ key_along start choice path
    pub all_ends : (start : PowerOn) (choice : C) (path : List ℕ) → x.ends (edge.row_at start choice path) ≡ report_in start (edge.rounds_in choice) path
    -- and what a row costs
    pub costs : (start : PowerOn) (choice : C) (t : BootTree) → begins_of t ≡ start → t.rounds ≡ edge.rounds_in choice
        → child_cost (model_of t) 0 ≤ x.most_for_row start.rules start.geometry

-- What callers see of an explorer on that walk, of a start, under a choice and with so many cuts.
abbrev pub explored : {B C K : Type 0} → PowerOn → C → ℕ → Walked B → Position K → Explored C K
explored start choice bound w position = record {
  state = record { start = start; choice = choice; bound = bound; position = position; failed = w.seen.usage.failed };
  content = w.seen.content;
  usage = w.seen.usage;
  marked = length w.seen.checkpoints;
}

-- The walk is one from that start in so many rounds with so many cuts, and the flash counts where its model does.
pub record IsOurs (counted : Bool) (start : PowerOn) (rounds : Rounds) (bound : ℕ) (w : Walked BootTree) : Type 0 where
  pub start_is : begins_of w.flash_tree ≡ start
  pub rounds_are : w.flash_tree.rounds ≡ rounds
  pub bound_is : w.bound ≡ bound
  pub at_most : bound ≤ 16
  pub counted_is : w.seen.usage.limits.counted ≡ counted

-- What holds of an explorer's fields until it fails: the path of the last row has those cuts.
abbrev pub IsSound : Bool → PowerOn → Rounds → ℕ → Rowed BootTree BootRow → Cuts → Type 0
IsSound counted start rounds bound rows last =
    rows.phase ≢ Broken → IsOurs counted start rounds bound rows.walk × IsPathOf rounds start bound rows.last last

-- A flash that was just loaded for a start, and a walk on it.

-- It has room for so many boots from there.
abbrev pub LoadsFor : Bool → PowerOn → ℕ → Seen → Type 0
LoadsFor counted x boots f = Loads counted x.geometry x.content.primary x.content.secondary x.rules.grain boots f

module _ {B N A T : Type 0} (model : B → TreeModel N A T) (begins : B → PowerOn) where
  -- A walk that was just loaded for a start.
  pub record IsLoaded (counted : Bool) (start : PowerOn) (bound : ℕ) (w : Walked B) : Type 0 where
    pub start_is : begins w.flash_tree ≡ start
    pub bound_is : w.bound ≡ bound
    pub fresh : IsFresh (model w.flash_tree) w
    pub counted_is : w.seen.usage.limits.counted ≡ counted
    pub idle : w.seen.usage.applied ≡ 0
    pub no_allocation_failed : w.seen.usage.failed ≡ false
    pub valid : IsLayout start.geometry

-- A walk goes along the path of a key.

-- From its root it went along the path of a key; or that is none of those to go through.
abbrev pub FollowsKey : {C K R U : Type 0} → Subject C K R U → Edge C K R → C → Walked BootTree → K → Bool → Walked BootTree → Type 0
FollowsKey x edge choice old k true new =
    IsPath (model_of old.flash_tree) old new.path × (key_along x edge (begins_of old.flash_tree) choice new.path ≡ k) × IsSame old new × (new.stands ≡ true)
FollowsKey x edge choice old k false new = x.IsListed (begins_of old.flash_tree) choice old.bound k → ⊥

-- The limits of a flash stay, and it was refused no memory.
pub record NoAllocationFailed (old new : Seen) : Type 0 where
  pub limits : new.usage.limits ≡ old.usage.limits
  pub failed : new.usage.failed ≡ old.usage.failed

-- An explorer of so many cuts takes no more than its subject says on the way to a key.
abbrev pub IsCheapFor : {C K R U : Type 0} → Subject C K R U → Walked BootTree → ℕ → Type 0
IsCheapFor x old applied = x.IsCheap (begins_of old.flash_tree).rules (begins_of old.flash_tree).geometry old.bound applied

-- Rows that are found without the flash, after the last one that it gave.

-- The path of the last row, where so many of the rows after a path were found ahead.
abbrev pub with_last : List ℕ → ℕ → List ℕ
with_last path zero = path
with_last path (suc n) = path ++ n ∷ []

abbrev pub last_of : List ℕ → Option RowsAhead → List ℕ
last_of path None = path
last_of path (Some x) = with_last path x.next

-- One of them is taken.
abbrev pub one_taken : RowsAhead → ℕ → ℕ → RowsAhead
one_taken x near counted_up = record { ahead = x.ahead; count = x.count; next = x.next + 1; near = near; counted_up = counted_up }

-- Those that are the last row with its last cut counted up are among them, and the first of these is taken.
abbrev pub IsWithin : RowsAhead → Type 0
IsWithin x = x.next + x.counted_up ≤ x.count

abbrev pub TakesCountedUp : Option RowsAhead → Option RowsAhead → Type 0
TakesCountedUp old new = (x : RowsAhead) × (old ≡ Some x) × (1 ≤ x.counted_up) × (new ≡ Some (one_taken x x.near (x.counted_up - 1)))

-- No row ahead is to come.
abbrev pub IsSpent : RowsAhead → Type 0
IsSpent x = x.count ≤ x.next

-- The children of the node at the end of a path are found ahead, and no path goes on after them.
pub record AreBeyond {B N A T H : Type 0} (model : B → TreeModel N A T) (is_ahead : B → H → List ℕ → Ahead → ℕ → Type 0) (w : Walked B) (kept : H) (path : List ℕ) (x : RowsAhead)
    : Type 0 where
  pub deep : length path + 1 ≡ w.bound
  pub listed : IsPath (model w.flash_tree) w path
  pub are : is_ahead w.flash_tree kept path x.ahead x.count
  pub count_is : x.count ≡ (model w.flash_tree).tree.width (landed (model w.flash_tree).tree (model w.flash_tree).root path)
  pub some : 1 ≤ x.count
  pub small : x.count ≤ 2 ^ 31

-- A row is the one before with its last cut counted up.
pub record IsCountedUp (old new : Option BootRow) : Type 0 where
  pub before : BootRow
  pub was : old ≡ Some before
  pub is : new ≡ Some (counted_up 1 before)
  pub can : CanCountUp before

-- The children of the node at the end of a path, so many, are there.
abbrev pub AreAllowed : {N A T : Type 0} → TreeModel N A T → List ℕ → ℕ → Type 0
AreAllowed k path count = (i : ℕ) → i < count → Allowed k.tree k.root (path ++ i ∷ [])

-- The rows ahead that are a row with its last cut counted up.
abbrev pub AreCountedUp : {B R : Type 0} → (B → List ℕ → R → Type 0) → (ℕ → R → R) → B → List ℕ → R → RowsAhead → Type 0
AreCountedUp is_row up b path row ahead = (j : ℕ) → j < ahead.counted_up → is_row b (path ++ (ahead.next + j) ∷ []) (up (j + 1) row)

-- How the rows of an exploration are seen, and the row that comes next.

module _ {B R N A T : Type 0} (model : B → TreeModel N A T) (is_row : B → List ℕ → R → Type 0) where
  -- The row of the next path; or there is none, and the flash stays.
  abbrev pub FindsRow : Rowed B R → Option R → Rowed B R → Type 0
  FindsRow old (Some row) new =
      IsNext (IsPath (model old.walk.flash_tree) old.walk) (position_in old) new.last
      × is_row old.walk.flash_tree new.last row × IsSame old.walk new.walk × (new.phase ≡ Going)
  FindsRow old None new =
      IsOver (IsPath (model old.walk.flash_tree) old.walk) (position_in old) × (new.walk.seen ≡ old.walk.seen) × IsSame old.walk new.walk
      × (new.phase ≡ Done) × (new.last ≡ old.last)

module _ {B R N A T : Type 0} (model : B → TreeModel N A T) where
  -- It takes no more than to go to a child and to find its summary, and fails only where memory fails the flash. From then on it
  -- has failed, and stays as it is.
  abbrev pub CostsRow : {X : Type 0} → Rowed B R → Result X TourError → Rowed B R → Type 0
  CostsRow old (Ok _) new = (old.phase ≢ Broken) × Spent (child_cost (model old.walk.flash_tree) 0) old.walk.seen new.walk.seen
  CostsRow old (Err errors.Memory) new = (old.phase ≢ Broken) × RanOut old.walk.seen new.walk.seen × (new.phase ≡ Broken)
  CostsRow old (Err errors.Failed) new = (old.phase ≡ Broken) × (new ≡ old)

module _ {B N A T : Type 0} (model : B → TreeModel N A T) where
  -- A tour stands at a position, or at one after the last child of its node.
  abbrev pub StandsFor : Bool → Toured B → Position (List ℕ) → Type 0
  StandsFor true t = StandsBeyond (model t.walk.flash_tree) t
  StandsFor false t = StandsAt (model t.walk.flash_tree) t

module _ {B N A T H : Type 0} (model : B → TreeModel N A T) (holds : B → H → Type 0) (is_ahead : B → H → List ℕ → Ahead → ℕ → Type 0) where
  -- How a tour stands with the last row, whose path is that one, or that with a number of those ahead after it.
  abbrev pub IsAtPhase : Walked B → H → List ℕ → Option RowsAhead → Phase → Type 0
  IsAtPhase walk kept path ahead Fresh = ahead ≡ None
  IsAtPhase walk kept path ahead Going = (path ≡ walk.path) × IfSome ahead (AreBeyond model is_ahead walk kept path)
  IsAtPhase walk kept path ahead Done = IsOver (IsPath (model walk.flash_tree) walk) (After (last_of path ahead)) × IfSome ahead IsSpent
  IsAtPhase walk kept path ahead Broken = Unit {0}

  -- What holds of the fields of rows.
  pub record IsInStep (t : Toured B) (kept : H) (path : List ℕ) (ahead : Option RowsAhead) : Type 0 where
    pub at_most : t.walk.bound ≤ 16
    pub holds_there : holds t.walk.flash_tree kept
    pub stands : IsAtPhase t.walk kept path ahead t.phase

  pub record IsTouring (t : Toured B) (kept : H) (path : List ℕ) (ahead : Option RowsAhead) : Type 0 where
    pub spent : t.phase ≡ Broken → IfSome ahead IsSpent
    pub sound : t.phase ≢ Broken → IsInStep t kept path ahead

-- The rows ahead of a walk that has just come to that path, and none of them was given.
pub record AreFresh {B N A T H : Type 0} (model : B → TreeModel N A T) (is_ahead : B → H → List ℕ → Ahead → ℕ → Type 0) (w : Walked B) (kept : H) (path : List ℕ) (x : RowsAhead) : Type 0 where
  pub beyond : AreBeyond model is_ahead w kept path x
  pub fresh : x.next ≡ 0
  pub none : x.counted_up ≡ 0

-- And of the last row, where there was one.
module _ {B R N A T H : Type 0} (model : B → TreeModel N A T) (is_row : B → List ℕ → R → Type 0) (up : ℕ → R → R) (holds : B → H → Type 0)
    (is_ahead : B → H → List ℕ → Ahead → ℕ → Type 0) where
  pub record IsRowing (t : Toured B) (kept : H) (path : List ℕ) (ahead : Option RowsAhead) (row : Option R) : Type 0 where
    pub touring : IsTouring model holds is_ahead t kept path ahead
    pub within : IfSome ahead IsWithin
    pub counted : t.phase ≢ Broken → IfSome ahead (λ a. IfSome row (λ r. AreCountedUp is_row up t.walk.flash_tree path r a))
