-- The frames of a walk.
use Rattle.std.specs.Prelude.{Bool, List, Option, Some, [], false, length, map, true, ℕ, ◌++◌, ◌+◌, ◌<◌, ◌^◌, ◌∷◌, ◌≡◌, ◌≤◌}
use Rattle.mc_flash.specs.{Usage.{Checkpoint, Counts, HasRoom, LeaveRoom, Seen, checkpoint_of, marked, plus, times}}
use Rattle.mc_tree.specs.Tree.{landed}
use Rattle.mc_walk.specs.{TreeModel.{AreTwinsOn, HasNext, IsAt, IsTwin, TreeModel, owed_there}, declared.frame.Frame.{Frame}}

-- The path that the frames stand for.
abbrev pub path_of : {A T : Type 0} → List (Frame A T) → List ℕ
path_of fs = map (λ f. f.number) fs

-- The last frame is that of the next child.
abbrev pub IsOneOn : {A T : Type 0} → List (Frame A T) → List (Frame A T) → Type 0
IsOneOn {A} {T} old new =
    (before : List (Frame A T)) (f : Frame A T) → old ≡ before ++ f ∷ []
    → (g : Frame A T) × (new ≡ before ++ g ∷ []) × (g.number ≡ f.number + 1)

module _ {N A T : Type 0} (k : TreeModel N A T) where
  -- It is the last child of its parent.
  abbrev pub IsSpent : Frame A T → Type 0
  IsSpent f = (n : N) → k.IsSummary n f.parent → k.tree.width n ≤ f.number + 1

  -- Its parent has one child more.
  abbrev pub IsOpen : Frame A T → Type 0
  IsOpen f = (n : N) → k.IsSummary n f.parent → f.number + 1 < k.tree.width n

  abbrev pub AreSpent : List (Frame A T) → Type 0
  AreSpent [] = Unit {0}
  AreSpent (f ∷ fs) = IsSpent f × AreSpent fs

  -- Such frames were taken off.
  pub record AreOff (old new : List (Frame A T)) : Type 0 where
    pub more : List (Frame A T)
    pub spent : AreSpent more
    pub split : old ≡ new ++ more

  -- It is the last that is open; those before it are left.
  pub record IsLastOpen (f : Frame A T) (old new : List (Frame A T)) : Type 0 where
    pub open_is : IsOpen f
    pub more : List (Frame A T)
    pub spent : AreSpent more
    pub split : old ≡ new ++ f ∷ more

  -- What is counted at most down to a node after so many steps, with what is owed there.
  abbrev pub most_at : ℕ → Counts
  most_at steps = plus (times steps k.most) k.all

  -- The last frame that is left is the last that is open; those after it were taken off. Its number is no greatest one.
  pub record IsLeft (old new : List (Frame A T)) : Type 0 where
    pub before : List (Frame A T)
    pub frame : Frame A T
    pub frames_are : new ≡ before ++ frame ∷ []
    pub last : IsLastOpen frame old before
    pub small : frame.number + 1 < 2 ^ 32

  -- It is left; or there is none.
  abbrev pub LeavesOpen : List (Frame A T) → Bool → List (Frame A T) → Type 0
  LeavesOpen old true new = IsLeft old new
  LeavesOpen old false new = AreSpent old

  -- The child of a node after so many steps that a frame says was on its way when the flash was marked. What is counted there,
  -- with what it has left, is no more than what is counted and owed at the node.
  pub record IsFrame (n : N) (steps : ℕ) (checkpoint : Checkpoint) (f : Frame A T) : Type 0 where
    pub some : f.number < k.tree.width n
    pub on_is : k.IsOn n f.number f.at
    pub content_is : checkpoint.content ≡ k.content (k.tree.child n f.number)
    pub summary_is : k.IsSummary n f.parent
    pub room : LeaveRoom checkpoint.counts (k.left f.at) (most_at steps)

  -- So it is with each frame and its checkpoint, from a node down.
  abbrev pub AreFrames : N → ℕ → List Checkpoint → List (Frame A T) → Type 0
  AreFrames n steps [] [] = Unit {0}
  AreFrames n steps [] (f ∷ fs) = ⊥
  AreFrames n steps (checkpoint ∷ checkpoints) [] = ⊥
  AreFrames n steps (checkpoint ∷ checkpoints) (f ∷ fs) =
      IsFrame n steps checkpoint f × AreFrames (k.tree.child n f.number) (steps + 1) checkpoints fs

  -- The frames stand over their checkpoints, and those over that of the root.
  pub record Stacked (checkpoints : List Checkpoint) (fs : List (Frame A T)) : Type 0 where
    pub first : Checkpoint
    pub above : List Checkpoint
    pub checkpoints_are : checkpoints ≡ first ∷ above
    pub frames : AreFrames k.root 0 above fs

  -- The node at the end of the frames.
  abbrev pub node_of : List (Frame A T) → N
  node_of fs = landed k.tree k.root (path_of fs)

  -- The flash stands at that node, with that summary.
  pub record Stands (seen : Seen) (fs : List (Frame A T)) (summary : T) : Type 0 where
    pub stacked : Stacked seen.checkpoints fs
    pub content_is : seen.content ≡ k.content (node_of fs)
    pub layout_is : seen.geometry ≡ k.geometry
    pub summary_is : k.IsSummary (node_of fs) summary
    pub counts : LeaveRoom seen.usage.counts (k.owed (node_of fs)) (most_at (length fs))

  -- A child of that node is on its way, and the flash stands at it.
  pub record Comes (seen : Seen) (fs : List (Frame A T)) (f : Frame A T) : Type 0 where
    pub stacked : Stacked seen.checkpoints fs
    pub layout_is : seen.geometry ≡ k.geometry
    pub frame : IsFrame (node_of fs) (length fs) (checkpoint_of seen) f

  -- So it is, and the flash can be marked there, the frame be put on, and the summary of the child be found.
  pub record Enters (seen : Seen) (fs : List (Frame A T)) (capacity : ℕ) (f : Frame A T) : Type 0 where
    pub comes : Comes seen fs f
    pub room : HasRoom (owed_there k f.at) (marked seen)
    pub mark : length seen.checkpoints < seen.usage.limits.checkpoints
    pub at_most : length fs < capacity

  -- There is room for what is counted and owed after so many steps; and for their checkpoints, that of the root, and one more.
  pub record IsRoomy (bound : ℕ) (seen : Seen) : Type 0 where
    pub entries : (most_at bound).entries ≤ seen.usage.limits.entries
    pub saved : (most_at bound).saved ≤ seen.usage.limits.saved
    pub checkpoints : bound + 2 ≤ seen.usage.limits.checkpoints

  -- The flash stands at the child of the last frame, and its parent has a next one. There is room to go to that, to mark the flash
  -- there, and to find its summary.
  pub record CanGoOn (seen : Seen) (fs : List (Frame A T)) : Type 0 where
    pub before : List (Frame A T)
    pub frame : Frame A T
    pub frames_are : fs ≡ before ++ frame ∷ []
    pub comes : Comes seen before frame
    pub more : frame.number + 1 < k.tree.width (node_of before)
    pub small : frame.number + 1 < 2 ^ 32
    pub has_next : HasNext k frame.at seen
    pub bound : ℕ
    pub at_most : length before < bound
    pub roomy : IsRoomy bound seen

  -- From the child of the last frame it went on to the next one, and the flash was marked there. There is room to find its summary.
  pub record HasGoneOn (all : List (Frame A T)) (new : Seen) (fs : List (Frame A T)) : Type 0 where
    pub before : List (Frame A T)
    pub frame : Frame A T
    pub next : Frame A T
    pub frames_are : all ≡ before ++ frame ∷ []
    pub next_are : fs ≡ before ++ next ∷ []
    pub number_is : next.number ≡ frame.number + 1
    pub seen : Seen
    pub comes : Comes seen before next
    pub marked_is : new ≡ marked seen
    pub room : HasRoom (owed_there k next.at) new

  -- The flash stands at the child of the last frame, which has that summary. There is room to go on from there, and to mark the flash.
  pub record CanPass (seen : Seen) (fs : List (Frame A T)) (summary : T) : Type 0 where
    pub before : List (Frame A T)
    pub frame : Frame A T
    pub frames_are : fs ≡ before ++ frame ∷ []
    pub comes : Comes seen before frame
    pub summary_is : k.IsSummary (k.tree.child (node_of before) frame.number) summary
    pub bound : ℕ
    pub at_most : length before < bound
    pub roomy : IsRoomy bound seen

  -- From there it went on to the last of so many twins, where it stands.
  pub record HasPassed (old : Seen) (all : List (Frame A T)) (summary : T) (count : ℕ) (new : Seen) (fs : List (Frame A T)) : Type 0 where
    pub stands : Stands new fs summary
    pub limits : new.usage.limits ≡ old.usage.limits
    pub before : List (Frame A T)
    pub frame : Frame A T
    pub next : Frame A T
    pub frames_are : all ≡ before ++ frame ∷ []
    pub next_are : fs ≡ before ++ next ∷ []
    pub number_is : next.number ≡ frame.number + count
    pub twins : AreTwinsOn k (node_of before) frame.number count summary

  -- The node before the last frame has a further child, which is a twin of the one where a walk stands, with that summary.
  pub record IsTwinOn (seen : Seen) (fs : List (Frame A T)) (stood : Option T) (summary : T) : Type 0 where
    pub stood_is : stood ≡ Some summary
    pub before : List (Frame A T)
    pub frame : Frame A T
    pub frames_are : fs ≡ before ++ frame ∷ []
    pub open_is : IsOpen frame
    pub small : frame.number + 1 < 2 ^ 32
    pub twin : (n : N) (i : ℕ) → IsAt k n i frame.at seen → i + 1 < k.tree.width n → k.IsSummary (k.tree.child n i) summary → IsTwin k n i summary
