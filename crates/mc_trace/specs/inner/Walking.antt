-- The frames of a boot as the walk gives them.
use Rattle.std.specs.Prelude.{List, None, Option, Some, [], length, slice_get, true, ℕ, ◌++◌, ◌+◌, ◌∷◌, ◌≡◌, ◌≤◌}
use Rattle.std.proofs.Common.{ap}
use Rattle.mc_boot.specs.{Outcome.{ops_of, outcome_of, shown}, Plan.{PowerOn, again}, declared.boot.Boot.{Boot}}
use Rattle.mc_explore.specs.{declared.one_round.OneRound.{OneRound}, declared.one_round.Summary.{Summary}, inner.LastCuts.{boot_at}, inner.OneRound.{begins, begun_of, one_round, one_round_is}}
use Rattle.mc_explore.specs.Boots.{at_cut}
use Rattle.mc_tree.specs.Tree.{landed}
use Rattle.mc_walk.specs.{TreeModel.{TreeModel}, Walks.{IsPath, Walked}}
use Rattle.mc_flash.specs.Flash.{Content}
use Rattle.mc_trace.specs.{Frames.{Shown, is_target}, declared.frame.Frame.{Frame}}

-- A frame as callers see it.
abbrev pub shown_frame : Frame → Shown
shown_frame f = record { boot = f.boot; number = f.number; is_cut = f.is_cut; op = f.op; report = shown f.outcome }

-- It is that of an operation of the boot from x, of that number among the boots, on that flash.
pub record IsFrameOf (boot : ℕ) (x : PowerOn) (cut : Option ℕ) (s : Content) (f : Frame) : Type 0 where
  pub boot_is : f.boot ≡ boot
  pub cut_is : f.is_cut ≡ is_target cut f.number
  pub content_is : s ≡ at_cut x f.number
  pub op_is : slice_get (ops_of x) f.number ≡ Some f.op
  pub outcome_is : outcome_of (again x s) ≡ Some (shown f.outcome)

-- It is that of the child at which a walk stands.
abbrev pub IsFrameHere : Walked OneRound → ℕ → Option ℕ → Frame → Type 0
IsFrameHere w boot cut f = (before : List ℕ) × (w.path ≡ before ++ f.number ∷ []) × IsFrameOf boot (boot_at (begun_of w) before) cut w.seen.content f

-- The tree of a walk.
abbrev pub model_of : OneRound → TreeModel PowerOn Boot Summary
model_of t = one_round (begins t)

-- A node has as many children as its boot makes operations.
pub width_along : (t : OneRound) (path : List ℕ) → (model_of t).tree.width (landed (model_of t).tree (model_of t).root path) ≡ length (ops_of (boot_at (begins t) path))
width_along t path = ap (λ (k : TreeModel PowerOn Boot Summary). k.tree.width (landed k.tree k.root path)) (one_round_is (begins t))

-- How many frames there are of so many operations.
abbrev pub length_to : Option ℕ → ℕ → ℕ
length_to None count = count
length_to (Some cut) count = cut + 1

-- A walk from that start stands at a node, at least so many steps before its bound.
pub record IsReady (start : PowerOn) (more : ℕ) (w : Walked OneRound) : Type 0 where
  pub start_is : begun_of w ≡ start
  pub stands : w.stands ≡ true
  pub listed : IsPath (model_of w.flash_tree) w w.path
  pub deep : length w.path + more ≤ w.bound
