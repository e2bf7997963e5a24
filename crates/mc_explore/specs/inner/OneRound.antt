-- The tree of boots that are cut, and how a walk goes through it.
use Rattle.std.proofs.Common.{arith}
use Rattle.std.specs.Prelude.{Err, List, Ok, Result, Some, [], length, refl, ℕ, ◌+◌, ◌<◌, ◌∷◌, ◌≡◌}
use Rattle.mc_boot.specs.{Boot.{HasCome, IsBootOf, IsBounded, IsCold, all_of, begun, left_of, progress}, Outcome.{left_by, ops_of, outcome_of, shown}}
use Rattle.mc_boot.specs.{Plan.{PowerOn, again, plan}, SharedTail.{IsSharedTail}, declared.boot.Boot.{Boot}}
use Rattle.mc_boot.specs.declared.shared_tail.SharedTail.{SharedTail}
use Rattle.mc_explore.specs.{declared.one_round.OneRound.{OneRound}, declared.one_round.Summary.{Summary}}
use Rattle.mc_flash.specs.Flash.{Content, IsSized}
use Rattle.mc_flash.specs.Usage.{Allows, Counts, Keeps, LeaveRoom, Seen, most_operations, most_saved, no_counts, plus}
use Rattle.mc_start.specs.Start as starts
use Rattle.mc_explore.specs.Boots.{at_cut, boots}
use Rattle.mc_walk.specs.{TreeModel.{IsAt, TreeModel}, Walks.{Walked}}

-- The contents at the cuts of a schedule.
abbrev pub cuts : PowerOn → List ℕ → List Content
cuts x [] = []
cuts x (cut ∷ rest) = at_cut x cut ∷ cuts (again x (at_cut x cut)) rest

-- The tree of boots that are cut, as a walk goes through it.

-- What the first boot from a start begins with.
abbrev pub begins : OneRound → PowerOn
begins o = starts.begun o.start.now

abbrev pub begun_of : Walked OneRound → PowerOn
begun_of w = begins w.flash_tree

-- The most that a boot counts.
abbrev pub most_of : PowerOn → Counts
most_of x = record { entries = most_operations x.rules.grain x.geometry; saved = most_saved x.geometry }

-- The boot of s has made so many operations.
pub record HasMade (x : PowerOn) (n : ℕ) (b : Boot) : Type 0 where
  pub layout_is : IsBootOf x.geometry b
  pub list_is : all_of b ≡ (plan x).list
  pub come : HasCome x (progress b) (at_cut x n)
  pub count_is : b.done ≡ n

-- That is the summary of s, a content of the slots' lengths: the boot from there, with few operations, and its outcome.
pub record IsSummary (x : PowerOn) (summary : Summary) : Type 0 where
  pub boot_is : progress summary.boot ≡ begun x.rules (plan x)
  pub list_is : all_of summary.boot ≡ (plan x).list
  pub layout_is : IsBootOf x.geometry summary.boot
  pub at_most : IsBounded x.geometry (plan x).list (most_operations x.rules.grain x.geometry) (most_saved x.geometry)
  pub sized : IsSized x.geometry x.content
  pub outcome_is : outcome_of x ≡ Some (shown summary.outcome)

-- A boot at power-on from where a flash stands, by the rules of that start and of a flash of its layout.
pub record BeginsOn (start : PowerOn) (f : Seen) (b : Boot) : Type 0 where
  pub layout_is : f.geometry ≡ start.geometry
  pub begun : IsCold start.rules f b

-- The boot from x ran to its end: its summary is that, and it left this.
pub record HasRun (x : PowerOn) (summary : Summary) (left : Content) : Type 0 where
  pub summary_is : IsSummary x summary
  pub left_is : left_by x ≡ Some left

-- The layout and the checkpoints stay, and no more is counted than that.
pub record CountsAtMost (most : Counts) (old new : Seen) : Type 0 where
  pub keeps : Keeps old new
  pub counts : LeaveRoom new.usage.counts no_counts (plus old.usage.counts most)

module _ (start : PowerOn) where
  -- It is by the rules and of the layout of the start.
  abbrev pub IsOf : PowerOn → Type 0
  IsOf x = x ≡ again start x.content

  -- One goes from a child to the next by one operation, and one boot finds the summary of a node.
  abbrev pub round_model : TreeModel PowerOn Boot Summary
  round_model = record {
    tree = boots;
    root = start;
    geometry = start.geometry;
    content = λ x. x.content;
    IsOn = λ x i b. IsOf x × HasMade x i b;
    IsSummary = λ x summary. IsOf x × IsSummary x summary;
    step = 1;
    owed = λ x. most_of start;
    all = most_of start;
    all_is = λ x. record { entries = omega arith; saved = omega arith };
    left = λ b. left_of start.geometry (progress b);
    most = most_of start;
    most_is = λ x i b on some. record { entries = omega arith; saved = omega arith };
  }

  -- The boot of a node was cut before an operation that it makes uncut, and there is room for what it has left.
  abbrev pub CanPass : Boot → Seen → Type 0
  CanPass b seen = (x : PowerOn) × (i : ℕ) × IsAt round_model x i b seen × (i < length (ops_of x)) × Allows (left_of start.geometry (progress b)) seen

  -- It has made that operation, and counts no more than it had left.
  abbrev pub Passes : {E : Type 0} → Boot → Seen → Result (Unit {0}) E → Boot → Seen → Type 0
  Passes b old (Ok _) b' new =
      ((x : PowerOn) (i : ℕ) → IsAt round_model x i b old → i < length (ops_of x) → IsAt round_model x (i + 1) b' new)
      × LeaveRoom new.usage.counts (left_of start.geometry (progress b')) (plus old.usage.counts (left_of start.geometry (progress b)))
  Passes b old (Err _) b' new = Unit {0}

  -- The uncut boot from a cut leaves what the boot that was cut would have left, with that summary.
  abbrev pub LeavesAlike : Boot → Summary → Seen → Type 0
  LeavesAlike b parent seen =
      (x : PowerOn) (i : ℕ) → IsAt round_model x i b seen → i < length (ops_of x) → IsSummary x parent → left_by (boots.child x i) ≡ left_by x

-- The tree of a walk.
unfoldable pub one_round : PowerOn → TreeModel PowerOn Boot Summary
one_round start = round_model start

-- Its users do not see into it. What they know of it:
pub one_round_is : (start : PowerOn) → one_round start ≡ round_model start
unfolding one_round
one_round_is start = refl

-- The boot after a cut goes on with the one that was cut: its flashes lie among those of that one, and both leave the same.
abbrev pub GoesOnIn : PowerOn → ℕ → SharedTail → Type 0
GoesOnIn x i tail = IsSharedTail x (at_cut x i) tail
