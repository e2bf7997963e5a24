-- The tree of boots that are cut, in one round or in two, and how a walk goes through it.
use Rattle.std.proofs.Common.{arith, subst, sym}
use Rattle.std.specs.Prelude.{Bool, List, false, length, refl, ℕ, ◌-◌, ◌<◌, ◌≡◌, ◌≤◌}
use Rattle.mc_boot.specs.{Boot.{left_of, progress}, Outcome.{ops_of}, Plan.{PowerOn}, Restart.{one_write}}
use Rattle.mc_boot.specs.declared.boot.Boot.{Boot}
use Rattle.mc_explore.specs.{declared.rounds.BootTree.{BootTree}, declared.rounds.Both.{Both}, declared.rounds.ChildBoot.{ChildBoot}, declared.rounds.Round.{Round}, declared.rounds.Rounds.{Rounds}}
use Rattle.mc_explore.specs.{declared.one_round.Summary.{Summary}, inner.OneRound.{begins, most_of, round_model}}
use Rattle.mc_explore.specs.{Boots.{boots}, Rounds.{second_start, tree_of}}
use Rattle.mc_flash.specs.Usage.{Counts, LeaveRoom, no_counts, plus}
use Rattle.mc_tree.specs.{Tree.{RoundNode, landed, round_one, round_two}, facts.Rounds.{child_second}}
use Rattle.mc_walk.specs.TreeModel.{TreeModel}
use Rattle.mc_explore.specs.declared.rounds.Round.TheVariants as rounds_of
use Rattle.mc_explore.specs.declared.rounds.Rounds.TheVariants as kinds
use Rattle.mc_explore.specs.declared.rounds.ChildBoot.TheVariants as child_boots

-- The tree of two rounds of boots, as a walk goes through it.

-- What the last boot begins with.
abbrev pub boot_at : RoundNode PowerOn → PowerOn
boot_at (round_one x) = x
boot_at (round_two began x) = x

abbrev pub round_at : RoundNode PowerOn → Round
round_at (round_one x) = rounds_of.First
round_at (round_two began x) = rounds_of.Second

-- What the last boot of the first round begins with.
abbrev pub began_at : RoundNode PowerOn → PowerOn
began_at (round_one x) = x
began_at (round_two began x) = began

-- What the boot begins with that is cut at the children in the second round.
abbrev pub later_from : Bool → RoundNode PowerOn → PowerOn
later_from confirms (round_one x) = second_start confirms x
later_from confirms (round_two began x) = x

-- How many of its children lie in the first round.
abbrev pub first_width : RoundNode PowerOn → ℕ
first_width (round_one x) = length (ops_of x)
first_width (round_two began x) = 0

-- The child of that number is one in the second round, and its number among those.
abbrev pub IsLater : RoundNode PowerOn → ℕ → Type 0
IsLater (round_one x) i = length (ops_of x) ≤ i
IsLater (round_two began x) i = Unit {0}

abbrev pub later_number : RoundNode PowerOn → ℕ → ℕ
later_number (round_one x) i = i - length (ops_of x)
later_number (round_two began x) i = i

-- What both rounds count at most, with the write between them.
abbrev pub most_of_both : PowerOn → Counts
most_of_both start = plus (most_of start) (plus one_write (most_of start))

-- Whether the image confirms itself after the first round, if there is one.
abbrev pub confirms_of : Rounds → Bool
confirms_of kinds.One = false
confirms_of (kinds.Two confirms) = confirms

-- From one child to the next there is one operation, and between the rounds a write more.
abbrev pub step_of : Rounds → ℕ
step_of kinds.One = 1
step_of (kinds.Two confirms) = 2

-- There is a first round.
abbrev pub HasFirst : Rounds → Type 0
HasFirst kinds.One = ⊥
HasFirst (kinds.Two confirms) = Unit {0}

-- One round is the second of two, after none.
abbrev pub root_of : Rounds → PowerOn → RoundNode PowerOn
root_of kinds.One start = round_two start start
root_of (kinds.Two confirms) start = round_one start

-- A node of the first round is there only where there is one.
abbrev pub IsInside : Rounds → RoundNode PowerOn → Type 0
IsInside rounds (round_one x) = HasFirst rounds
IsInside rounds (round_two began x) = Unit {0}

-- What all rounds count at most.
abbrev pub all_of : PowerOn → Rounds → Counts
all_of start kinds.One = most_of start
all_of start (kinds.Two confirms) = most_of_both start

-- What is counted at most until the rounds of a node are over.
abbrev pub owed_at : PowerOn → Rounds → RoundNode PowerOn → Counts
owed_at start rounds (round_one x) = all_of start rounds
owed_at start rounds (round_two began x) = most_of start

pub owed_all : (start : PowerOn) (rounds : Rounds) (p : RoundNode PowerOn) → LeaveRoom no_counts (owed_at start rounds p) (all_of start rounds)
owed_all start rounds (round_one x) = record { entries = omega arith; saved = omega arith }
owed_all start kinds.One (round_two began x) = record { entries = omega arith; saved = omega arith }
owed_all start (kinds.Two confirms) (round_two began x) = record { entries = omega arith; saved = omega arith }

owed_both : (start : PowerOn) (rounds : Rounds) → LeaveRoom no_counts (all_of start rounds) (most_of_both start)
owed_both start kinds.One = record { entries = omega arith; saved = omega arith }
owed_both start (kinds.Two confirms) = record { entries = omega arith; saved = omega arith }

-- And until those of a child on its way are.
abbrev pub left_of_child_boot : PowerOn → ChildBoot → Counts
left_of_child_boot start (child_boots.First boot ops later) = plus (left_of start.geometry (progress boot)) (plus one_write (most_of start))
left_of_child_boot start (child_boots.Second boot) = left_of start.geometry (progress boot)

module _ (start : PowerOn) (rounds : Rounds) where
  -- A child in the first round is on its way: how many operations its boot makes uncut is known, and the summary of where the
  -- second round begins after it.
  pub record IsOnFirst (x : PowerOn) (i : ℕ) (boot : Boot) (ops : ℕ) (later : Summary) : Type 0 where
    pub inside : HasFirst rounds
    pub early : i < length (ops_of x)
    pub made : (round_model start).IsOn x i boot
    pub ops_is : ops ≡ length (ops_of x)
    pub later_is : (round_model start).IsSummary (second_start (confirms_of rounds) x) later

  -- A child of that number is on that way.
  abbrev pub IsChildBoot : ChildBoot → RoundNode PowerOn → ℕ → Type 0
  IsChildBoot (child_boots.First boot ops later) (round_one x) i = IsOnFirst x i boot ops later
  IsChildBoot (child_boots.First boot ops later) (round_two began x) i = ⊥
  IsChildBoot (child_boots.Second boot) p i = IsLater p i × (round_model start).IsOn (later_from (confirms_of rounds) p) (later_number p i) boot

  -- The summary of a node: its round, the last boot of the first round, and the boot of the second.
  pub record AreSummaries (p : RoundNode PowerOn) (both : Both) : Type 0 where
    pub inside : IsInside rounds p
    pub round_is : both.round ≡ round_at p
    pub first_is : (round_model start).IsSummary (began_at p) both.first
    pub second_is : (round_model start).IsSummary (later_from (confirms_of rounds) p) both.second

  pub owed_more : (p : RoundNode PowerOn) (i : ℕ) (child_boot : ChildBoot) → IsChildBoot child_boot p i
      → LeaveRoom no_counts (owed_at start rounds ((tree_of (confirms_of rounds)).child p i)) (plus (left_of_child_boot start child_boot) (most_of start))
  owed_more p i (child_boots.First boot ops later) on =
      let all = owed_all start rounds ((tree_of (confirms_of rounds)).child p i) in
      let both = owed_both start rounds in
      record { entries = omega (arith, all.entries, both.entries); saved = omega (arith, all.saved, both.saved) }
  owed_more (round_one x) i (child_boots.Second boot) on =
      subst (λ q. LeaveRoom no_counts (owed_at start rounds q) (plus (left_of start.geometry (progress boot)) (most_of start)))
      (sym (child_second boots (second_start (confirms_of rounds)) x i on.0)) (record { entries = omega arith; saved = omega arith })
  owed_more (round_two began x) i (child_boots.Second boot) on = record { entries = omega arith; saved = omega arith }

  abbrev pub boot_model : TreeModel (RoundNode PowerOn) ChildBoot Both
  boot_model = record {
    tree = tree_of (confirms_of rounds);
    root = root_of rounds start;
    geometry = start.geometry;
    content = λ p. (boot_at p).content;
    IsOn = λ p i child_boot. IsChildBoot child_boot p i;
    IsSummary = AreSummaries;
    step = step_of rounds;
    owed = owed_at start rounds;
    all = all_of start rounds;
    all_is = owed_all start rounds;
    left = left_of_child_boot start;
    most = most_of start;
    most_is = λ p i child_boot on some. owed_more p i child_boot on;
  }

-- What the first boot of a tree begins with, and the tree that it stands for.
abbrev pub begins_of : BootTree → PowerOn
begins_of t = begins t.one_round

unfoldable pub model_of : BootTree → TreeModel (RoundNode PowerOn) ChildBoot Both
model_of t = boot_model (begins_of t) t.rounds

-- Its users do not see into it. What they know of it:
pub model_is : (t : BootTree) → model_of t ≡ boot_model (begins_of t) t.rounds
unfolding model_of
model_is t = refl

pub summaries_at : (t : BootTree) (path : List ℕ) (both : Both) → (model_of t).IsSummary (landed (model_of t).tree (model_of t).root path) both
    → AreSummaries (begins_of t) t.rounds (landed (tree_of (confirms_of t.rounds)) (root_of t.rounds (begins_of t)) path) both
unfolding model_of
summaries_at t path both is = is
