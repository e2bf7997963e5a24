-- Rows of a tree of boots: the cuts along a path, in one round or in two, and how the rounds end.
use Rattle.std.specs.Prelude.{List, None, Option, Some, [], if◌then◌else◌, min, nat_lt, option_map, suc, ℕ, ◌++◌, ◌+◌, ◌-◌, ◌==◌, ◌∷◌, ◌≡◌}
use Rattle.mc_boot.specs.{Outcome.{outcome_of, shown}, Plan.{PowerOn}, declared.outcome.Outcome.{Outcome}}
use Rattle.mc_explore.specs.{Boots.{boots}, Rounds.{second_start, tree_of}, declared.ahead.Ahead.{Ahead}, declared.at_cuts.AtCuts.{AtCuts}, declared.boot_row.BootRow.{BootRow}}
use Rattle.mc_explore.specs.{declared.boot_row.Cuts.{Cuts}, declared.boot_row.Ends.{Ends}, declared.rounds.BootTree.{BootTree}, declared.rounds.Rounds.{Rounds}}
use Rattle.mc_explore.specs.inner.{BootEnds.{IsLikeNode}, BootTree.{began_at, begins_of, confirms_of, first_width, later_from, model_of, root_of}, LastCuts.{AreKept, AreLastCuts}}
use Rattle.mc_explore.specs.declared.rounds.Rounds.TheVariants as kinds
use Rattle.mc_start.specs.Start.{IsNextText, on_last, schedule_text}
use Rattle.mc_tree.specs.Tree.{RoundNode, Tree, labels, landed, round_one, round_two}
use Rattle.mc_tree.specs.Tree as tree

-- The tree of one round or of two, and the node at the end of a path.
abbrev pub tree_in : Rounds → Tree (RoundNode PowerOn)
tree_in rounds = tree_of (confirms_of rounds)

abbrev pub node_in : Rounds → PowerOn → List ℕ → RoundNode PowerOn
node_in rounds start path = landed (tree_in rounds) (root_of rounds start) path

-- The cuts along a path, each with its round. One round goes as the second of two.
abbrev pub labels_along : Rounds → PowerOn → List ℕ → List (ℕ × ℕ)
labels_along rounds start path = labels boots (second_start (confirms_of rounds)) (root_of rounds start) path

-- Their numbers, and how many lie in the first of two rounds.
abbrev pub numbers_of : List (ℕ × ℕ) → List ℕ
numbers_of [] = []
numbers_of (cut ∷ cuts) = cut.1 ∷ numbers_of cuts

abbrev pub in_first_of : List (ℕ × ℕ) → ℕ
in_first_of [] = 0
in_first_of (cut ∷ cuts) = if cut.0 == 1 then suc (in_first_of cuts) else in_first_of cuts

abbrev pub cuts_of : List (ℕ × ℕ) → Cuts
cuts_of cuts = record { numbers = numbers_of cuts; in_first = in_first_of cuts }

abbrev pub cuts_along : Rounds → PowerOn → List ℕ → Cuts
cuts_along rounds start path = cuts_of (labels_along rounds start path)

-- A path of at most so many steps, and the cuts along it.
pub record IsPathOf (rounds : Rounds) (start : PowerOn) (bound : ℕ) (path : List ℕ) (cuts : Cuts) : Type 0 where
  pub member : tree.IsMember (tree_in rounds) (root_of rounds start) bound path
  pub cuts_are : cuts_along rounds start path ≡ cuts

-- One cut more.
abbrev pub one_cut_more : Cuts → ℕ × ℕ → Cuts
one_cut_more cuts cut = record { numbers = cuts.numbers ++ cut.1 ∷ []; in_first = if cut.0 == 1 then cuts.in_first + 1 else cuts.in_first }

-- A child by its round and its number there, where so many lie in the first; and how many of so many lie in the same round from that
-- one on.
abbrev pub cut_at : ℕ → ℕ → ℕ × ℕ
cut_at in_first number = if nat_lt number in_first then (1, number) else (2, number - in_first)

abbrev pub left_in_round : ℕ → ℕ → ℕ → ℕ
left_in_round in_first number count = (if nat_lt number in_first then min in_first count else count) - number

-- How the first of two rounds ends, with the boot from there; and the rounds of a node.
abbrev pub EndsFirst : Rounds → PowerOn → Option Outcome → Type 0
EndsFirst kinds.One x first = first ≡ None
EndsFirst (kinds.Two confirms) x first = outcome_of x ≡ option_map shown first

pub record HoldsEnds (rounds : Rounds) (p : RoundNode PowerOn) (ends : Ends) : Type 0 where
  pub first : EndsFirst rounds (began_at p) ends.first
  pub last : outcome_of (later_from (confirms_of rounds) p) ≡ Some (shown ends.last)

-- A row is that of a path: its cuts lie there, and so the rounds end.
pub record IsRowOf (rounds : Rounds) (start : PowerOn) (path : List ℕ) (row : BootRow) : Type 0 where
  pub cuts_are : row.cuts ≡ cuts_along rounds start path
  pub ends_so : HoldsEnds rounds (node_in rounds start path) row.ends

-- The row with its last cut counted up by so much; by one, its text is the next one.
abbrev pub counted_up : ℕ → BootRow → BootRow
counted_up j row = record { cuts = record { numbers = on_last (λ n. n + j) row.cuts.numbers; in_first = row.cuts.in_first }; ends = row.ends }

abbrev pub CanCountUp : BootRow → Type 0
CanCountUp row = IsNextText (schedule_text row.cuts.numbers) (schedule_text (counted_up 1 row).cuts.numbers)

-- How the first round ends at a child, as it was told there, or as it had ended before.
abbrev pub first_there : Ahead → Ends → ℕ → Option Outcome
first_there ahead told number = if nat_lt number ahead.in_first then told.first else ahead.first

module _ (t : BootTree) where
  abbrev pub IsRowIn : List ℕ → BootRow → Type 0
  IsRowIn = IsRowOf t.rounds (begins_of t)

  abbrev pub node_of : List ℕ → RoundNode PowerOn
  node_of = node_in t.rounds (begins_of t)

  -- Paths to nodes of one round where the boot begins with the same.
  abbrev pub AreLikePaths : List ℕ → List ℕ → Type 0
  AreLikePaths path other = IsLikeNode (node_of path) (node_of other)

  -- What is told of a node: how its rounds end. Of a node in the second round only the end of that is told.
  abbrev pub EndSo : RoundNode PowerOn → Ends → Type 0
  EndSo (round_one x) ends = HoldsEnds t.rounds (round_one x) ends
  EndSo (round_two began x) ends = outcome_of x ≡ Some (shown ends.last)

  abbrev pub EndSoAt : List ℕ → Ends → Type 0
  EndSoAt path = EndSo (node_of path)

  -- What is kept of the cuts of a boot.
  abbrev pub AreKeptOf : AtCuts Ends → Type 0
  AreKeptOf = AreKept (model_of t) AreLikePaths EndSoAt

  -- The rows after the last cuts of a node.
  pub record AreAhead (kept : AtCuts Ends) (path : List ℕ) (ahead : Ahead) (count : ℕ) : Type 0 where
    pub are : AreLastCuts (model_of t) AreLikePaths EndSoAt path kept ahead.shared_tail count
    pub cuts_are : ahead.cuts ≡ cuts_along t.rounds (begins_of t) path
    pub in_first_is : ahead.in_first ≡ first_width (node_of path)
    pub first_is : EndsFirst t.rounds (began_at (node_of path)) ahead.first
