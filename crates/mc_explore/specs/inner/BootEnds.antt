-- How a path of boots ends, and where the nodes below a child lie among those below its parent.
use Rattle.std.specs.Prelude.{Bool, List, ℕ, ◌+◌, ◌<◌, ◌≡◌, ◌≤◌}
use Rattle.mc_boot.specs.{Outcome.{Report}, Plan.{PowerOn}, SharedTail.{index_in_parent}, declared.outcome.BootResult.{BootResult}, declared.shared_tail.SharedTail.{SharedTail}, facts.Run.{outcome_defined}}
use Rattle.mc_explore.specs.{declared.rounds.BootTree.{BootTree}, declared.rounds.Rounds.{Rounds}}
use Rattle.mc_explore.specs.declared.rounds.Rounds.TheVariants as kinds
use Rattle.mc_explore.specs.inner.BootTree.{began_at, begins_of, confirms_of, later_from, root_of}
use Rattle.mc_explore.specs.Rounds.{end_result, tree_of}
use Rattle.mc_tree.specs.Tree.{RoundNode, landed, round_one, round_two}

-- How the rounds end: one as it does, and two as their last, but where the first does not end in a boot.
abbrev pub result_of : Rounds → BootResult → BootResult → BootResult
result_of kinds.One first last = last
result_of (kinds.Two confirms) first last = end_result first last

abbrev pub ends_by : Rounds → Report → Report → Report
ends_by rounds first last = record last { result = result_of rounds first.result last.result }

abbrev pub report_from : PowerOn → Report
report_from s = (outcome_defined s).0

-- So a path ends that leads to a node.
abbrev pub end_at : Rounds → RoundNode PowerOn → Report
end_at rounds p = ends_by rounds (report_from (began_at p)) (report_from (later_from (confirms_of rounds) p))

abbrev pub report_in : PowerOn → Rounds → List ℕ → Report
report_in start rounds path = end_at rounds (landed (tree_of (confirms_of rounds)) (root_of rounds start) path)

abbrev pub report_of : BootTree → List ℕ → Report
report_of t path = report_in (begins_of t) t.rounds path

-- Two nodes of one round where the boot begins with the same.
abbrev pub IsLikeNode : RoundNode PowerOn → RoundNode PowerOn → Type 0
IsLikeNode (round_one x) (round_one y) = x ≡ y
IsLikeNode (round_one x) (round_two began y) = ⊥
IsLikeNode (round_two began x) (round_one y) = ⊥
IsLikeNode (round_two began x) (round_two other y) = x ≡ y

-- The children of a node, the second, lie among those of another.
pub record LieIn (confirms : Bool) (p q : RoundNode PowerOn) (tail : SharedTail) : Type 0 where
  pub width : (tree_of confirms).width q + tail.kept ≡ (tree_of confirms).width p
  pub at_most : tail.erases ≤ (tree_of confirms).width q
  pub within : (j : ℕ) → j < (tree_of confirms).width q → index_in_parent tail j < (tree_of confirms).width p
  pub like : (j : ℕ) → j < (tree_of confirms).width q → IsLikeNode ((tree_of confirms).child q j) ((tree_of confirms).child p (index_in_parent tail j))
