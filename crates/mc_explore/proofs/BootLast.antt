-- Rows that are told by those at the children of another node.
use Rattle.std.proofs.Common.{Bool, List, Option, [], ap, false, length, subst, sym, true, ℕ, ◌++◌, ◌-◌, ◌∙◌, ◌∷◌, ◌≡◌}
use Rattle.std.specs.Prelude.{if◌then◌else◌, nat_lt}
use Rattle.std.proofs.Common.{arith}
use Rattle.mc_boot.specs.{Outcome.{ops_of, outcome_of}, Plan.{PowerOn}, SharedTail.{index_in_parent}, declared.outcome.Outcome.{Outcome}}
use Rattle.mc_explore.proofs.{BootWays.{child}, CutsAlong.{along-push}}
use Rattle.mc_explore.specs.{Boots.{boots}, Rounds.{second_start}, declared.ahead.Ahead.{Ahead}, declared.at_cuts.AtCuts.{AtCuts}, declared.boot_row.BootRow.{BootRow}, declared.boot_row.Ends.{Ends}}
use Rattle.mc_explore.specs.{declared.rounds.BootTree.{BootTree}, inner.BootEnds.{IsLikeNode}}
use Rattle.mc_explore.specs.inner.BootRows.{AreAhead, AreLikePaths, EndSo, EndSoAt, EndsFirst, HoldsEnds, IsRowIn, cut_at, first_there, node_of, one_cut_more, tree_in}
use Rattle.mc_explore.specs.inner.BootTree.{began_at, begins_of, confirms_of, first_width, root_of}
use Rattle.mc_tree.specs.{Tree.{RoundNode, round_one, round_two}, facts.Order.{landed-push}, facts.Rounds.{outside}}

module _ (t : BootTree) where
  -- What is told of a node is told of one of the same round where the boot begins with the same.
  end_alike : (p q : RoundNode PowerOn) (ends : Ends) → IsLikeNode p q → EndSo t p ends → EndSo t q ends
  end_alike (round_one x) (round_one y) ends same is = subst (λ z. HoldsEnds t.rounds (round_one z) ends) same is
  end_alike (round_one x) (round_two began y) ends same is = absurd same
  end_alike (round_two began x) (round_one y) ends same is = absurd same
  end_alike (round_two began x) (round_two other y) ends same is = ap outcome_of (sym same) ∙ is

  pub told_alike : (path other : List ℕ) (ends : Ends) → AreLikePaths t path other → EndSoAt t path ends → EndSoAt t other ends
  told_alike path other ends same is = end_alike (node_of t path) (node_of t other) ends same is

  -- A row tells of the node at the end of its path.
  told_of : (p : RoundNode PowerOn) (ends : Ends) → HoldsEnds t.rounds p ends → EndSo t p ends
  told_of (round_one x) ends is = is
  told_of (round_two began x) ends is = is.last

  pub row_told : (path : List ℕ) (row : BootRow) → IsRowIn t path row → EndSoAt t path row.ends
  row_told path row is = told_of (node_of t path) row.ends is.ends_so

  -- How the rounds end at a child, where that is told of another node.
  ends_there : (p q : RoundNode PowerOn) (i : ℕ) (ends : Ends) (first : Option Outcome) → IsLikeNode (child (confirms_of t.rounds) p i) q → EndSo t q ends → EndsFirst t.rounds (began_at p) first
      → HoldsEnds t.rounds (child (confirms_of t.rounds) p i) (record { first = if nat_lt i (first_width p) then ends.first else first; last = ends.last })
  ends_there (round_one s) q i ends first like told is = by (nat_lt i (length (ops_of s))) q like told
    where
      at : Bool → RoundNode PowerOn
      at early = if early then round_one (boots.child s i) else round_two s (boots.child (second_start (confirms_of t.rounds) s) (i - length (ops_of s)))

      by : (early : Bool) (q : RoundNode PowerOn) → IsLikeNode (at early) q → EndSo t q ends → HoldsEnds t.rounds (at early) (record { first = if early then ends.first else first; last = ends.last })
      by true (round_one y) like told = subst (λ z. HoldsEnds t.rounds (round_one z) ends) (sym like) told
      by true (round_two began y) like told = absurd like
      by false (round_one y) like told = absurd like
      by false (round_two began y) like told = record { first = is; last = ap outcome_of like ∙ told }
  ends_there (round_two began s) (round_one y) i ends first like told is = absurd like
  ends_there (round_two began s) (round_two other y) i ends first like told is =
      rw (outside 0 i (omega arith)) (record { first = is; last = ap outcome_of like ∙ told })

  -- The row of a child, where it is told of another node.
  module _ (kept : AtCuts Ends) (path : List ℕ) (ahead : Ahead) (count next : ℕ) (are : AreAhead t kept path ahead count) where
    pub row_there : (told : Ends) → AreLikePaths t (path ++ next ∷ []) (kept.parent_path ++ index_in_parent ahead.shared_tail next ∷ [])
        → EndSoAt t (kept.parent_path ++ index_in_parent ahead.shared_tail next ∷ []) told → (row : BootRow) → row.cuts ≡ one_cut_more ahead.cuts (cut_at ahead.in_first next)
        → row.ends.first ≡ first_there ahead told next → row.ends.last ≡ told.last → IsRowIn t (path ++ next ∷ []) row
    row_there told like is row cuts first last =
        let at = landed-push (tree_in t.rounds) (root_of t.rounds (begins_of t)) path next in
        let q : RoundNode PowerOn = node_of t (kept.parent_path ++ index_in_parent ahead.shared_tail next ∷ []) in
        let ends = ends_there (node_of t path) q next told ahead.first (subst (λ n. IsLikeNode n q) at like) is are.first_is in
        let first_is : (if nat_lt next (first_width (node_of t path)) then told.first else ahead.first) ≡ row.ends.first =
        ap (λ n. if nat_lt next n then told.first else ahead.first) (sym are.in_first_is) ∙ sym first in
        let ends_are : record { first = (if nat_lt next (first_width (node_of t path)) then told.first else ahead.first); last = told.last } ≡ row.ends =
        ap (λ (o : Option Outcome). record { first = o; last = told.last }) first_is ∙ ap (λ (o : Outcome). record { first = row.ends.first; last = o }) (sym last) in
        record {
          cuts_are = cuts ∙ ap (λ n. one_cut_more ahead.cuts (cut_at n next)) are.in_first_is
              ∙ ap (λ z. one_cut_more z (cut_at (first_width (node_of t path)) next)) are.cuts_are ∙ sym (along-push t.rounds (begins_of t) path next);
          ends_so = subst (λ n. HoldsEnds t.rounds n row.ends) (sym at) (subst (HoldsEnds t.rounds (child (confirms_of t.rounds) (node_of t path) next)) ends_are ends);
        }
