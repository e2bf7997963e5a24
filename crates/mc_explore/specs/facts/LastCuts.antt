-- What is told of the next of the last steps after a path.
use Rattle.std.proofs.Common.{arith, subst, sym}
use Rattle.std.specs.Prelude.{IsSomeAnd, List, None, Option, Some, [], ℕ, ◌++◌, ◌+◌, ◌-◌, ◌<◌, ◌∷◌, ◌≡◌, ◌≤◌}
use Rattle.mc_boot.specs.{SharedTail.{index_in_parent}, declared.shared_tail.SharedTail.{SharedTail}}
use Rattle.mc_explore.specs.{declared.at_cuts.AtCuts.{AtCuts}, inner.LastCuts.{AreKept, AreLastCuts, AreToldAlike}, inner.Runs.{IsSplit}}
use Rattle.mc_tree.specs.Tree.{landed}
use Rattle.mc_walk.specs.TreeModel.{TreeModel}

module _ {N A T O : Type 0} (k : TreeModel N A T) (IsLike : List ℕ → List ℕ → Type 0) (IsTold : List ℕ → O → Type 0) (path : List ℕ) (kept : AtCuts O) (tail : SharedTail)
    (count next : ℕ) (are : AreLastCuts k IsLike IsTold path kept tail count) (lt : next < count) where
  abbrev at : ℕ
  at = index_in_parent tail next - kept.first

  at_is : index_in_parent tail next ≡ kept.first + at
  at_is = omega (arith, are.low next)

  inside : next < k.tree.width (landed k.tree k.root path)
  inside = omega (arith, lt, are.count_is)

  some_there : at < kept.count
  some_there = omega (arith, at_is, are.joined.are_like.within next inside, are.whole)

  pub like_there : IsLike (path ++ next ∷ []) (kept.parent_path ++ index_in_parent tail next ∷ [])
  like_there = are.joined.are_like.like next inside

  pub told_there : (found : Option (O × ℕ)) → ((i : ℕ) → index_in_parent tail next ≡ kept.first + i → IsSplit kept.told.items kept.count → i < kept.count
      → IsSomeAnd found (λ f. AreToldAlike tail kept next i f.1 f.0)) → AreKept k IsLike IsTold kept
      → IsSomeAnd found (λ f. (j : ℕ) → j ≤ f.1 → IsTold (kept.parent_path ++ index_in_parent tail (next + j) ∷ []) f.0)
  told_there None is holds = is at at_is holds.at_cuts.split some_there
  told_there (Some f) is holds = λ j le.
      let there = is at at_is holds.at_cuts.split some_there j le in
      let run = there.1 in
      subst (λ n. IsTold (kept.parent_path ++ n ∷ []) f.0) (sym there.0) (holds.at_cuts.each run.run (at + j) _ run.there run.from run.below)
