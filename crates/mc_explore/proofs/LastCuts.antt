-- What is told at the children of one node, and the rows of the nodes whose children lie among them.
use Rattle.std.proofs.{Common.{ap, arith, inl, inr, refl, subst, sym, ◌∙◌}, lemmas.Bool.Decides.{nat_tests}, lemmas.List.{same_from_push}}
use Rattle.std.specs.{List.{slice_get}, Prelude.{IfSome, List, None, Option, Some, [], length, suc, zero, ℕ, ◌++◌, ◌+◌, ◌<◌, ◌∷◌, ◌≡◌, ◌≤◌, ◌⊎◌}}
use Rattle.mc_boot.specs.{SharedTail.{index_in_parent}, declared.shared_tail.SharedTail.{SharedTail}}
use Rattle.mc_explore.specs.{declared.at_cuts.AtCuts.{AtCuts}, declared.at_cuts.Joined.{Joined}, declared.run.Run.{Run}, facts.Children.{child_here}, inner.Runs.{AreOf, IsIn, begin_of}}
use Rattle.mc_explore.proofs.Runs.{of_last, of_more}
use Rattle.mc_explore.specs.inner.LastCuts.{AreKept, AreLike, AreTold, AreToldAlike, IsIndexOf, IsJoined, IsNothing, IsOneRunMore, IsToldLast}
use Rattle.mc_tree.specs.{Tree.{Allowed, landed}, facts.Order.{allowed-last}}
use Rattle.mc_walk.specs.{TreeModel.{IsChildOf, TreeModel}, Walks.{IsLastStep, IsThere, Walked}, declared.frame.Frame.{Frame}}

module _ {N A T O : Type 0} (k : TreeModel N A T) (IsLike : List ℕ → List ℕ → Type 0) (IsTold : List ℕ → O → Type 0) where
  -- What is told of a child of a joined node is told of that of its parent.
  told_joined : ((p q : List ℕ) (o : O) → IsLike p q → IsTold p o → IsTold q o) → (joined : Option Joined) (parent_path path : List ℕ) (index : ℕ) (o : O)
      → IfSome joined (λ j. IsJoined k IsLike parent_path j.path j.shared_tail) → IsIndexOf joined path index → Allowed k.tree k.root path → IsTold path o
      → IsTold (parent_path ++ index ∷ []) o
  told_joined alike None of path index o joined is allowed told = absurd is
  told_joined alike (Some j) of path index o joined (last, split, index_is) allowed told =
      let inside = allowed-last k.tree k.root j.path last (subst (Allowed k.tree k.root) split allowed) in
      subst (λ n. IsTold (of ++ n ∷ []) o) (sym index_is) (alike _ _ o (joined.are_like.like last inside) (subst (λ l. IsTold l o) split told))

  -- What is kept stays so, and one more.
  pub kept_more : ((p q : List ℕ) (o : O) → IsLike p q → IsTold p o → IsTold q o) → (old new : AtCuts O) → AreKept k IsLike IsTold old → (path : List ℕ) (index : ℕ) (told : O)
      → (AreTold IsTold old → IsTold (old.parent_path ++ index ∷ []) told → AreTold IsTold new) → new.parent_path ≡ old.parent_path → new.joined ≡ old.joined
      → IsIndexOf old.joined path index → Allowed k.tree k.root path → IsTold path told → AreKept k IsLike IsTold new
  kept_more alike old new kept path index told more parent joined is allowed here = record {
    at_cuts = more kept.at_cuts (told_joined alike old.joined old.parent_path path index told kept.joined_is is allowed here);
    joined_is = rw (sym parent, sym joined) at kept.joined_is;
  }

-- After the erases that a boot begins with the indices go on one by one.
index_on : (x : SharedTail) (number j : ℕ) → x.erases ≤ number → index_in_parent x (number + j) ≡ index_in_parent x number + j
index_on x number j le = grind (arith, nat_tests)

-- What is told in a run is told at its later cuts too.
pub told_alike : {O : Type 0} (x : SharedTail) (kept : AtCuts O) (number i more r : ℕ) (run : Run O) → index_in_parent x number ≡ kept.first + i → slice_get kept.told.items r ≡ Some run
    → begin_of kept.told.items kept.count r ≤ i → i + more < begin_of kept.told.items kept.count (suc r) → (0 < more → x.erases ≤ number) → AreToldAlike x kept number i more run.of
told_alike x kept number i more r run at is from below on j le = (by j le, there)
  where
    there : IsIn kept.told.items kept.count (i + j) run.of
    there = record { run = r; first = run.first; there = is; from = omega (arith, from); below = omega (arith, below, le) }

    by : (j : ℕ) → j ≤ more → index_in_parent x (number + j) ≡ kept.first + (i + j)
    by zero le = let none : number + 0 ≡ number = omega arith in rw none (omega (arith, at))
    by (suc j) le = omega (arith, index_on x number (suc j) (on (omega (arith, le))), at)

-- What is told of the cuts of which something is kept.
module _ {O : Type 0} (IsTold : List ℕ → O → Type 0) where
  -- Of none.
  pub told_none : (kept : AtCuts O) → IsNothing kept → AreTold IsTold kept
  told_none kept none = record {
    split = record {
      begin = ap (λ (l : List (Run O)). begin_of l kept.count 0) none.0 ∙ none.1;
      rising = λ r lt. absurd (omega (arith, lt, ap (λ (l : List (Run O)). length l) none.0));
    };
    each = λ r i run is le below. absurd (let gone = sym (ap (λ l. slice_get l r) none.0) ∙ is in cc);
  }

  module _ (old new : AtCuts O) where
    -- Of the same, or of none.
    pub told_turned : (new ≡ old) ⊎ IsNothing new → AreTold IsTold old → AreTold IsTold new
    told_turned (inl same) are = subst (AreTold IsTold) (sym same) are
    told_turned (inr none) are = told_none new none

    module _ (are : AreTold IsTold old) (told : O) (here : IsTold (old.parent_path ++ (old.first + old.count) ∷ []) told) (first : new.first ≡ old.first)
        (path : new.parent_path ≡ old.parent_path) where
      abbrev Of : ℕ → Run O → Type 0
      Of i run = IsTold (old.parent_path ++ (old.first + i) ∷ []) run.of

      told_there : AreOf Of new.count new.told.items → AreTold IsTold new
      told_there is = rw (sym first, sym path) at is

      both : (n : ℕ) (l : List (Run O)) → new.count ≡ n → new.told.items ≡ l → AreOf Of n l → AreTold IsTold new
      both n l count items is = told_there (subst (λ m. AreOf Of m new.told.items) (sym count) (subst (AreOf Of n) (sym items) is))

      -- Of one more in the last run.
      pub told_last : IsToldLast old told → new.told.items ≡ old.told.items → new.count ≡ old.count + 1 → AreTold IsTold new
      told_last (run, last, same) items count =
          both _ _ count items (of_last Of old.count old.told.items are run last (subst (IsTold (old.parent_path ++ (old.first + old.count) ∷ [])) (sym same) here))

      -- Of one more in its own.
      pub told_more : IsOneRunMore old told new → AreTold IsTold new
      told_more (inl same) = both _ _ same.1 same.0 are
      told_more (inr more) = both _ _ more.1 more.0 (of_more Of old.count old.told.items are (record { first = old.count; of = told }) refl here)

-- Where nothing is kept.
pub kept_none : {N A T O : Type 0} (k : TreeModel N A T) (IsLike : List ℕ → List ℕ → Type 0) (IsTold : List ℕ → O → Type 0) (kept : AtCuts O) → IsNothing kept → kept.joined ≡ None
    → AreKept k IsLike IsTold kept
kept_none k IsLike IsTold kept none joined = record { at_cuts = told_none IsTold kept none; joined_is = rw joined tt }

-- A walk stands after a step, with that summary.
module _ {B N A T : Type 0} (k : TreeModel N A T) (w : Walked B) (f : Frame A T) (summary : T) (of path : List ℕ) (last : ℕ) (step : IsLastStep k w f) (there : IsThere k w summary)
    (path_is : path ≡ w.path) (split : path ≡ of ++ last ∷ []) where
  abbrev before : N
  before = landed k.tree k.root of

  before_is : landed k.tree k.root step.before ≡ before
  before_is = ap (landed k.tree k.root) (same_from_push step.before of f.number last (sym step.path_is ∙ sym path_is ∙ split)).0

  pub parent_there : k.IsSummary before f.parent
  parent_there = subst (λ n. k.IsSummary n f.parent) before_is step.parent_is

  pub node_there : k.IsSummary (landed k.tree k.root path) summary
  node_there = subst (λ l. k.IsSummary (landed k.tree k.root l) summary) (sym path_is) there.summary_is

  pub joined_there : (IsLike : List ℕ → List ℕ → Type 0) (tail : SharedTail)
      → ((l : List ℕ) (i : ℕ) → IsChildOf k (landed k.tree k.root l) i f.at f.parent summary w.seen → AreLike k IsLike l (l ++ i ∷ []) tail) → IsJoined k IsLike of path tail
  joined_there IsLike tail like =
      let are = like step.before f.number (child_here k w f summary there step) in
      let here : path ≡ step.before ++ f.number ∷ [] = path_is ∙ step.path_is in
      record {
        number = last;
        path_is = split;
        are_like = subst (λ l. AreLike k IsLike l path tail) (same_from_push step.before of f.number last (sym step.path_is ∙ sym path_is ∙ split)).0
            (subst (λ l. AreLike k IsLike step.before l tail) (sym here) are);
      }
