-- A node from which no path goes on.
use Rattle.std.specs.List.{slice_get}
use Rattle.std.specs.Prelude.{List, Some, [], length, refl, suc, zero, ℕ, ◌+◌, ◌<◌, ◌∷◌, ◌≡◌}
use Rattle.std.proofs.Common.{ap, arith, subst, sym}
use Rattle.mc_boot.specs.Outcome.{Report}
use Rattle.mc_tree.specs.Tree.{Tree}
use Rattle.mc_explore.specs.declared.expectation.Expectation.{Expectation}
use Rattle.mc_explore.specs.{inner.Table.{HasWeights, own_totals, weigh}, inner.Totals.{cut_off}}
use Rattle.mc_explore.proofs.Counting.{Census}

pub one_weight : (t : Tree (List ℕ)) (ended : List ℕ → Report) (e : Expectation) (n : List ℕ) (bound : ℕ) (own : Census) (items : List Census) → bound ≡ 0 → items ≡ own ∷ []
    → own ≡ cut_off (own_totals t ended e n) → HasWeights t ended e n (bound + 1) items
one_weight t ended e n bound own items none items_are own_is =
    subst (λ b. HasWeights t ended e n (b + 1) items) (sym none) (subst (λ xs. HasWeights t ended e n (0 + 1) xs) (sym items_are) (refl, at))
  where
    at : (i : ℕ) → i < length (own ∷ []) → slice_get (own ∷ []) i ≡ Some (cut_off (weigh t ended e i n))
    at zero lt = ap (λ (c : Census). Some c) own_is
    at (suc i) lt = absurd (omega (arith, lt))
