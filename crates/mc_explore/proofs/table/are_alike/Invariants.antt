use Rattle.std.proofs.Common.{ℕ, ◌<◌, ◌≡◌, ◌⊎◌}
use Rattle.mc_boot.specs.SharedTail.{index_in_parent}
use Rattle.mc_explore.proofs.table.are_alike.Given as goal

abbrev pub invariant-loop-step : goal.invariant-loop-step
invariant-loop-step l =
    (i : ℕ) → i < l.step → (index_in_parent l.one i ≡ index_in_parent l.other i) ⊎ ((index_in_parent l.one i ≡ l.first) × (index_in_parent l.other i ≡ l.number))
