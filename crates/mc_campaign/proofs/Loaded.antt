-- The room of a flash that was loaded for two rounds.
use Rattle.std.specs.Prelude.{◌≡◌, ℕ, ◌+◌, ◌*◌, ◌≤◌}
use Rattle.std.proofs.{Common.{arith, sym, ap}, Math.Nat.{mul-le-mul_right}}
use Rattle.mc_flash.specs.Usage.{Limits, limits_for, most_operations, most_saved, no_counts, Seen, Allows, LeaveRoom}
use Rattle.mc_boot.specs.Plan.{PowerOn}
use Rattle.mc_walk.specs.inner.Stack.{most_at}
use Rattle.mc_boot.specs.Restart.{one_write}
use Rattle.mc_explore.specs.inner.OneRound.{one_round, one_round_is}
use Rattle.mc_explore.specs.facts.BootRoom.{some_operations}

-- A flash loaded for two boots more than so many cuts have room for, on which no more was counted than those cuts and a boot make, has
-- room for one write more.
pub room_for_one : (start : PowerOn) (n boots : ℕ) (f : Seen) → LeaveRoom f.usage.counts no_counts (most_at (one_round start) n)
    → f.usage.limits ≡ limits_for start.rules.grain start.geometry boots → n + 2 ≤ boots → Allows one_write f
unfolding limits_for
room_for_one start n boots f counted is many =
    let counted = rw (one_round_is start) at counted in
    let g = start.geometry in
    let most = most_operations start.rules.grain g in
    let entries : n * most + 2 * most ≤ boots * most = rw (sym (two n most)) (mul-le-mul_right most many) in
    let saved : n * most_saved g + 2 * most_saved g ≤ boots * most_saved g = rw (sym (two n (most_saved g))) (mul-le-mul_right (most_saved g) many) in
    record {
      entries = omega (arith, counted.entries, some_operations start.rules.grain g, entries, ap (λ (l : Limits). l.entries) is);
      saved = omega (arith, counted.saved, saved, ap (λ (l : Limits). l.saved) is);
    }
  where
    two : (n m : ℕ) → (n + 2) * m ≡ n * m + 2 * m
    two n m = omega arith
