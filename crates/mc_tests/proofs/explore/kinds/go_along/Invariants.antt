use Rattle.std.proofs.Common.{true, ◌≡◌, ◌≤◌}
use Rattle.mc_tests.proofs.explore.kinds.go_along.Given as goal

abbrev pub invariant-loop-row : goal.invariant-loop-row
invariant-loop-row g l = (l.walk.stands ≡ true) × (l.walk.bound ≤ 16)
