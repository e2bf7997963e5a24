-- Walks from a start.
use Rattle.std.specs.Prelude.{Bool, IfSome, List, Option, false, true, ℕ, ◌*◌, ◌+◌, ◌≡◌, ◌≤◌}
use Rattle.mc_boot.specs.Plan.{PowerOn}
use Rattle.mc_explore.specs.{declared.one_round.OneRound.{OneRound}, inner.OneRound.{begins, begun_of, one_round}}
use Rattle.mc_explore.specs.Boots.{boots}
use Rattle.mc_explore.specs.inner.Exploring as loading
use Rattle.mc_flash.specs.Usage.{most_operations}
use Rattle.mc_start.specs.Start.{start_digest}
use Rattle.mc_walk.specs.Walks.{Walked}
use Rattle.mc_tree.specs.Tree as tree

-- It is the digest of that start, where there is one.
abbrev pub IsDigestOf : PowerOn → Option (List ℕ) → Type 0
IsDigestOf start digest = IfSome digest (λ d. d ≡ start_digest start)

-- A walk along schedules that was just loaded for a start.
abbrev pub IsLoaded : Bool → PowerOn → ℕ → Walked OneRound → Type 0
IsLoaded = loading.IsLoaded (λ o. one_round (begins o)) begins

-- A walk that has come along a schedule, from a start.
pub record Followed (counted : Bool) (start : PowerOn) (bound : ℕ) (path : List ℕ) (w : Walked OneRound) : Type 0 where
  pub start_is : begun_of w ≡ start
  pub bound_is : w.bound ≡ bound
  pub path_is : w.path ≡ path
  pub stands : w.stands ≡ true
  pub allowed : tree.IsMember boots start bound path
  pub counted_is : w.seen.usage.limits.counted ≡ counted
  pub no_allocation_failed : w.seen.usage.failed ≡ false
  pub applied : w.seen.usage.applied ≤ 2 * (bound + 1) * most_operations start.rules.grain start.geometry
