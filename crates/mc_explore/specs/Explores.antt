-- Why an explorer gives up.
use Rattle.std.specs.Prelude.{Bool, false, true, ◌≡◌}
use Rattle.mc_explore.specs.declared.error.ExploreError.{ExploreError}
use Rattle.mc_walk.specs.declared.tour.TourError.{TourError}
use Rattle.mc_explore.specs.declared.error.ExploreError.TheVariants as errors
use Rattle.mc_walk.specs.declared.tour.TourError.TheVariants as tours

-- Why an explorer wants memory: its flash alone can take some as it goes.

-- A flash that does not count was refused a growth. One that counts has taken its room, which is enough.
abbrev pub RanOut : Bool → Bool → Type 0
RanOut counted failed = (counted ≡ false) × (failed ≡ true)

-- Why an explorer gives up where its tour does.
abbrev pub failure_of : TourError → ExploreError
failure_of tours.Memory = errors.Memory
failure_of tours.Failed = errors.Failed
