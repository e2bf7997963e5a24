use Rattle.std.proofs.Common.{◌≡◌, ◌+◌, ◌-◌, ◌^◌, ◌<◌, min, drop}
use Rattle.mc_life.specs.Device.{sum_of, total}
use Rattle.mc_life.proofs.wear_text.total.Given as goal

abbrev pub invariant-sectors : goal.invariant-sectors
invariant-sectors l = record { so_far : min (2 ^ 64 - 1) (l.all + sum_of (drop l.count-index l.counts)) ≡ total l.counts; small : l.all < 2 ^ 64 }
