use Rattle.std.specs.Prelude.{drop, option_map, ◌≡◌}
use Rattle.mc_boot.specs.Plan.{again}
use Rattle.mc_start.specs.Start.{begun}
use Rattle.mc_tears.specs.Losses.{after_losses}
use Rattle.mc_tears.proofs.losses.start_after.Given as goal

abbrev pub invariant-loop-loss : goal.invariant-loop-loss
invariant-loop-loss g l = record {
  on : option_map (again (begun l.fn.start)) (after_losses l.erasing (begun l.fn.start) l.losses)
      ≡ option_map (again (begun l.here)) (after_losses l.erasing (begun l.here) (drop l.loss-index l.losses));
}
