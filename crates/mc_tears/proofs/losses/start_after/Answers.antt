use Rattle.std.proofs.Common.{List, ap, arith, sym, ℕ, ◌+◌, ◌∙◌}
use Rattle.std.specs.Prelude.{drop, option_map}
use Rattle.mc_boot.specs.Plan.{PowerOn, again}
use Rattle.mc_start.specs.Start.{begun}
use Rattle.mc_tears.proofs.Losing.{next_loss, went_on}
use Rattle.mc_tears.specs.{Losses.{after_losses}, declared.loss.Loss.{Loss}}
use Rattle.mc_tears.proofs.losses.start_after.Goals as goal

pub loop-loss-preserved : goal.loop-loss-preserved
loop-loss-preserved g c =
    let e = c.args.erasing in
    let y : PowerOn = begun c.loop-loss.here in
    let k : ℕ = c.loop-loss.loss-index in
    let losses = c.args.losses.now in
    let rest : List Loss = drop (k + 1) losses in
    let is = sym (rw c.in-Some.is at c.in_ok-flash.ensures.content) in
    record {
      on = c.loop-loss.invariant.on ∙ ap (λ (l : List Loss). option_map (again y) (after_losses e y l)) (next_loss losses k _ (omega arith)) ∙ went_on e y _ rest _ is
          ∙ ap (λ (z : PowerOn). option_map (again z) (after_losses e z rest)) (sym c.in_ok-here-2.ensures);
    }
