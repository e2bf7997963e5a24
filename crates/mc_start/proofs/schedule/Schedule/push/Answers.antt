use Rattle.std.specs.Prelude.{length, ◌<◌}
use Rattle.std.proofs.{Common.{arith, ap, ◌∙◌}, lemmas.List.{length-set}}
use Rattle.mc_flash.specs.inner.Room.{len_again}
use Rattle.mc_start.proofs.Starts.{zeros_beyond}
use Rattle.mc_start.proofs.schedule.Schedule.push.Goals as goal

pub invariant_of-self : goal.invariant_of-self
invariant_of-self c = let below : c.self.inside.len < 16 = omega (
  arith,
  c.requires,
  len_again c.self.inside.cuts c.self.inside.len c.self.invariant.1 c.self.invariant.0,
  ap (λ xs. length xs) c.self.view_is,
) in
    (omega (arith, below), length-set c.self.inside.cuts c.self.inside.len c.args.cut ∙ c.self.invariant.1, zeros_beyond c.self.inside.cuts c.self.inside.len c.args.cut below c.self.invariant.2)
