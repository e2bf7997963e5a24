use Rattle.std.proofs.{Common.{arith}, lemmas.Grind.{common_steps}}
use Rattle.mc_flash.proofs.slots.Slots.fill.Goals as goal

pub invariant_of-self-inside : goal.invariant_of-self-inside
invariant_of-self-inside c = grind (arith, common_steps)

pub invariant_of-self-inside-in-Secondary : goal.invariant_of-self-inside-in-Secondary
invariant_of-self-inside-in-Secondary c = grind (arith, common_steps)
