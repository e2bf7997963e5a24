use Rattle.std.proofs.Common.{arith}
use Rattle.mc_life.proofs.Worst.{sum_ends, sum_next}
use Rattle.mc_life.proofs.wear_text.total.Goals as goal

pub sectors-preserved : goal.sectors-preserved
sectors-preserved c = grind (arith, sum_next)

pub returns : goal.returns
returns c = sum_ends _ _ _ c.sectors-test.false c.sectors.invariant.small c.sectors.invariant.so_far
