use Rattle.std.proofs.Common.{arith}
use Rattle.mc_trace.proofs.Pictured.{like_here, like_next}
use Rattle.mc_trace.proofs.cells.first_like.Goals as goal

pub returns-then-eq : goal.returns-then-eq
returns-then-eq c = grind (arith, like_here)

pub loop-sector-preserved : goal.loop-sector-preserved
loop-sector-preserved c = grind (arith, like_next)
