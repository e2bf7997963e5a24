use Rattle.std.proofs.Common.{arith}
use Rattle.mc_trace.proofs.Used.{last_used}
use Rattle.mc_trace.proofs.cells.used.Goals as goal

pub returns-else-bytes-count-clause-value : goal.returns-else-bytes-count-clause-value
returns-else-bytes-count-clause-value c = grind (arith, last_used)
