use Rattle.std.proofs.Common.{arith}
use Rattle.mc_trace.proofs.SwapWork.{few_transfer_units, whole}
use Rattle.mc_trace.proofs.wear.swap_units.Goals as goal

pub overflow_mul-result-2 : goal.overflow_mul-result-2
overflow_mul-result-2 c = grind (arith, few_transfer_units)

pub overflow_add-result : goal.overflow_add-result
overflow_add-result c = grind (arith, few_transfer_units)

pub returns-clause-count : goal.returns-clause-count
returns-clause-count c grain = grind (arith, whole)

pub returns-clause-few : goal.returns-clause-few
returns-clause-few c = grind (arith, few_transfer_units)
