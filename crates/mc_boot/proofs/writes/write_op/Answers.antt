use Rattle.std.proofs.Common.{arith}
use Rattle.mc_boot.proofs.Courses.{slot_small, get_unit, unit_within}
use Rattle.mc_boot.proofs.writes.write_op.Goals as goal

pub overflow_mul-at : goal.overflow_mul-at
overflow_mul-at c = grind arith

pub overflow_add-at : goal.overflow_add-at
overflow_add-at c = grind arith

pub overflow_add-result : goal.overflow_add-result
overflow_add-result c = grind (arith, slot_small, unit_within)

pub returns-in-Unit-clause-at : goal.returns-in-Unit-clause-at
returns-in-Unit-clause-at c = grind (arith, get_unit)

pub returns-in-Call-clause-at : goal.returns-in-Call-clause-at
returns-in-Call-clause-at c = grind arith

pub returns-in-Call-clause-inside : goal.returns-in-Call-clause-inside
returns-in-Call-clause-inside c = grind arith

pub returns-in-Unit-clause-inside : goal.returns-in-Unit-clause-inside
returns-in-Unit-clause-inside c = grind arith

pub new-requires-in-Unit : goal.new-requires-in-Unit
new-requires-in-Unit c = grind arith
