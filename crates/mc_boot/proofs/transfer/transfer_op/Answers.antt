use Rattle.std.proofs.Common.{arith}
use Rattle.mc_boot.proofs.Courses.{get_copy, get_entry}
use Rattle.mc_boot.proofs.transfer.transfer_op.Goals as goal

pub returns-then-index-width-clause-at : goal.returns-then-index-width-clause-at
returns-then-index-width-clause-at c = grind (arith, get_copy)

pub returns-else-index-width-clause-at : goal.returns-else-index-width-clause-at
returns-else-index-width-clause-at c = grind (arith, get_entry)

pub chunk_copy-requires-clause-below : goal.chunk_copy-requires-clause-below
chunk_copy-requires-clause-below c = grind arith
