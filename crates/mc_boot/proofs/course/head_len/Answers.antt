use Rattle.std.proofs.Common.{arith}
use Rattle.mc_boot.proofs.Sections.{head_of_other, head_of_revert, length-erases}
use Rattle.mc_boot.proofs.course.head_len.Goals as goal

pub returns-then-is_revert : goal.returns-then-is_revert
returns-then-is_revert c = grind (arith, head_of_revert)

pub returns-else-is_revert : goal.returns-else-is_revert
returns-else-is_revert c = grind (arith, head_of_other)

pub returns-then-wanted : goal.returns-then-wanted
returns-then-wanted c = grind (arith, length-erases)
