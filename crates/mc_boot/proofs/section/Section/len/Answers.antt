use Rattle.std.proofs.Common.{arith}
use Rattle.mc_boot.proofs.Courses.{few_transfers}
use Rattle.mc_boot.proofs.section.Section.len.Goals as goal

pub overflow_mul-result : goal.overflow_mul-result
overflow_mul-result c =
    let few = few_transfers c.args.course.now.layout c.args.course.now.sectors c.in-Transfers.first c.transfer_len.ensures.valid c.args.course.now.fits in
    rw (c.saturating_sub.ensures, c.transfer_len.ensures.len) (omega (arith, few))
