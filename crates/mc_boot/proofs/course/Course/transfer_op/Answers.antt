use Rattle.std.proofs.Common.{arith}
use Rattle.mc_boot.proofs.Sections.{get_transfer_of}
use Rattle.mc_boot.proofs.course.Course.transfer_op.Goals as goal

pub returns-clause-at : goal.returns-clause-at
returns-clause-at c =
    let s = c.args.self.now in
    let there = c.in_ok-transfer.ensures.there in
    get_transfer_of s.grain s.layout s.sectors s.opening c.args.index c.in_ok-later.later s.width _ _ s.width_is (omega (arith, s.head_is)) there.0 there.1 c.transfer_op.ensures.at
