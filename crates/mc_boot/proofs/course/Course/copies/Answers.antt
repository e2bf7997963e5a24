use Rattle.std.proofs.Common.{arith}
use Rattle.mc_boot.proofs.Sections.{copies_there, few_copies}
use Rattle.mc_boot.proofs.course.Course.copies.Goals as goal

pub returns-clause-copies : goal.returns-clause-copies
returns-clause-copies c =
    let s = c.args.self.now in
    copies_there s.grain s.layout s.sectors s.opening c.args.index c.in_ok-later.later s.width c.args.most _ c.copies_of.result s.width_is (omega (arith, s.head_is))
    c.in_ok-transfer.ensures.there c.copies_of.ensures.copies c.copies_of.ensures.within

pub returns-clause-few : goal.returns-clause-few
returns-clause-few c =
    let s = c.args.self.now in
    few_copies s.grain s.layout s.sectors c.unit-unit.ensures.valid s.fits s.opening c.args.index c.args.most c.copies_of.result (returns-clause-copies c)
