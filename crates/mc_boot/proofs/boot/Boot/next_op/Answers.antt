use Rattle.mc_boot.proofs.{Courses.{can_of}, Sections.{few_at}}
use Rattle.mc_boot.proofs.boot.Boot.next_op.Goals as goal

pub returns-in-Some-clause-inside : goal.returns-in-Some-clause-inside
returns-in-Some-clause-inside c g of =
    can_of c.in-Some.course.grain g c.in-Some.course.layout c.op.result (rw c.in-Some.is at of) c.op.ensures.inside

pub returns-in-Some-clause-at_most : goal.returns-in-Some-clause-at_most
returns-in-Some-clause-at_most c =
    let s = c.in-Some.course in
    few_at s.grain s.layout s.sectors c.unit-unit.ensures.valid s.fits s.opening c.args.self.now.done c.op.result c.op.ensures.at
