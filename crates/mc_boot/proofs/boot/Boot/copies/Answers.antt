use Rattle.mc_boot.proofs.Courses.{can_copies_of}
use Rattle.mc_boot.proofs.boot.Boot.copies.Goals as goal

pub returns-in-Some-clause-inside : goal.returns-in-Some-clause-inside
returns-in-Some-clause-inside c = λ g of.
    can_copies_of c.in-Some.course.grain g c.in-Some.course.layout c.copies.result (rw c.in-Some.is at of) c.copies.ensures.inside
