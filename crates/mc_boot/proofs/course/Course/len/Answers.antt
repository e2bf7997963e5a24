use Rattle.std.proofs.Common.{arith, refl}
use Rattle.mc_boot.proofs.{Courses.{few_transfers}, Sections.{few_list, length-parts}}
use Rattle.mc_boot.specs.{inner.Section.{first_of}}
use Rattle.mc_boot.proofs.course.Course.len.Goals as goal

pub overflow_mul-result : goal.overflow_mul-result
overflow_mul-result c =
    let s = c.args.self.now in
    rw (c.transfers.ensures, s.width_is) (omega (arith, few_transfers s.layout s.sectors (first_of s.opening) c.unit-unit.ensures.valid s.fits))

pub returns-clause-len : goal.returns-clause-len
returns-clause-len c =
    let s = c.args.self.now in
    length-parts s.grain s.layout s.sectors s.opening _ (rw (c.transfers.ensures, s.width_is, s.head_is, c.finish_len.ensures) refl)

pub returns-clause-at_most : goal.returns-clause-at_most
returns-clause-at_most c =
    let s = c.args.self.now in
    few_list s.grain s.layout s.sectors c.unit-unit.ensures.valid s.fits s.opening _ (returns-clause-len c)

pub overflow_add-result : goal.overflow_add-result
overflow_add-result c =
    let s = c.args.self.now in
    rw (c.transfers.ensures, s.width_is, s.head_is)
    (omega (arith, few_list s.grain s.layout s.sectors c.unit-unit.ensures.valid s.fits s.opening _ (length-parts s.grain s.layout s.sectors s.opening _ refl)))

pub overflow_add-result-2 : goal.overflow_add-result-2
overflow_add-result-2 c = omega (arith, returns-clause-at_most c)
