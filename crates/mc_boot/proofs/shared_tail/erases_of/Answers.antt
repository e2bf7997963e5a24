use Rattle.std.proofs.{Common.{◌≡◌, ℕ, ◌+◌, ◌*◌, ◌≤◌, Fits, w32, refl, arith}, lemmas.Bool.{eq-eqb}}
use Rattle.mc_flash.specs.{Geometry.{Geometry, IsLayout, trailer_sectors}, facts.Usage.{few_sectors}}
use Rattle.mc_boot.proofs.Plans.{few_counted, thrice}
use Rattle.mc_boot.proofs.shared_tail.erases_of.Goals as goal

sum : (t : ℕ) → t ≤ 262144 → (Fits w32 (t + 1)) × (t + 1 ≤ 400000) × (t ≤ 400000)
sum t at_most = (omega arith, omega arith, omega arith)

all : (g : Geometry) (t : ℕ) → t ≡ trailer_sectors g → IsLayout g → (Fits w32 (t + 1)) × (t + 1 ≤ 400000) × (t ≤ 400000)
all g t is ok = sum t (few_counted g t is ok)

pub overflow_mul-course : goal.overflow_mul-course
overflow_mul-course c = thrice c.args.course.now.sectors (omega (arith, c.args.course.now.fits, few_sectors c.args.course.now.layout c.trailer_sectors-count.ensures.valid))

pub overflow_add-result : goal.overflow_add-result
overflow_add-result c = (all c.args.course.now.layout c.trailer_sectors-count.result c.trailer_sectors-count.ensures.value c.trailer_sectors-count.ensures.valid).0

pub returns-in-New-clause-count : goal.returns-in-New-clause-count
returns-in-New-clause-count c = rw (c.trailer_sectors-count.ensures.value, c.in-New.is) refl

pub returns-in-New-clause-at_most : goal.returns-in-New-clause-at_most
returns-in-New-clause-at_most c = (all c.args.course.now.layout c.trailer_sectors-count.result c.trailer_sectors-count.ensures.value c.trailer_sectors-count.ensures.valid).2

pub returns-then-first-course-clause-count : goal.returns-then-first-course-clause-count
returns-then-first-course-clause-count c = rw (c.in-Resumed.is, eq-eqb c.in-Resumed.first (3 * c.args.course.now.sectors) c.if-first-course.true) refl

pub returns-then-erases-clause-count : goal.returns-then-erases-clause-count
returns-then-erases-clause-count c = grind arith

pub returns-then-erases-clause-at_most : goal.returns-then-erases-clause-at_most
returns-then-erases-clause-at_most c = (all c.args.course.now.layout c.trailer_sectors-count.result c.trailer_sectors-count.ensures.value c.trailer_sectors-count.ensures.valid).1

pub returns-else-erases-clause-count : goal.returns-else-erases-clause-count
returns-else-erases-clause-count c = grind arith
