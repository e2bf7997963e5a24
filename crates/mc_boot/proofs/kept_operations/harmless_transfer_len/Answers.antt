use Rattle.std.proofs.{Common.{◌≡◌, ℕ, ◌+◌, ◌-◌, ◌/◌, ◌≤◌, Fits, w32, arith, false, refl, true}, lemmas.Bool.{eq-eqb, ne_eqb}}
use Rattle.mc_flash.specs.{Geometry.{Geometry, IsLayout}, facts.Usage.{few_chunks}}
use Rattle.mc_boot.proofs.{CourseJoins.{transfer_harmless}, Plans.{few_counted}}
use Rattle.mc_boot.proofs.kept_operations.harmless_transfer_len.Goals as goal

-- how many operations a transfer has before its entry, and how many with the erases of a trailer before them
counts : (g : Geometry) (t n : ℕ) → IsLayout g → t ≤ 262144 → n ≡ g.sector / g.chunk + 2 → (Fits w32 (t + (n - 1))) × (t + (n - 1) ≤ 400000) × (n - 1 ≤ 400000)
counts g t n ok at_most is = sums (g.sector / g.chunk) (few_chunks g ok) is
  where
    sums : (q : ℕ) → q ≤ 65536 → n ≡ q + 2 → (Fits w32 (t + (n - 1))) × (t + (n - 1) ≤ 400000) × (n - 1 ≤ 400000)
    sums q short e = (omega arith, omega arith, omega arith)

pub returns-then-first-course-clause-harmless : goal.returns-then-first-course-clause-harmless
returns-then-first-course-clause-harmless c image_ok opening =
    transfer_harmless c.args.course.now c.args.first _ c.args.erases image_ok true c.transfer_len-copied.ensures.valid opening c.requires (eq-eqb _ _ c.if-first-course.true) refl

pub returns-then-erases-clause-harmless : goal.returns-then-erases-clause-harmless
returns-then-erases-clause-harmless c image_ok opening =
    transfer_harmless c.args.course.now c.args.first _ c.args.erases image_ok false c.transfer_len-copied.ensures.valid opening c.requires (ne_eqb _ _ c.if-first-course.false)
    (rw (c.if-erases.true, c.trailer_sectors.ensures.value) (omega arith))

pub returns-else-erases-clause-harmless : goal.returns-else-erases-clause-harmless
returns-else-erases-clause-harmless c image_ok opening =
    transfer_harmless c.args.course.now c.args.first _ c.args.erases image_ok false c.transfer_len-copied.ensures.valid opening c.requires (ne_eqb _ _ c.if-first-course.false)
    (rw c.if-erases.false (omega arith))

pub overflow_add-result : goal.overflow_add-result
overflow_add-result c =
    let l = c.args.course.now.layout in
    (counts l c.trailer_sectors.result c.transfer_len-copied.result c.trailer_sectors.ensures.valid (few_counted l _ c.trailer_sectors.ensures.value c.trailer_sectors.ensures.valid)
    c.transfer_len-copied.ensures.len).0

pub returns-then-erases-clause-at_most : goal.returns-then-erases-clause-at_most
returns-then-erases-clause-at_most c =
    let l = c.args.course.now.layout in
    (counts l c.trailer_sectors.result c.transfer_len-copied.result c.trailer_sectors.ensures.valid (few_counted l _ c.trailer_sectors.ensures.value c.trailer_sectors.ensures.valid)
    c.transfer_len-copied.ensures.len).1
