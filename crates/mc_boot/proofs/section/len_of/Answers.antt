use Rattle.std.proofs.Common.{Fits, w32, arith, ℕ, ◌*◌, ◌+◌, ◌≡◌, ◌≤◌}
use Rattle.mc_boot.proofs.Sections.{few_all, one_more}
use Rattle.mc_boot.proofs.section.len_of.Goals as goal

small : (a b n k : ℕ) → a + b ≡ n → n ≤ k * 201332736 → k ≤ 8 → Fits w32 a
small a b n k e few at_most = omega arith

pub loop-counted-preserved : goal.loop-counted-preserved
loop-counted-preserved c =
    let g = c.args.course.now in
    one_more g.grain g.layout g.sectors c.args.sections.now _ c.loop-counted.counted-index _ c.requires.counted c.loop-counted-test.true c.loop-counted.invariant

pub overflow_add-sum : goal.overflow_add-sum
overflow_add-sum c =
    let g = c.args.course.now in
    small _ _ _ _ (one_more g.grain g.layout g.sectors c.args.sections.now _ c.loop-counted.counted-index _ c.requires.counted c.loop-counted-test.true c.loop-counted.invariant)
    (few_all g.grain g.layout g.sectors c.unit-unit.ensures.valid g.fits c.args.sections.now) c.requires.at_most
