use Rattle.std.proofs.Common.{drop, slice_get, ◌≡◌}
use Rattle.mc_boot.specs.inner.Section.{ops_of_all}
use Rattle.mc_boot.proofs.section.op_of.Given as goal

abbrev pub invariant-loop-counted : goal.invariant-loop-counted
invariant-loop-counted l =
    let g = l.course in
    slice_get (ops_of_all g.grain g.layout g.sectors (drop l.counted-index l.sections)) l.left ≡ slice_get (ops_of_all g.grain g.layout g.sectors l.sections) l.index
