use Rattle.std.proofs.Common.{drop, length, ◌+◌, ◌≡◌}
use Rattle.mc_boot.specs.inner.Section.{ops_of_all}
use Rattle.mc_boot.proofs.section.len_of.Given as goal

abbrev pub invariant-loop-counted : goal.invariant-loop-counted
invariant-loop-counted l =
    let g = l.course in
    l.sum + length (ops_of_all g.grain g.layout g.sectors (drop l.counted-index l.sections)) ≡ length (ops_of_all g.grain g.layout g.sectors l.sections)
