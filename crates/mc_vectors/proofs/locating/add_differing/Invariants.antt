use Rattle.std.specs.Prelude.{◌++◌, ◌≡◌}
use Rattle.mc_vectors.specs.inner.Locating.{differing_first}
use Rattle.mc_vectors.proofs.locating.add_differing.Given as goal

abbrev pub invariant-loop-number : goal.invariant-loop-number
invariant-loop-number g l =
    l.differs.items ≡ l.fn.differs.items ++ differing_first (g.F.Flash.seen l.flash).geometry (g.F.Flash.seen l.flash).content l.wanted l.slot l.number
