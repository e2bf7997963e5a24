use Rattle.mc_output.specs.facts.Prefixes.{IsOut}
use Rattle.mc_vectors.specs.Locating.{located_text, sector_line}
use Rattle.mc_vectors.proofs.Tabled.{left}
use Rattle.mc_vectors.proofs.locating.write_located.Given as goal

abbrev pub invariant-loop-at : goal.invariant-loop-at
invariant-loop-at g l = record {
  out : IsOut (g.W.Write.contents l.fn.writer) (g.W.Write.contents l.writer) (located_text l.located) (left sector_line l.located.differs.items l.at-index);
}
