use Rattle.mc_output.specs.facts.Prefixes.{IsOut}
use Rattle.mc_tears.specs.Losses.{lost_text, table_text}
use Rattle.mc_vectors.proofs.Tabled.{left}
use Rattle.mc_tears.proofs.lost_table.write_lost.Given as goal

abbrev pub invariant-loop-case : goal.invariant-loop-case
invariant-loop-case g l = record {
  out : IsOut (g.W.Write.contents l.fn.writer) (g.W.Write.contents l.writer) (table_text l.cases) (left lost_text l.cases l.case-index);
}
