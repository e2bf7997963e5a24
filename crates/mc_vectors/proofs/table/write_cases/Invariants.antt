use Rattle.mc_output.specs.facts.Prefixes.{IsOut}
use Rattle.mc_vectors.specs.Table.{case_text, cases_text}
use Rattle.mc_vectors.proofs.Tabled.{left}
use Rattle.mc_vectors.proofs.table.write_cases.Given as goal

abbrev pub invariant-loop-case : goal.invariant-loop-case
invariant-loop-case g l = record {
  out : IsOut (g.W.Write.contents l.fn.writer) (g.W.Write.contents l.writer) (cases_text l.cases) (left case_text l.cases l.case-index);
}
