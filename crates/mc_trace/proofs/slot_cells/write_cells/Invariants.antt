use Rattle.std.specs.Prelude.{◌≤◌}
use Rattle.mc_output.specs.facts.Prefixes.{IsOut}
use Rattle.mc_trace.specs.Frames.{slot_cells}
use Rattle.mc_trace.proofs.SlotCells.{left}
use Rattle.mc_trace.proofs.slot_cells.write_cells.Given as goal

abbrev pub invariant-loop-sector : goal.invariant-loop-sector
invariant-loop-sector g l = record {
  out : IsOut (g.W.Write.contents l.fn.writer) (g.W.Write.contents l.writer) (slot_cells l.look l.start.geometry l.start.content l.slot l.bytes l.target)
      (left l.look l.start.geometry l.start.content l.slot l.bytes l.target l.run l.sector);
  some : 1 ≤ l.run.count;
  at_most : l.run.count ≤ l.sector;
}
