use Rattle.mc_output.specs.facts.Prefixes.{IsOut}
use Rattle.mc_trace.specs.Patch.{lines_text, slot_changes}
use Rattle.mc_trace.proofs.PatchLines.{left}
use Rattle.mc_trace.proofs.patch.write_slot.Given as goal

abbrev pub invariant-loop-sector : goal.invariant-loop-sector
invariant-loop-sector g l = record {
  out : IsOut (g.W.Write.contents l.fn.writer) (g.W.Write.contents l.writer) (lines_text (slot_changes l.start.geometry l.start.content l.slot l.bytes))
      (left l.start.geometry l.start.content l.slot l.bytes l.sector);
}
