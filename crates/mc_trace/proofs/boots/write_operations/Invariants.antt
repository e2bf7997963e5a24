use Rattle.std.proofs.Common.{◌≡◌, length}
use Rattle.mc_output.specs.facts.Prefixes.{IsOut}
use Rattle.mc_boot.specs.Boot.{progress, to_come, CountsOn}
use Rattle.mc_trace.specs.inner.Boots.{GoesUpTo}
use Rattle.mc_trace.proofs.OperationLines.{left_to_write}
use Rattle.mc_trace.proofs.boots.write_operations.Given as goal

abbrev pub invariant-operations : goal.invariant-operations
invariant-operations g l = record {
  out : IsOut (g.W.Write.contents l.fn.writer) (g.W.Write.contents l.writer) (left_to_write l.span l.until (g.F.Flash.seen l.fn.flash) (progress l.fn.boot))
      (left_to_write l.span l.until (g.F.Flash.seen l.flash) (progress l.boot));
  goes : GoesUpTo l.until l.fn.boot (g.F.Flash.seen l.fn.flash) l.boot (g.F.Flash.seen l.flash);
  counts : CountsOn (progress l.fn.boot) (progress l.boot) (g.F.Flash.seen l.fn.flash) (g.F.Flash.seen l.flash);
  limits : (g.F.Flash.seen l.flash).usage.limits ≡ (g.F.Flash.seen l.fn.flash).usage.limits;
  layout_is : l.layout ≡ (g.F.Flash.seen l.flash).geometry;
}

abbrev pub decreases-operations : goal.decreases-operations
decreases-operations g l = length (to_come l.boot)
