use Rattle.std.specs.Prelude.{◌≡◌, ◌≤◌, length, drop}
use Rattle.mc_trace.specs.Sectors.{used}
use Rattle.mc_trace.proofs.cells.used.Given as goal

abbrev pub invariant-blank : goal.invariant-blank
invariant-blank l = record {
  inside : l.count ≤ length l.bytes;
  rest : used (drop l.count l.bytes) ≡ 0;
}

abbrev pub decreases-blank : goal.decreases-blank
decreases-blank l = l.count
