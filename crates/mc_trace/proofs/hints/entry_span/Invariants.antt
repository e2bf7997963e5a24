use Rattle.std.proofs.Common.{◌≡◌, ◌≤◌, length, drop, true}
use Rattle.mc_trace.specs.Hints.{are_entries, entry_span}
use Rattle.mc_trace.proofs.hints.entry_span.Given as goal

abbrev pub invariant-loop-start : goal.invariant-loop-start
invariant-loop-start l = record {
  inside : (l.start ≤ length l.bytes) × (l.span ≤ length l.bytes);
  entries : are_entries (drop l.start l.bytes) ≡ true;
  span : l.span ≡ entry_span (drop l.start l.bytes);
}
