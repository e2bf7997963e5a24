use Rattle.std.proofs.Common.{◌≡◌}
use Rattle.mc_flash.specs.Usage.{LeaveRoom, times, no_counts}
use Rattle.mc_explore.specs.inner.OneRound.{most_of}
use Rattle.mc_start.specs.Start.{begun}
use Rattle.mc_trace.proofs.Tracing.{AreWritten}
use Rattle.mc_trace.proofs.trace.write_trace.Given as goal

abbrev pub invariant-boots : goal.invariant-boots
invariant-boots g l = record {
  written : AreWritten l.span (begun l.start) l.cuts (g.W.Write.contents l.fn.writer) (g.W.Write.contents l.writer) l.cut-index l.boot (g.F.Flash.seen l.flash);
  counts : LeaveRoom (g.F.Flash.seen l.flash).usage.counts no_counts (times l.cut-index (most_of (begun l.start)));
  limits : (g.F.Flash.seen l.flash).usage.limits ≡ (g.F.Flash.seen l.initial.flash).usage.limits;
}
