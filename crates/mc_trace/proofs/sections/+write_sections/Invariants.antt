use Rattle.std.proofs.Common.{length}
use Rattle.mc_trace.proofs.sections.+write_sections.Given as goal

abbrev pub decreases-write_sections : goal.decreases-write_sections
decreases-write_sections g l = length l.cuts.now
