use Rattle.std.proofs.Common.{length}
use Rattle.mc_trace.proofs.torn.+add_lines.Given as goal

abbrev pub decreases-add_lines : goal.decreases-add_lines
decreases-add_lines g l = length l.cuts.now
