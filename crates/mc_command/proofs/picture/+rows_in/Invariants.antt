use Rattle.std.specs.Prelude.{length}
use Rattle.mc_command.proofs.picture.+rows_in.Given as goal

abbrev pub decreases-rows_in : goal.decreases-rows_in
decreases-rows_in l = length l.cuts.now
