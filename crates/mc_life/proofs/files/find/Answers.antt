use Rattle.std.proofs.Common.{bytes_eq, arith}
use Rattle.mc_life.proofs.Lines.{found, none_found, not_here}
use Rattle.mc_life.proofs.files.find.Goals as goal

pub returns-then-eq : goal.returns-then-eq
returns-then-eq c = grind (arith, bytes_eq, found)

pub loop-file-preserved : goal.loop-file-preserved
loop-file-preserved c = grind (arith, bytes_eq, not_here)

pub returns : goal.returns
returns c = none_found c.args.files.now c.args.name.now c.loop-file.file-index (omega arith) c.loop-file.invariant
