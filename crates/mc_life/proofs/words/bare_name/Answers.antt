use Rattle.std.proofs.Common.{arith}
use Rattle.mc_output.specs.facts.Parting.{one_piece, parted}
use Rattle.mc_life.proofs.Spelling.{bare_alone, bare_begins}
use Rattle.mc_life.proofs.words.bare_name.Goals as goal

pub returns-in-Some : goal.returns-in-Some
returns-in-Some c = bare_begins _ _ _ (parted 32 (omega arith) c.args.text.now c.split_once.result c.split_once.ensures.cases c.in-Some.name c.in-Some.more c.in-Some.is) c.requires

pub returns-in-None : goal.returns-in-None
returns-in-None c = bare_alone _ (one_piece 32 (omega arith) c.args.text.now c.split_once.result c.split_once.ensures.cases c.in-None.is) c.requires
