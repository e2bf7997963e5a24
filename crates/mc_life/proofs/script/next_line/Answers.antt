use Rattle.std.proofs.Common.{arith}
use Rattle.mc_output.specs.facts.Parting.{one_piece, parted}
use Rattle.mc_life.proofs.ReplayProof.{first_saying, last_saying}
use Rattle.mc_life.proofs.script.next_line.Goals as goal

pub returns-in-Some-clause-lines : goal.returns-in-Some-clause-lines
returns-in-Some-clause-lines c =
    rw c.said.ensures (first_saying _ _ _ (parted 10 (omega arith) c.args.text.now c.split_once.result c.split_once.ensures.cases c.in-Some.line c.in-Some.after c.in-Some.is))

pub returns-in-None-clause-lines : goal.returns-in-None-clause-lines
returns-in-None-clause-lines c = rw c.said-in-None.ensures (last_saying _ (one_piece 10 (omega arith) c.args.text.now c.split_once.result c.split_once.ensures.cases c.in-None.is))
