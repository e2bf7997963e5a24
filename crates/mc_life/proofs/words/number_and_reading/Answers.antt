use Rattle.std.proofs.Common.{arith}
use Rattle.mc_output.specs.facts.Parting.{one_piece, parted}
use Rattle.mc_life.proofs.Spelling.{no_number, no_reading, no_tear}
use Rattle.mc_life.proofs.words.number_and_reading.Goals as goal

pub returns-in_default : goal.returns-in_default
returns-in_default c = no_tear _ (one_piece 32 (omega arith) c.args.text.now c.split_once.result c.split_once.ensures.cases c.in_default.is)

pub returns-in_default-2 : goal.returns-in_default-2
returns-in_default-2 c =
    no_reading _ _ _ (parted 32 (omega arith) c.args.text.now c.split_once.result c.split_once.ensures.cases c.in-Some.first c.in-Some.second c.in-Some.is) c.in_default-2.ensures'

pub returns-in_default-2-2 : goal.returns-in_default-2-2
returns-in_default-2-2 c =
    no_number _ _ _ (parted 32 (omega arith) c.args.text.now c.split_once.result c.split_once.ensures.cases c.in-Some.first c.in-Some.second c.in-Some.is)
    (rw c.in_default-2.is-0 at c.number_of.ensures)
