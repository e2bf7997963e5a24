use Rattle.std.proofs.Common.{arith}
use Rattle.mc_campaign.proofs.Reading.{cut_written, no_point, parts_are}
use Rattle.mc_campaign.proofs.campaign.cut_of.Goals as goal

pub returns-in_err-round : goal.returns-in_err-round
returns-in_err-round c = rw c.from_residual.ensures (λ cut known is. no_point c.args.text.now c.split_once.result c.split_once.ensures.cases c.in_err-round.was cut is)

pub returns-in_err-round-2 : goal.returns-in_err-round-2
returns-in_err-round-2 c = rw c.from_residual-in_err-round-2.ensures (λ cut known is. c.in_err-round-2.ensures cut.0 known.some known.round
    (parts_are _ _ c.split_once.ensures.cases c.in_ok-round.round c.in_ok-round.number c.in_ok-round.was cut known is).0)

pub returns-in_err-number : goal.returns-in_err-number
returns-in_err-number c = rw c.from_residual-in_err-number.ensures (λ cut known is. c.in_err-number.ensures cut.1 known.small
    (parts_are _ _ c.split_once.ensures.cases c.in_ok-round.round c.in_ok-round.number c.in_ok-round.was cut known is).1)

pub returns : goal.returns
returns c =
    cut_written _ _ c.split_once.ensures.cases c.in_ok-round.round c.in_ok-round.number c.in_ok-round.was c.in_ok-round-2.round c.in_ok-number.number
    c.in_ok-round-2.ensures c.in_ok-number.ensures (omega arith)
