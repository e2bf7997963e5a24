use Rattle.mc_boot.proofs.course.Course.transfer_of.Goals as goal

pub returns-clause-there : goal.returns-clause-there
returns-clause-there c = (rw c.transfers.ensures at c.if-transfers-number.false, rw c.first-first.ensures at c.transfer_at.ensures.at)
