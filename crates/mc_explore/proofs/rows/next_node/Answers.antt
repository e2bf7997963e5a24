use Rattle.mc_explore.proofs.rows.next_node.Goals as goal

pub returns-then-is_beyond-clause-visits : goal.returns-then-is_beyond-clause-visits
returns-then-is_beyond-clause-visits g c = rw c.if-is_beyond.true c.leave.ensures.visits

pub returns-else-is_beyond-clause-visits : goal.returns-else-is_beyond-clause-visits
returns-else-is_beyond-clause-visits g c = rw c.if-is_beyond.false c.visit.ensures.visits
