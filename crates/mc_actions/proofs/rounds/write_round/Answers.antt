use Rattle.mc_actions.proofs.Showing.{sectors_on_err}
use Rattle.mc_actions.proofs.rounds.write_round.Goals as goal

pub returns-in-Sectors-clause-prefix : goal.returns-in-Sectors-clause-prefix
returns-in-Sectors-clause-prefix g c = λ o z replayed. rw c.in-Sectors.is (sectors_on_err _ _ _ _ _ _ o z replayed c.write_sectors.ensures)
