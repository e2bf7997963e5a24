use Rattle.mc_explore.proofs.Restarts.{row_restarts}
use Rattle.mc_explore.proofs.schedules.SchedulesSubject.restarts.Goals as goal

pub returns : goal.returns
returns c = λ start _ row outcome. row_restarts start row c.restart_law.ensures.restart outcome
