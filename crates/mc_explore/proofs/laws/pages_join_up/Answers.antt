use Rattle.mc_explore.specs.{Rows.{schedules}, facts.Listed.{schedules_are_lawful}, facts.Listings.{pages_join}}
use Rattle.mc_explore.proofs.Continued.{page_resumes}
use Rattle.mc_explore.proofs.laws.pages_join_up.Goals as goal

pub returns-clause-joined : goal.returns-clause-joined
returns-clause-joined c = λ limits state whole rows ended no_allocation_failed. pages_join schedules schedules_are_lawful state limits whole rows ended

pub returns-clause-resumed : goal.returns-clause-resumed
returns-clause-resumed c = page_resumes
