use Rattle.mc_explore.specs.{Rows.{schedules}, facts.Listed.{schedules_are_lawful}, facts.Listings.{one_rest, rest_tail, in_order}}
use Rattle.mc_explore.proofs.Continued.{longer_first}
use Rattle.mc_explore.proofs.laws.one_list_of_rows.Goals as goal

pub returns-clause-some : goal.returns-clause-some
returns-clause-some c = schedules_are_lawful.some_rest

pub returns-clause-only : goal.returns-clause-only
returns-clause-only c = one_rest schedules schedules_are_lawful

pub returns-clause-tail : goal.returns-clause-tail
returns-clause-tail c = rest_tail schedules schedules_are_lawful

pub returns-clause-order : goal.returns-clause-order
returns-clause-order c = in_order schedules schedules_are_lawful

pub returns-clause-longer_first : goal.returns-clause-longer_first
returns-clause-longer_first c = longer_first
