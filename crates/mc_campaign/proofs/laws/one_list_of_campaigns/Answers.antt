use Rattle.mc_explore.specs.{Subject.{rows_of}, facts.Listings.{one_rest, rest_tail, in_order}}
use Rattle.mc_campaign.specs.{Rows.{campaigns}, facts.Listed.{campaigns_are_lawful}}
use Rattle.mc_campaign.proofs.laws.one_list_of_campaigns.Goals as goal

pub returns-clause-some : goal.returns-clause-some
returns-clause-some c = campaigns_are_lawful.some_rest

pub returns-clause-only : goal.returns-clause-only
returns-clause-only c = one_rest (rows_of campaigns) campaigns_are_lawful

pub returns-clause-tail : goal.returns-clause-tail
returns-clause-tail c = rest_tail (rows_of campaigns) campaigns_are_lawful

pub returns-clause-order : goal.returns-clause-order
returns-clause-order c = in_order (rows_of campaigns) campaigns_are_lawful
