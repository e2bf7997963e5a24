use Rattle.std.proofs.Common.{Bool, ap, ◌∙◌, []}
use Rattle.mc_tree.specs.Tree.{After}
use Rattle.mc_explore.specs.{Subject.{rows_of}, facts.Listings.{pages_join, past_page}}
use Rattle.mc_campaign.specs.{Page.{last_campaign}, Rows.{campaigns, State}, facts.Listed.{campaigns_are_lawful}}
use Rattle.std.specs.Prelude.{take}
use Rattle.mc_campaign.proofs.laws.campaign_pages_join_up.Goals as goal

pub returns-clause-joined : goal.returns-clause-joined
returns-clause-joined c = λ limits state whole rows ended. pages_join (rows_of campaigns) campaigns_are_lawful state limits whole rows ended

pub returns-clause-resumed : goal.returns-clause-resumed
returns-clause-resumed c = λ state rows limit no_allocation_failed some full.
    let last = last_campaign [] (take limit rows) in
    let beyond : Bool → State = λ b. record { start = state.start; choice = state.choice; bound = state.bound; position = After last; failed = b } in
    past_page (rows_of campaigns) campaigns_are_lawful limit state rows some full ∙ ap beyond no_allocation_failed
