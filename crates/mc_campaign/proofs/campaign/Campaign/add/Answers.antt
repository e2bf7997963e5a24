use Rattle.std.proofs.Common.{arith}
use Rattle.mc_campaign.specs.facts.{Cuts.{last_ordered, ordered_push}, Room.{len_again}}
use Rattle.mc_campaign.proofs.Reading.{cut_is, summary_cut}
use Rattle.mc_campaign.proofs.campaign.Campaign.add.Goals as goal

pub returns-in_default-clause-refused : goal.returns-in_default-clause-refused
returns-in_default-clause-refused c = grind (arith, cut_is)

pub returns-then-number-clause-refused : goal.returns-then-number-clause-refused
returns-then-number-clause-refused c = grind (arith, summary_cut, last_ordered)

-- It stands after the others in order.
pub push-requires-clause-order : goal.push-requires-clause-order
push-requires-clause-order c = grind (arith, ordered_push)

pub returns-clause-added : goal.returns-clause-added
returns-clause-added c = record {
  item = c.in-Some.cut;
  fits = record { room = grind (arith, len_again); small = c.in-Some.ensures.1.small; in_order = grind (arith, ordered_push) };
  text_is = c.in-Some.ensures.0;
  new_is = c.push.ensures;
}
