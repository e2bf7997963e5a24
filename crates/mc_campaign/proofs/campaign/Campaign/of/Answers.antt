use Rattle.std.proofs.{Common.{List, [], arith, length, subst, ℕ, ◌++◌, ◌∷◌}, lemmas.Grind.{common_steps}}
use Rattle.mc_campaign.specs.{Campaigns.{IsInOrder}, facts.InRounds.{round_at, rounds-length, rounds-push, rounds_ordered}, inner.InRounds.{in_rounds}}
use Rattle.mc_campaign.proofs.campaign.Campaign.of.Goals as goal

-- One cut more stands in order.
next_ordered : (first : ℕ) (ns : List ℕ) (n : ℕ) → IsInOrder (in_rounds first ns ++ (round_at first (length ns), n) ∷ [])
next_ordered first ns n = subst IsInOrder (rounds-push first ns n) (rounds_ordered first (ns ++ n ∷ []))

pub push-requires-clause-room : goal.push-requires-clause-room
push-requires-clause-room c = grind (arith, common_steps, rounds-length)

pub push-requires-clause-order : goal.push-requires-clause-order
push-requires-clause-order c = grind (arith, common_steps, rounds-length, next_ordered)

pub loop-number-preserved : goal.loop-number-preserved
loop-number-preserved c = grind (arith, common_steps, rounds-length, rounds-push)
