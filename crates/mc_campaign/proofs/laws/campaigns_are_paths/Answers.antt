use Rattle.std.proofs.Common.{refl}
use Rattle.mc_campaign.specs.facts.Paths.{member_of, path_of, same_order}
use Rattle.mc_campaign.proofs.laws.campaigns_are_paths.Goals as goal

pub returns-clause-paths : goal.returns-clause-paths
returns-clause-paths c x confirms bound k =
    (path_of confirms x bound k, λ p. member_of confirms x bound k p.0 p.1)

pub returns-clause-all : goal.returns-clause-all
returns-clause-all c x confirms bound path m = (_, record { member = m; cuts_are = refl })

pub returns-clause-order : goal.returns-clause-order
returns-clause-order c x confirms = same_order confirms x
