use Rattle.std.proofs.Common.{[], List, length, rules, ℕ, ◌∷◌, ◌≡◌}
use Rattle.mc_campaign.specs.Campaigns.{Precedes}
use Rattle.mc_campaign.proofs.campaign.+come_before.Goals as goal

-- Nothing comes before no cuts.
none_before : (cuts others : List (ℕ × ℕ)) → length others ≡ 0 → Precedes cuts others → ⊥
none_before [] [] none p = p
none_before (cut ∷ cuts) [] none p = p
none_before cuts (other ∷ others) none p = absurd cc

pub returns-in_default : goal.returns-in_default
returns-in_default t c =
    let none : length c.args.others.now ≡ 0 = search rules in
    (λ no. absurd (cc), λ p. absurd (none_before c.args.cuts.now c.args.others.now none p))
