use Rattle.std.specs.{Prelude.{◌≡◌, ℕ, List, ◌++◌, length}, Str.{IsUtf8}}
use Rattle.mc_output.specs.facts.Reading.{beyond, IsLeft}
use Rattle.mc_campaign.specs.Texts.{campaign_text, cut_text, IsCampaign}
use Rattle.mc_campaign.proofs.campaign.Campaign.read.Given as goal

abbrev pub invariant-cuts : goal.invariant-cuts
invariant-cuts l = record {
  utf8 : IsUtf8 l.rest;
  valid : IsCampaign l.campaign;
  text : l.fn.text ≡ beyond 44 cut_text l.campaign ++ l.rest;
  left : (m : List (ℕ × ℕ)) → IsCampaign m → l.fn.text ≡ campaign_text m → IsLeft 44 cut_text l.campaign m l.rest;
}

abbrev pub decreases-cuts : goal.decreases-cuts
decreases-cuts l = length l.rest
