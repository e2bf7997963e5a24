use Rattle.std.specs.Prelude.{◌≡◌, ◌+◌, ◌*◌, ◌≤◌, ◌∷◌, ◌++◌, length, get_or, take}
use Rattle.mc_campaign.specs.Texts.{campaign_text}
use Rattle.mc_campaign.proofs.campaign.Campaign.put_into.Given as goal

abbrev pub invariant-loop-cut : goal.invariant-loop-cut
invariant-loop-cut l =
    (l.line ≡ l.fn.line ++ campaign_text (get_or l.self 0 (0, 0) ∷ take l.cut-index l.rest)) × (length l.line ≤ length l.fn.line + 12 + 13 * l.cut-index)
