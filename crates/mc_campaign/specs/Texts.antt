-- The texts of campaigns and of their cursors: this project's own.
use Rattle.std.specs.Prelude.{All, Bool, Err, List, Ok, Result, [], codes, decimal, false, length, true, ℕ, ◌++◌, ◌<◌, ◌^◌, ◌∷◌, ◌≡◌, ◌≤◌}
use Rattle.mc_boot.specs.Plan.{PowerOn}
use Rattle.mc_campaign.specs.{Campaigns.{IsInOrder}, declared.campaign.CampaignError.{CampaignError}, declared.cursor.CampaignCursor.{CampaignCursor}}
use Rattle.mc_explore.specs.declared.subject.Fields.{Fields}
use Rattle.mc_output.specs.Text.{joined}
use Rattle.mc_start.specs.{Cursor.{IsStartField, rules_text, start_text}, Start.{start_digest}, declared.cursor.CursorError.{CursorError}}
use Rattle.mc_output.specs.Text as joining

-- The texts of campaigns: this project's own.

-- At most 16 cuts, with numbers below 2^32.
pub record IsCampaign (c : List (ℕ × ℕ)) : Type 0 where
  pub at_most : length c ≤ 16
  pub small : All (λ cut. cut.1 < 2 ^ 32) c
  pub in_order : IsInOrder c

-- `1.17`: the round and the number.
abbrev pub cut_text : ℕ × ℕ → List ℕ
cut_text cut = decimal cut.0 ++ (codes "." ++ decimal cut.1)

-- `-` for no cut, else the cuts with commas between them.
abbrev pub campaign_text : List (ℕ × ℕ) → List ℕ
campaign_text c = joined (codes ",") cut_text c

-- A text is read as the campaign of that text, and is refused where it is that of none.
abbrev pub ReadsCampaign : List ℕ → Result (List (ℕ × ℕ)) CampaignError → Type 0
ReadsCampaign text (Ok c) = text ≡ campaign_text c
ReadsCampaign text (Err _) = (c : List (ℕ × ℕ)) → IsCampaign c → text ≡ campaign_text c → ⊥

-- A cut of one of the rounds.
pub record IsCut (cut : ℕ × ℕ) : Type 0 where
  pub some : 1 ≤ cut.0
  pub round : cut.0 ≤ 2
  pub small : cut.1 < 2 ^ 32

-- A cut that can be added: there are fewer than 16 before it, and none of them is of a later round.
pub record FitsCut (before : List (ℕ × ℕ)) (cut : ℕ × ℕ) : Type 0 where
  pub room : length before < 16
  pub small : cut.1 < 2 ^ 32
  pub in_order : IsInOrder (before ++ cut ∷ [])

-- The cut that a text writes stands after others.
abbrev pub IsAdded : List (ℕ × ℕ) → List ℕ → List (ℕ × ℕ) → Type 0
IsAdded = joining.IsAdded cut_text FitsCut

-- Where to go on with an exploration of campaigns.

-- The cursor that goes on after a campaign.
abbrev pub cursor_of : PowerOn → Bool → ℕ → List (ℕ × ℕ) → CampaignCursor
cursor_of start confirms bound c =
    record { rules = start.rules; confirms = confirms; digest = start_digest start; bound = bound; campaign = c }

-- What a cursor says.
abbrev pub fields_of : CampaignCursor → Fields Bool (List (ℕ × ℕ))
fields_of c = record { rules = c.rules; choice = c.confirms; digest = c.digest; bound = c.bound; key = c.campaign }

-- Where to go on with an exploration of campaigns, as text: this project's own.

-- Whether the image confirms itself between the rounds.
abbrev pub choice_text : Bool → List ℕ
choice_text false = codes "leave"
choice_text true = codes "confirm"

-- The rules, the choice, the digest of the start in 64 digits, the most cuts, and the campaign.
abbrev pub cursor_text : CampaignCursor → List ℕ
cursor_text c =
    codes "mc3:" ++ (rules_text c.rules.grain c.rules.profile ++ (choice_text c.confirms ++ (codes ":" ++ start_text c.digest c.bound (campaign_text c.campaign))))

-- A cursor of 32 bytes, at most 16 cuts, and a campaign that can be printed.
pub record IsCursor (c : CampaignCursor) : Type 0 where
  pub start : IsStartField (record { digest = c.digest; bound = c.bound })
  pub campaign : IsCampaign c.campaign

-- A text is read as the cursor of that text, and is refused where it is that of none.
abbrev pub ReadsCursor : List ℕ → Result CampaignCursor CursorError → Type 0
ReadsCursor text (Ok c) = text ≡ cursor_text c
ReadsCursor text (Err _) = (c : CampaignCursor) → IsCursor c → text ≡ cursor_text c → ⊥
