-- Campaigns as what is explored: the states of their explorer, their rows with their text, what the restart theorem says of them, and what a row costs.
use Rattle.std.specs.Prelude.{Bool, List, Result, Some, [], codes, false, true, ℕ, ◌*◌, ◌++◌, ◌+◌, ◌≡◌, ◌≢◌}
use Rattle.mc_boot.specs.{Outcome.{Report, after, shown}, Plan.{PowerOn, again}}
use Rattle.mc_boot.specs.Restart.{BeginsImage, EndsAgain, EndsIn, confirmed_if, forgets_reverts, has_revert, named, other, start_flash}
use Rattle.mc_boot.specs.declared.kind.Kind.{Kind}
use Rattle.mc_campaign.specs.{Campaigns.{AreReplayed, IsMember, Precedes, in_round}, Texts.{campaign_text, cursor_of, cursor_text, fields_of}}
use Rattle.mc_campaign.specs.{declared.cursor.CampaignCursor.{CampaignCursor}, declared.row.CampaignRow.{CampaignRow}}
use Rattle.mc_explore.specs.{Rounds.{end_result}, Rows.{outcome_text, slots_text}, Schedules.{IsSwapOutcome}, Subject.{Subject}, declared.error.ExploreError.{ExploreError}}
use Rattle.mc_flash.specs.{Flash.{Content}, Geometry.{Geometry, IsLayout}, Usage.{most_operations}}
use Rattle.mc_image.specs.Valid.{id_of}
use Rattle.mc_trailer.specs.declared.tables.Rules.{Rules}
use Rattle.mc_trailer.specs.declared.tables.SwapType.TheVariants as kinds
use Rattle.mc_explore.specs.Pages as listings
use Rattle.mc_boot.specs.declared.outcome.BootResult.TheVariants as results
use Rattle.mc_boot.specs.declared.kind.Kind.TheVariants as starts
use Rattle.mc_explore.specs.Subject as states

-- What an explorer of campaigns goes through, where it has come to, and its rows.

-- The choice is whether the image confirms itself between the rounds; the keys are campaigns.
abbrev pub State : Type 0
State = states.State Bool (List (ℕ × ℕ))

abbrev pub Explored : Type 0
Explored = states.Explored Bool (List (ℕ × ℕ))

-- The state at the start.
abbrev pub at_start : PowerOn → Bool → ℕ → State
at_start = states.at_start

-- The state after the row of a campaign.
abbrev pub moved_to : State → List (ℕ × ℕ) → State
moved_to = states.moved_to

-- A row as callers see it.
pub record ShownRow : Type 0 where
  pub campaign : List (ℕ × ℕ)
  pub first : Report
  pub second : Report

abbrev pub shown_row : CampaignRow → ShownRow
shown_row row = record { campaign = row.campaign; first = shown row.first; second = shown row.second }

-- How a campaign ends: as its second round does; but where the first does not end in a boot, with the result of the first.
abbrev pub end_by : Report → Report → Report
end_by first second = record second { result = end_result first.result second.result }

abbrev pub end_of : ShownRow → Report
end_of row = end_by row.first row.second

-- The outcomes of a row are those of its campaign, round by round.
abbrev pub HasOutcomes : PowerOn → Bool → ShownRow → Type 0
HasOutcomes start confirms row =
    (z : Content) × AreReplayed start confirms row.campaign row.first row.second z

-- What the restart theorem says of a campaign.

-- What stands of a start after both rounds. A test that was left alone is taken back: it is as if no swap had been asked for.
abbrev pub lasting : Kind → Bool → Kind
lasting starts.None confirms = starts.None
lasting starts.Test true = starts.Test
lasting starts.Test false = starts.None
lasting starts.Perm confirms = starts.Perm
lasting starts.Revert confirms = starts.Revert

-- The outcome of the second round: it boots, and the images stand as they will stay. Unless it takes a test back it has no
-- operation, and so no cut.
pub record IsLastOutcome (kind : Kind) (confirms : Bool) (a b cuts : List ℕ) (outcome : Report) : Type 0 where
  pub result : outcome.result ≡ results.Boot
  pub primary : outcome.primary ≡ id_of (named (lasting kind confirms) a b)
  pub secondary : outcome.secondary ≡ id_of (other (lasting kind confirms) a b)
  pub next : kind ≢ starts.None → outcome.next ≡ kinds.None
  pub idle : (kind ≡ starts.Test → confirms ≡ true) → (outcome.ops ≡ 0) × (cuts ≡ [])

-- The first round leaves x, as the restart theorem says of its cuts; the second begins there, where the image has confirmed itself
-- or not, and leaves z, as the theorem says of a second round. Both outcomes are so.
pub record BothEnd (start : PowerOn) (kind : Kind) (confirms : Bool) (a b : List ℕ) (c : List (ℕ × ℕ)) (one two : Report) (z : Content) : Type 0 where
  pub t : Content
  pub x : Content
  pub u : Content
  pub first_cut : after start (in_round 1 c) ≡ Some t
  pub first_ends : EndsIn start kind a b t x
  pub first_outcome : IsSwapOutcome kind a b (in_round 1 c) one
  pub second_cut : after (again start (confirmed_if confirms start.geometry x)) (in_round 2 c) ≡ Some u
  pub second_ends : EndsAgain start kind confirms a b x u z
  pub second_outcome : IsLastOutcome kind confirms a b (in_round 2 c) two

-- From the start of two valid images that fit, under rules that do not forget a revert that one of the rounds makes, both rounds
-- of the campaign end so.
abbrev pub Restarts : PowerOn → Bool → List (ℕ × ℕ) → Report → Report → Content → Type 0
Restarts start confirms c one two z =
    (kind : Kind) (a b : List ℕ) → BeginsImage start.geometry a → BeginsImage start.geometry b
    → (has_revert kind confirms ≡ true → forgets_reverts start.rules.grain start.rules.profile ≡ false)
    → start_flash start.geometry kind a b ≡ Some start.content → BothEnd start kind confirms a b c one two z

-- So it is of a row's campaign and its outcomes.
abbrev pub RowRestarts : PowerOn → Bool → ShownRow → Type 0
RowRestarts start confirms row =
    IsLayout start.geometry → (z : Content)
    × Restarts start confirms row.campaign row.first row.second z

-- How rows of campaigns are printed: this project's own text.

-- The campaign, how both rounds ended, and what the second left.
abbrev pub row_text : ShownRow → List ℕ
row_text row =
    campaign_text row.campaign ++ (codes " " ++ (outcome_text row.first ++ (codes " " ++ (outcome_text row.second ++ (codes " " ++ slots_text row.second)))))

-- How many operations a row of campaigns costs.

-- The most operations for a row: two boots and the write between them, and two on the way to it.
abbrev pub most_for_row : Rules → Geometry → ℕ
most_for_row r g = 2 * most_operations r.grain g + 3

-- Campaigns, as what is explored, and their rows, as they are listed.

abbrev pub campaigns : Subject Bool (List (ℕ × ℕ)) ShownRow CampaignCursor
campaigns = record {
  IsListed = IsMember;
  Before = Precedes;
  key = λ row. row.campaign;
  key_text = campaign_text;
  row_text = row_text;
  no_key = [];
  ends = end_of;
  HasOutcome = HasOutcomes;
  Restarts = RowRestarts;
  most_for_row = most_for_row;
  IsCheap = λ r g bound applied. Unit {0};
  cursor = cursor_of;
  cursor_text = cursor_text;
}

-- A row of the whole list: one of the campaigns to go through, with its outcomes.
abbrev pub IsRow : PowerOn → Bool → ℕ → ShownRow → Type 0
IsRow = states.IsRow campaigns

-- The rows past the position, each of them and no others, in their order.
abbrev pub IsRest : State → List ShownRow → Type 0
IsRest = listings.IsRest (states.rows_of campaigns)

-- An explorer of campaigns that goes on after a cursor, or the first reason why there is none.

-- The state after a campaign.
abbrev pub after_key : PowerOn → Bool → ℕ → List (ℕ × ℕ) → State
after_key = states.after_key

abbrev pub Resumes : PowerOn → Bool → ℕ → CampaignCursor → Result Explored ExploreError → Type 0
Resumes start confirms bound c = states.Resumes campaigns start confirms bound (fields_of c)
