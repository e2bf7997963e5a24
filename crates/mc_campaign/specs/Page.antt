-- Pages of campaigns, made as those of schedules.
use Rattle.std.specs.Prelude.{ℕ, Bool, List, Option, []}
use Rattle.mc_tree.specs.Tree as chains
use Rattle.mc_explore.specs.Pages as pages
use Rattle.mc_explore.specs.Subject.{rows_of}
use Rattle.mc_campaign.specs.{Campaigns.{Precedes}, Rows.{IsRow, campaigns, State, ShownRow}}

-- The page of the rows to come is out, or a beginning of it.
abbrev pub PageIsOut : State → State → ℕ → Option (List ℕ) → Option (List ℕ) → Type 0
PageIsOut = pages.PageIsOut (rows_of campaigns)

abbrev pub PageBegan : State → ℕ → Option (List ℕ) → Option (List ℕ) → Type 0
PageBegan = pages.PageBegan (rows_of campaigns)

-- Where an explorer is after the first so many of the rows to come.
abbrev pub state_past : State → ℕ → List ShownRow → State
state_past = pages.state_past (rows_of campaigns)

-- The campaign of the last row, which a full page's cursor names.
abbrev pub last_campaign : List (ℕ × ℕ) → List ShownRow → List (ℕ × ℕ)
last_campaign = chains.last_key (λ row. row.campaign)

-- The rows of the pages of a chain, joined, each page continued from the cursor of the one before it.
abbrev pub Chain : State → List ℕ → Bool → List ShownRow → Type 0
Chain state limits ended rows =
    chains.Chain Precedes (λ row. row.campaign) [] (IsRow state.start state.choice state.bound) state.position limits ended rows
