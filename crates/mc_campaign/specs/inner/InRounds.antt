-- The campaign of the cuts along a path.
use Rattle.std.specs.Prelude.{Bool, List, Option, Some, None, [], suc, zero, ℕ, ◌∷◌}
use Rattle.mc_boot.specs.{Outcome.{shown}, declared.outcome.Outcome.{Outcome}}
use Rattle.mc_campaign.specs.{Rows.{ShownRow}, facts.Listed.{row_at}}
use Rattle.mc_explore.specs.{declared.boot_row.BootRow.{BootRow}, declared.boot_row.Cuts.{Cuts}, inner.Exploring.{Edge}}
use Rattle.mc_explore.specs.declared.rounds.Rounds.TheVariants as kinds

-- Numbers of cuts, each with its round: so many lie in the first.
abbrev pub in_rounds : ℕ → List ℕ → List (ℕ × ℕ)
in_rounds first [] = []
in_rounds zero (n ∷ ns) = (2, n) ∷ in_rounds zero ns
in_rounds (suc first) (n ∷ ns) = (1, n) ∷ in_rounds first ns

abbrev pub campaign_of : Cuts → List (ℕ × ℕ)
campaign_of cuts = in_rounds cuts.in_first cuts.numbers

-- How the first round ends. There is one; where it were not, as the last.
abbrev pub first_or : Option Outcome → Outcome → Outcome
first_or (Some first) last = first
first_or None last = last

-- A campaign has the cuts along its path, and its row the outcomes of both rounds there.
abbrev pub edge : Edge Bool (List (ℕ × ℕ)) ShownRow
edge = record {
  rounds_in = λ confirms. kinds.Two confirms;
  key_in = campaign_of;
  shown_of = λ row. record { campaign = campaign_of row.cuts; first = shown (first_or row.ends.first row.ends.last); second = shown row.ends.last };
  row_at = row_at;
}
