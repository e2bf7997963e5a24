-- What is asked of a campaign of two rounds, and what answers it.
use Rattle.std.specs.Prelude.{List, Option, Some, codes, ℕ, ◌++◌, ◌≡◌, ◌⊎◌}
use Rattle.clap.specs.{Words.{first_value}, declared.parser.matches.Found.{Found}}
use Rattle.mc_actions.specs.{Schedules.{HasOutput, IsFlashUnwritten, LosesOrFails}, declared.rounds.Campaigned.{Campaigned}, declared.rounds.RoundText.{RoundText}, declared.schedule.Outputs.{Outputs}}
use Rattle.mc_actions.specs.declared.rounds.RoundText.TheVariants as texts
use Rattle.mc_boot.specs.{Outcome.{Report, outcome_text}, Plan.{PowerOn}}
use Rattle.mc_campaign.specs.{Campaigns.{AreReplayed, BeginsSecond, RefusesCampaign, in_round}, Rows.{Restarts}, Texts.{campaign_text}}
use Rattle.mc_cli.specs.Files.{Holds}
use Rattle.mc_explore.specs.declared.replays.ReplayError.{ReplayError}
use Rattle.mc_flash.specs.Flash.{Content}
use Rattle.mc_options.specs.{Arguments.{GivesFlash, IsFlag, KeepsFiles}, Refusals.{FailsCampaign, HasText, InTurn, LacksFlash, LacksOption}, Requests.{End, IsAnswered, IsDone, IsUnwritten}, Sources.{GivesStart}}
use Rattle.mc_options.specs.declared.refusal.Refusal.{Refusal}
use Rattle.mc_options.specs.declared.refusal.Refusal.TheVariants as refusals
use Rattle.mc_start.specs.Start.{begun}
use Rattle.mc_trace.specs.{Sectors.{IsAt, picture}, Trace.{trace_text}, declared.error.TraceError.{TraceError}}

-- The words give a campaign, the start that it begins at, and whether the image confirms itself between the rounds; and no image is to be
-- written over.
pub record GivesCampaign (holds : Holds) (found : Found) (c : Campaigned) : Type 0 where
  pub start : GivesStart holds found c.start
  pub campaign : first_value found (codes "schedule") ≡ Some (campaign_text c.campaign)
  pub confirms : IsFlag found (codes "confirm") c.confirms
  pub kept : KeepsFiles found

-- They give no campaign; or no source, or a file is refused.
abbrev pub LacksKey : Found → Refusal → Type 0
LacksKey found e = LacksOption found (codes "schedule") e ⊎ HasText found (codes "schedule") (λ text. FailsCampaign text e)

abbrev pub LacksCampaign : Holds → Found → Refusal → Type 0
LacksCampaign holds found =
    InTurn (GivesFlash found) (LacksFlash found) (λ options.
    InTurn (λ campaign. first_value found (codes "schedule") ≡ Some (campaign_text campaign)) (LacksKey found) (λ campaign. LosesOrFails holds found options))

-- Each round under a line of its own.
abbrev pub rounds_text : List ℕ → List ℕ → List ℕ
rounds_text first second = codes "round 1\n" ++ (first ++ (codes "round 2\n" ++ second))

-- What both rounds come to.
pub record RoundsReplayed (c : Campaigned) : Type 0 where
  pub first : Report
  pub second : Report
  pub left : Content
  pub replayed : AreReplayed (begun c.start) c.confirms c.campaign first second left
  pub restarts : Restarts (begun c.start) c.confirms c.campaign first second left

-- When they come to nothing: a cut can't occur, or an allocation failed.
abbrev pub RefusesRounds : Campaigned → Refusal → Type 0
RefusesRounds c e = (error : ReplayError) × (e ≡ refusals.Replay error) × RefusesCampaign (begun c.start) c.confirms c.campaign error

-- Its flashes are not written: the one at the last cut is not found, or its file fails.
abbrev pub IsCampaignUnwritten : Refusal → Type 0
IsCampaignUnwritten e = ((error : ReplayError) × (e ≡ refusals.Replay error)) ⊎ IsFlashUnwritten e

abbrev pub AnswersRounds : Campaigned → Outputs → Option (List ℕ) → Option (List ℕ) → End → Type 0
AnswersRounds c o =
    IsAnswered (λ (r : RoundsReplayed c). rounds_text (outcome_text r.first) (outcome_text r.second)) IsDone
    (λ e. RefusesRounds c e ⊎ ((e ≡ refusals.Memory) ⊎ (HasOutput o × IsCampaignUnwritten e))) IsUnwritten

-- That is what is shown of a round.
abbrev pub IsRoundText : RoundText → PowerOn → List ℕ → List ℕ → Type 0
IsRoundText (texts.Operations span) x cuts text = text ≡ trace_text span x cuts
IsRoundText (texts.Sectors v) x cuts text = (u : Content) × IsAt v.moment x cuts u × (text ≡ picture v.words x.geometry x.content u)

-- Each cut can occur, and the second round begins there.
pub record BeginsBoth (c : Campaigned) (then : PowerOn) : Type 0 where
  pub all : RoundsReplayed c
  pub begins : BeginsSecond (begun c.start) c.confirms (in_round 1 c.campaign) then

-- And of both: the second begins where the first leaves the flash.
pub record RoundsShown (c : Campaigned) (t : RoundText) : Type 0 where
  pub then : PowerOn
  pub begins : BeginsSecond (begun c.start) c.confirms (in_round 1 c.campaign) then
  pub first : List ℕ
  pub first_is : IsRoundText t (begun c.start) (in_round 1 c.campaign) first
  pub second : List ℕ
  pub second_is : IsRoundText t then (in_round 2 c.campaign) second

-- A write fails, or an allocation within a round.
abbrev pub IsShowingBroken : Refusal → Type 0
IsShowingBroken e = IsUnwritten e ⊎ ((error : TraceError) × (e ≡ refusals.Trace error))

abbrev pub AnswersShown : Campaigned → RoundText → Option (List ℕ) → Option (List ℕ) → End → Type 0
AnswersShown c t = IsAnswered (λ (r : RoundsShown c t). rounds_text r.first r.second) IsDone (RefusesRounds c) IsShowingBroken
