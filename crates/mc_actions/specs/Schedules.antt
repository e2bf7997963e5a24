-- What is asked of one schedule of power cuts, and what answers it.
use Rattle.std.specs.Prelude.{List, Option, Some, codes, is_some, option_map, true, ℕ, ⊤, ◌||◌, ◌≡◌, ◌⊎◌}
use Rattle.clap.specs.{Words.{first_value}, declared.parser.matches.Found.{Found}}
use Rattle.mc_actions.specs.{declared.schedule.Outputs.{Outputs}, declared.schedule.Scheduled.{Scheduled}}
use Rattle.mc_boot.specs.Outcome.{Report, outcome_text}
use Rattle.mc_cli.specs.Files.{Holds}
use Rattle.mc_explore.specs.{Schedules.{CannotOccurAt, IsReplayed, RefusesReplay, Restarts}, declared.replays.ReplayError.{ReplayError}}
use Rattle.mc_flash.specs.Flash.{Content}
use Rattle.mc_options.specs.{Arguments.{GivesFlash, GivesSpan, GivesView, KeepsFiles, MayGiveSchedule}, Refusals.{FailsSchedule, HasText, InTurn, IsLost, LacksFlash, LacksOption, LacksSpan, LacksView}, Outfiles.{IsUnfinished}, Requests.{End, IsAnswered, IsDone, IsUnwritten}, Sources.{FailsSource, GivesStart}}
use Rattle.mc_options.specs.{declared.options.FlashOptions.{FlashOptions}, declared.refusal.Refusal.{Refusal}}
use Rattle.mc_options.specs.declared.refusal.Refusal.TheVariants as refusals
use Rattle.mc_start.specs.Start.{begun, schedule_text}
use Rattle.mc_trace.specs.{Sectors.{IsAt, picture}, Trace.{trace_text}}
use Rattle.mc_trace.specs.{declared.sectors.View.{View}, declared.trace.Span.{Span}}
use Rattle.mc_trace.specs.declared.error.TraceError.TheVariants as errors

-- The words give a schedule and the start that it begins at, and no image is to be written over; `boot` gives the schedule of no cut.
pub record GivesScheduled (holds : Holds) (found : Found) (s : Scheduled) : Type 0 where
  pub start : GivesStart holds found s.start
  pub schedule : MayGiveSchedule found (codes "schedule") (Some s.schedule)
  pub kept : KeepsFiles found

pub record GivesBoot (holds : Holds) (found : Found) (s : Scheduled) : Type 0 where
  pub start : GivesStart holds found s.start
  pub schedule : codes "-" ≡ schedule_text s.schedule
  pub kept : KeepsFiles found

-- A file that is read is not to be lost; or a file of the source is refused.
abbrev pub LosesOrFails : Holds → Found → FlashOptions → Refusal → Type 0
LosesOrFails holds found o e = IsLost found e ⊎ (KeepsFiles found × FailsSource holds o.layout o.source e)

-- They give no source, or no schedule, whose text is the one that is read; or its files are refused.
abbrev pub LacksFrom : List ℕ → Holds → Found → Refusal → Type 0
LacksFrom text holds found =
    InTurn (GivesFlash found) (LacksFlash found) (λ options.
    InTurn (λ cuts. text ≡ schedule_text cuts) (FailsSchedule text) (λ cuts. LosesOrFails holds found options))

abbrev pub LacksScheduled : Holds → Found → Refusal → Type 0
LacksScheduled holds found e =
    LacksOption found (codes "schedule") e ⊎ HasText found (codes "schedule") (λ text. LacksFrom text holds found e)

-- Besides, which operations are shown, or which view of the sectors.
abbrev pub LacksTraced : Holds → Found → Refusal → Type 0
LacksTraced holds found = InTurn (GivesSpan found) (LacksSpan found) (λ span. LacksScheduled holds found)

abbrev pub LacksViewed : Holds → Found → Refusal → Type 0
LacksViewed holds found = InTurn (GivesView found) (LacksView found) (λ view. LacksScheduled holds found)

-- They name the files that flashes go to.
pub record GivesOutputs (found : Found) (o : Outputs) : Type 0 where
  pub at_cut : option_map (λ path. path.now) o.at_cut ≡ first_value found (codes "at-cut")
  pub out : option_map (λ path. path.now) o.out ≡ first_value found (codes "out")

-- A file is to be written.
abbrev pub HasOutput : Outputs → Type 0
HasOutput o = (is_some o.at_cut || is_some o.out) ≡ true

-- A flash is not written to its file.
abbrev pub IsFlashUnwritten : Refusal → Type 0
IsFlashUnwritten e = IsUnfinished (λ r. r ≡ refusals.Trace errors.Write) e

-- What the boot after a schedule comes to.
pub record Replayed (s : Scheduled) : Type 0 where
  pub outcome : Report
  pub left : Content
  pub replayed : IsReplayed (begun s.start) s.schedule outcome left
  pub restarts : Restarts (begun s.start) s.schedule outcome left

-- When there is none: a cut can't occur; or an allocation failed; or a file is to be written, and cannot be.
abbrev pub RefusesReplayed : Scheduled → Outputs → Refusal → Type 0
RefusesReplayed s o e =
    ((error : ReplayError) × (e ≡ refusals.Replay error) × RefusesReplay (begun s.start) s.schedule error)
    ⊎ ((e ≡ refusals.Memory) ⊎ (HasOutput o × IsFlashUnwritten e))

abbrev pub AnswersReplay : Scheduled → Outputs → Option (List ℕ) → Option (List ℕ) → End → Type 0
AnswersReplay s o = IsAnswered (λ (r : Replayed s). outcome_text r.outcome) IsDone (RefusesReplayed s o) IsUnwritten

-- When nothing of a schedule is shown: a cut can't occur, or an allocation failed.
abbrev pub RefusesShown : Scheduled → Refusal → Type 0
RefusesShown s (refusals.Trace (errors.CannotOccur index)) = CannotOccurAt (begun s.start) s.schedule index
RefusesShown s (refusals.Trace errors.Memory) = ⊤
RefusesShown s _ = ⊥

-- A write of what is shown fails.
abbrev pub IsShownUnwritten : Refusal → Type 0
IsShownUnwritten e = e ≡ refusals.Trace errors.Write

-- Its operations.
abbrev pub AnswersTrace : Scheduled → Span → Option (List ℕ) → Option (List ℕ) → End → Type 0
AnswersTrace s span = IsAnswered (λ (_ : Unit {0}). trace_text span (begun s.start) s.schedule) IsDone (RefusesShown s) IsShownUnwritten

-- The sectors of a flash: at its last cut, or after its last boot.
pub record FlashShown (s : Scheduled) (v : View) : Type 0 where
  pub content : Content
  pub at : IsAt v.moment (begun s.start) s.schedule content

abbrev pub AnswersSectors : Scheduled → View → Option (List ℕ) → Option (List ℕ) → End → Type 0
AnswersSectors s v =
    IsAnswered (λ (f : FlashShown s v). picture v.words s.start.geometry s.start.content f.content) IsDone (RefusesShown s) IsShownUnwritten
