-- How the frames of a schedule are answered, as text and as a picture, and how many operations that shows.
use Rattle.std.specs.Prelude.{List, Option, [], min, ℕ, ◌+◌, ◌-◌, ◌<◌, ◌∷◌, ◌≡◌, ◌≤◌, ◌⊎◌}
use Rattle.clap.specs.declared.parser.matches.Found.{Found}
use Rattle.mc_actions.specs.{Schedules.{GivesScheduled, IsShownUnwritten, LacksTraced, RefusesShown}, Vectors.{GivesTorn, LacksTorn}, declared.schedule.Scheduled.{Scheduled}}
use Rattle.mc_boot.specs.Outcome.{Report}
use Rattle.mc_cli.specs.{Files.{Holds}, declared.command.TheConstants.{VERSION}}
use Rattle.mc_explore.specs.{Schedules.{IsReplayed, RefusesReplay}, declared.replays.ReplayError.{ReplayError}}
use Rattle.mc_flash.specs.Flash.{Content}
use Rattle.mc_command.specs.declared.picture.PictureAsked.{PictureAsked}
use Rattle.mc_options.specs.{Arguments.{GivesSpan}, Refusals.{InTurn}, Requests.{End, IsAnswered, IsDone}, declared.refusal.Refusal.{Refusal}}
use Rattle.mc_options.specs.declared.refusal.Refusal.TheVariants as refusals
use Rattle.mc_start.specs.Start.{begun}
use Rattle.mc_trace.specs.{Frames.{frames_text}, Picture.{IsPicture}, declared.error.TraceError.{TraceError}, declared.trace.Span.{Span}}
use Rattle.mc_verdict.specs.{Verdicts.{GivesEnds, LacksEnds, expected_ends}, declared.verdict.Ends.{Ends}}

-- So many of the first n numbers lie in a span.
abbrev pub within : Span → ℕ → ℕ
within span n = min n (span.to + 1) - span.from

-- So many operations are seen of the boots that are cut, each up to its cut, and of the last one, which has so many.
abbrev pub rows_in : Span → List ℕ → ℕ → ℕ
rows_in span [] last = within span last
rows_in span (cut ∷ cuts) last = within span (cut + 1) + rows_in span cuts last

-- The words ask for a picture.
pub record GivesPicture (holds : Holds) (found : Found) (p : PictureAsked) : Type 0 where
  pub schedule : GivesScheduled holds found p.given
  pub ends : GivesEnds found p.ends
  pub span : GivesSpan found p.span
  pub torn : GivesTorn found p.torn

-- They ask for none.
abbrev pub LacksFrames : Holds → Found → Refusal → Type 0
LacksFrames holds found = InTurn (GivesEnds found) (LacksEnds found) (λ ends. LacksTraced holds found)

abbrev pub LacksPicture : Holds → Found → Refusal → Type 0
LacksPicture holds found = InTurn (GivesTorn found) (LacksTorn found) (λ torn. LacksFrames holds found)

-- That holds of how many operations are seen of a schedule's boots.
pub record HasRows (s : Scheduled) (span : Span) (Many : ℕ → Type 0) : Type 0 where
  pub outcome : Report
  pub left : Content
  pub replayed : IsReplayed (begun s.start) s.schedule outcome left
  pub many : Many (rows_in span s.schedule outcome.ops)

-- The picture of a schedule, for what is expected of its slots, of no more operations than a browser can show.
pub record Drawn (p : PictureAsked) : Type 0 where
  pub text : List ℕ
  pub is : IsPicture VERSION.now (expected_ends p.ends p.given.start.named) p.span p.torn p.given.start p.given.schedule text
  pub few : HasRows p.given p.span (λ n. n ≤ 20000)

-- There would be more.
abbrev pub IsLarge : Scheduled → Span → Type 0
IsLarge s span = HasRows s span (λ n. 20000 < n)

-- An allocation fails while it is drawn, or a write.
abbrev pub IsUndrawn : Refusal → Type 0
IsUndrawn e = (error : TraceError) × (e ≡ refusals.Trace error)

-- When there is none: a cut can't occur; or it is large; or an allocation failed.
abbrev pub RefusesPicture : Scheduled → Span → Refusal → Type 0
RefusesPicture s span e =
    ((error : ReplayError) × (e ≡ refusals.Replay error) × RefusesReplay (begun s.start) s.schedule error)
    ⊎ (((e ≡ refusals.LargePicture) × IsLarge s span) ⊎ IsUndrawn e)

abbrev pub AnswersPicture : PictureAsked → Option (List ℕ) → Option (List ℕ) → End → Type 0
AnswersPicture p = IsAnswered (λ (d : Drawn p). d.text) IsDone (RefusesPicture p.given p.span) IsUndrawn

-- The frames of a schedule, for what is expected of its slots. They are refused, with nothing out, where a cut can't occur or an allocation
-- fails; or an allocation or a write fails in them.
abbrev pub AnswersFrames : Scheduled → Ends → Span → Option (List ℕ) → Option (List ℕ) → End → Type 0
AnswersFrames s ends span =
    IsAnswered (λ (_ : Unit {0}). frames_text VERSION.now (expected_ends ends s.start.named) span s.start s.schedule) IsDone (RefusesShown s) IsShownUnwritten
