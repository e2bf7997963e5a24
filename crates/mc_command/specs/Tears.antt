-- What is asked of torn operations, and how it is answered.
use Rattle.std.specs.Prelude.{Err, List, None, Option, Some, codes, true, ℕ, ◌<◌, ◌≡◌, ◌≢◌, ◌⊎◌}
use Rattle.clap.specs.{Words.{first_value}, declared.parser.matches.Found.{Found}}
use Rattle.mc_actions.specs.{Schedules.{GivesScheduled, IsFlashUnwritten, LacksScheduled}, Vectors.{IsNoErasing}, declared.schedule.Scheduled.{Scheduled}}
use Rattle.mc_boot.specs.{Outcome.{after}, Plan.{again}}
use Rattle.mc_cli.specs.Files.{Holds}
use Rattle.mc_command.specs.{declared.tears.CaseFile.{CaseFile}, declared.tears.TearsAsked.{TearsAsked}}
use Rattle.mc_explore.specs.{Schedules.{RefusesReplay}, declared.expectation.Expectation.{Expectation}, declared.replays.ReplayError.{ReplayError}}
use Rattle.mc_explore.specs.declared.error.ExploreError.TheVariants as errors
use Rattle.mc_flash.specs.{Flash.{Content}, Geometry.{Geometry}}
use Rattle.mc_options.specs.{Arguments.{GivesLayout, IsFlag}, Numbers.{GivesNumber}, Refusals.{GivesOne, HasText, InTurn, LacksLayout, LacksNumber}, Requests.{End, IsAnswered, IsUnwritten}, declared.refusal.Refusal.{Refusal}}
use Rattle.mc_options.specs.declared.numbers.NumberOption.TheVariants as numbers
use Rattle.mc_options.specs.declared.refusal.Refusal.TheVariants as refusals
use Rattle.mc_start.specs.Start.{Started, begun}
use Rattle.mc_tear.specs.{Readings.{reading_of, reading_text}, declared.torn.Erasing.{Erasing}}
use Rattle.mc_tear.specs.declared.torn.Erasing.TheVariants as erasings
use Rattle.mc_tears.specs.{Losses.{lost}, Tears.{all_right, tears_text}, declared.error.TearError.{TearError}}
use Rattle.mc_tears.specs.declared.error.TearError.TheVariants as tear_errors
use Rattle.mc_verdict.specs.{Sessions.{or_any}, Verdicts.{GivesAsked, IsExpectation, IsJudged, LacksEnds, NeverJudged, is_of_slots, verdict_of}, declared.verdict.Asked.{Asked}}
use Rattle.std.specs.Prelude.{Ok}

-- The words say how an erase fails: gently, where they do not.
abbrev pub GivesErasing : Found → Erasing → Type 0
GivesErasing found erasings.Gentle = (first_value found (codes "erase") ≡ None) ⊎ (first_value found (codes "erase") ≡ Some (codes "gentle"))
GivesErasing found erasings.Rough = first_value found (codes "erase") ≡ Some (codes "rough")

-- They name a case, and the file that its flash goes to.
pub record NamesCase (found : Found) (c : CaseFile) : Type 0 where
  pub number : GivesNumber found numbers.At c.number
  pub reading : first_value found (codes "reading") ≡ Some (reading_text c.reading)
  pub path : first_value found (codes "out") ≡ Some c.path.now

abbrev pub GivesCase : Found → Option CaseFile → Type 0
GivesCase found None = first_value found (codes "out") ≡ None
GivesCase found (Some c) = NamesCase found c

-- The start is the flash at the last cut of the schedule that the words give, and that is expected at the end.
pub record StartsAfter (holds : Holds) (found : Found) (asked : Asked) (s : Started) (e : Expectation) : Type 0 where
  pub given : Scheduled
  pub gives : GivesScheduled holds found given
  pub cut : Content
  pub cut_is : after (begun given.start) given.schedule ≡ Some cut
  pub start_is : begun s ≡ again (begun given.start) cut
  pub expected : Option Expectation
  pub expects : IsExpectation asked given.start.named (Ok expected)
  pub expectation_is : e ≡ or_any expected

pub record GivesTears (holds : Holds) (found : Found) (t : TearsAsked) : Type 0 where
  pub layout : Geometry
  pub layout_given : GivesLayout found layout
  pub asked : GivesAsked found t.asked
  pub judged : IsJudged t.asked layout
  pub erasing : GivesErasing found t.torn.erasing
  pub all : IsFlag found (codes "all") t.torn.all
  pub file : GivesCase found t.file
  pub start : StartsAfter holds found t.asked t.start t.torn.expectation

-- They give none of these: a text names no way in which an erase fails.
abbrev pub LacksErasing : Found → Refusal → Type 0
LacksErasing found e = (e ≡ refusals.Argument) × HasText found (codes "erase") IsNoErasing

-- A text is that of no reading; or of the three words of a case only some are given.
abbrev pub IsNoReading : List ℕ → Type 0
IsNoReading text = (n : ℕ) → n < 192 → text ≡ reading_text (reading_of n) → ⊥

abbrev pub LacksCase : Found → Refusal → Type 0
LacksCase found e =
    (LacksNumber found numbers.At e ⊎ ((e ≡ refusals.NoReading) × HasText found (codes "reading") IsNoReading))
    ⊎ ((e ≡ refusals.Argument) × (GivesOne found (codes "at") (codes "reading") ⊎ GivesOne found (codes "reading") (codes "out")))

-- The boot after the schedule is not found: what a slot is to hold is not known, or a cut can't occur, or an allocation failed.
pub record LacksBoot (holds : Holds) (found : Found) (asked : Asked) (e : Refusal) : Type 0 where
  pub given : Scheduled
  pub gives : GivesScheduled holds found given
  pub fails : IsExpectation asked given.start.named (Err e) ⊎ ((error : ReplayError) × (e ≡ refusals.Replay error) × RefusesReplay (begun given.start) given.schedule error)

abbrev pub LacksStartAfter : Holds → Found → Asked → Refusal → Type 0
LacksStartAfter holds found asked e = LacksScheduled holds found e ⊎ (LacksBoot holds found asked e ⊎ (e ≡ refusals.Explore errors.Memory))

abbrev pub LacksTears : Holds → Found → Refusal → Type 0
LacksTears holds found =
    InTurn (GivesLayout found) (LacksLayout found) (λ layout.
    InTurn (GivesAsked found) (LacksEnds found) (λ asked.
    InTurn (λ (_ : Unit {0}). IsJudged asked layout) (NeverJudged asked layout) (λ _.
    InTurn (GivesErasing found) (LacksErasing found) (λ erasing.
    InTurn (GivesCase found) (LacksCase found) (λ case. LacksStartAfter holds found asked)))))

-- The boot has the case whose flash is to be written.
abbrev pub HasCase : TearsAsked → CaseFile → Type 0
HasCase t c = lost t.torn.erasing (begun t.start) (record { operation = c.number; within = Some c.reading }) ≢ None

abbrev pub HasEachCase : TearsAsked → Type 0
HasEachCase t = (c : CaseFile) → t.file ≡ Some c → HasCase t c

-- Why that flash is not written: there is no such case; or there is, and its file fails; or an allocation failed.
abbrev pub RefusesCase : TearsAsked → Refusal → Type 0
RefusesCase t e =
    (c : CaseFile) × (t.file ≡ Some c)
    × (((e ≡ refusals.NoCase) × (HasCase t c → ⊥)) ⊎ ((HasCase t c × IsFlashUnwritten e) ⊎ (e ≡ refusals.Explore errors.Memory)))

-- Why tears are not shown.
abbrev pub refused_as : TearError → Refusal
refused_as tear_errors.Memory = refusals.Explore errors.Memory
refused_as tear_errors.Write = refusals.Write

-- They are shown where the boot has the case that is to be written, and end with the verdict on their cases.
abbrev pub AnswersTears : TearsAsked → Option (List ℕ) → Option (List ℕ) → End → Type 0
AnswersTears t =
    IsAnswered (λ (_ : HasEachCase t). tears_text t.torn (begun t.start))
    (λ _ end. end ≡ verdict_of t.asked.all_boot (is_of_slots t.asked) true (all_right t.torn (begun t.start)) true)
    (λ e. (e ≡ refusals.Explore errors.Memory) ⊎ RefusesCase t e) IsUnwritten
