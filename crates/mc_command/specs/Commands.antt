-- What the words of each command ask for, and what answers it.
use Rattle.std.specs.Io.KnownBytes.{Keeps}
use Rattle.std.specs.Prelude.{Bool, Err, List, None, Ok, Option, Result, Some, [], codes, false, if◌then◌else◌, true, ℕ, ⊤, ◌&&◌, ◌≡◌, ◌≤◌, ◌⊎◌}
use Rattle.clap.specs.{Simple.{App, subcommand_of}, Walk.{Row, rows_of}, Words.{IsAmong, fault_of, first_value}}
use Rattle.clap.specs.{declared.error.kind.ErrorKind.{ErrorKind}, declared.parser.matches.Found.{Found}}
use Rattle.clap.specs.declared.error.kind.ErrorKind.TheVariants as clap
use Rattle.mc_actions.specs.Explained.{AnswersExplained, GivesExplained}
use Rattle.mc_actions.specs.Images.{AnswersCreate, AnswersInfile, GivesCreation, GivesInfile, LacksCreation}
use Rattle.mc_actions.specs.Lives.{AnswersLife, GivesLife, LacksLife}
use Rattle.mc_actions.specs.Layouts.{AnswersLayout, AnswersType, LacksTimedLayout}
use Rattle.mc_actions.specs.Rounds.{AnswersRounds, AnswersShown, GivesCampaign, LacksCampaign}
use Rattle.mc_actions.specs.Schedules.{AnswersReplay, AnswersSectors, AnswersTrace, GivesBoot, GivesOutputs, GivesScheduled, LacksFrom, LacksScheduled, LacksTraced, LacksViewed}
use Rattle.mc_actions.specs.Vectors.{AnswersVectors, GivesVectors, IsFew, LacksVectors}
use Rattle.mc_actions.specs.declared.rounds.RoundText.TheVariants as texts
use Rattle.mc_cli.specs.{Files.{Holds}, Program.{IsMcsim}}
use Rattle.mc_campaign.specs.{Rows.{campaigns}, Texts.{fields_of}}
use Rattle.mc_command.specs.Inspections.{AnswersInspect, AnswersLocate, GivesInspect, GivesLocate, LacksInspect, LacksLocate}
use Rattle.mc_command.specs.{Pictures.{AnswersFrames, AnswersPicture, GivesPicture, LacksFrames, LacksPicture}, Tears.{AnswersTears, GivesTears, LacksTears}, declared.request.Command.{Command}, declared.request.Request.{Request}}
use Rattle.mc_command.specs.declared.request.Command.TheVariants as commands
use Rattle.mc_command.specs.declared.request.Request.TheVariants as requests
use Rattle.mc_explore.specs.Rows.{subject}
use Rattle.mc_explore.specs.Rows as schedules
use Rattle.mc_imgtool.specs.Lines.{dumped, verified}
use Rattle.mc_options.specs.{Arguments.{GivesLayout, GivesSpan, GivesView, IsFlag, IsReady, MayGiveTimes}, Requests.{End, IsRun}, LayoutFiles.{RefusesFiles, StandsFor}, Sources.{GivesStart, LacksStart}, Statuses.{status_of}, declared.refusal.Refusal.{Refusal}}
use Rattle.mc_options.specs.Refusals.{ConfirmsAlone, InTurn, IsNoCampaign, IsNoSchedule, LacksSpan, LacksView}
use Rattle.mc_options.specs.declared.refusal.Refusal.TheVariants as refusals
use Rattle.mc_options.specs.declared.options.ExploreOptions.{ExploreOptions}
use Rattle.mc_verdict.specs.{PagesAsked.{AnswersPage, AnswersSurvey}, Requests.{AnswersCensus}, Sessions.{GivesExploration, GivesWanted, IsNoCampaignCursor, IsNoCursor, LacksCensus, LacksExploration, is_left_alone}, Verdicts.{GivesEnds}}

-- The words ask for two rounds.
abbrev pub AsksTwo : Found → Type 0
AsksTwo found = first_value found (codes "rounds") ≡ Some (codes "2")

-- In one round nothing is chosen, and images lie as the swap leaves them; in two the words choose whether the image confirms itself, and those
-- of a test that is left alone return.
abbrev NoChoice : Found → Unit {0} → Type 0
NoChoice found c = Unit {0}

abbrev Confirms : Found → Bool → Type 0
Confirms found confirms = IsFlag found (codes "confirm") confirms

-- The words of the command of that name ask for it.
abbrev pub Asks : List ℕ → Holds → Found → Request → Type 0
Asks name holds found (requests.Create c) = (name ≡ codes "create") × GivesCreation found c
Asks name holds found (requests.Verify infile) = (name ≡ codes "verify") × GivesInfile found infile
Asks name holds found (requests.Dumpinfo infile) = (name ≡ codes "dumpinfo") × GivesInfile found infile
Asks name holds found (requests.Layout g times) = (name ≡ codes "layout") × GivesLayout found g × MayGiveTimes found times
Asks name holds found (requests.Type s) = (name ≡ codes "type") × GivesStart holds found s
Asks name holds found (requests.Replay s o) =
    (((name ≡ codes "boot") × GivesBoot holds found s) ⊎ ((name ≡ codes "replay") × (AsksTwo found → ⊥) × GivesScheduled holds found s)) × GivesOutputs found o
Asks name holds found (requests.CampaignReplay c o) = (name ≡ codes "replay") × AsksTwo found × GivesCampaign holds found c × GivesOutputs found o
Asks name holds found (requests.Trace s span) = (name ≡ codes "trace") × (AsksTwo found → ⊥) × GivesScheduled holds found s × GivesSpan found span
Asks name holds found (requests.Sectors s v) = (name ≡ codes "sectors") × (AsksTwo found → ⊥) × GivesScheduled holds found s × GivesView found v
Asks name holds found (requests.CampaignShown c (texts.Operations span)) = (name ≡ codes "trace") × AsksTwo found × GivesCampaign holds found c × GivesSpan found span
Asks name holds found (requests.CampaignShown c (texts.Sectors v)) = (name ≡ codes "sectors") × AsksTwo found × GivesCampaign holds found c × GivesView found v
Asks name holds found (requests.Frames s ends span) = (name ≡ codes "frames") × GivesScheduled holds found s × GivesEnds found ends × GivesSpan found span
Asks name holds found (requests.Picture p) = (name ≡ codes "picture") × GivesPicture holds found p
Asks name holds found (requests.Tears t) = (name ≡ codes "tears") × GivesTears holds found t
Asks name holds found (requests.Vectors v) = (name ≡ codes "vectors") × GivesVectors holds found v
Asks name holds found (requests.Inspect i) = (name ≡ codes "inspect") × GivesInspect holds found i
Asks name holds found (requests.Locate l) = (name ≡ codes "locate") × GivesLocate holds found l
Asks name holds found (requests.Explore a e) = (name ≡ codes "explore") × GivesExploration subject NoChoice (λ _ _. false) holds found a e
Asks name holds found (requests.Campaigns a e) = (name ≡ codes "campaign") × GivesExploration campaigns Confirms is_left_alone holds found a e
Asks name holds found (requests.Survey a e) =
    (name ≡ codes "survey") × (AsksTwo found → ⊥) × GivesExploration subject NoChoice (λ _ _. false) holds found a e
Asks name holds found (requests.CampaignSurvey a e) =
    (name ≡ codes "survey") × AsksTwo found × GivesExploration campaigns Confirms is_left_alone holds found a e
Asks name holds found (requests.Explain x) = (name ≡ codes "explain") × GivesExplained found x
Asks name holds found (requests.Census w) = (name ≡ codes "census") × (AsksTwo found → ⊥) × GivesWanted NoChoice (λ _ _. false) holds found w
Asks name holds found (requests.CampaignCensus w) = (name ≡ codes "census") × AsksTwo found × GivesWanted Confirms is_left_alone holds found w

-- The name of a command.
abbrev pub command_name : Command → List ℕ
command_name commands.Create = codes "create"
command_name commands.Verify = codes "verify"
command_name commands.Dumpinfo = codes "dumpinfo"
command_name commands.Layout = codes "layout"
command_name commands.Type = codes "type"
command_name commands.Boot = codes "boot"
command_name commands.Replay = codes "replay"
command_name commands.Trace = codes "trace"
command_name commands.Sectors = codes "sectors"
command_name commands.Frames = codes "frames"
command_name commands.Picture = codes "picture"
command_name commands.Tears = codes "tears"
command_name commands.Vectors = codes "vectors"
command_name commands.Inspect = codes "inspect"
command_name commands.Locate = codes "locate"
command_name commands.Explore = codes "explore"
command_name commands.Campaign = codes "campaign"
command_name commands.Survey = codes "survey"
command_name commands.Census = codes "census"
command_name commands.Explain = codes "explain"

-- Why words that may ask for one round or for two ask for nothing.
abbrev LacksRounds : (Holds → Found → Refusal → Type 0) → (Holds → Found → Refusal → Type 0) → Holds → Found → Refusal → Type 0
LacksRounds One Two holds found e =
    ConfirmsAlone found e ⊎ (((AsksTwo found → ⊥) × One holds found e) ⊎ (AsksTwo found × Two holds found e))

abbrev LacksSchedules : Holds → Found → Refusal → Type 0
LacksSchedules = LacksExploration subject IsNoCursor IsNoSchedule

abbrev LacksCampaigns : Holds → Found → Refusal → Type 0
LacksCampaigns = LacksExploration campaigns IsNoCampaignCursor IsNoCampaign

-- Why the words of a command ask for nothing: each refusal by its condition, in the order in which words are read; and which files, or their
-- bytes, are refused, once no word is. Nothing that `verify`, `dumpinfo` and `explain` take is refused before it is answered.
abbrev pub Lacks : Command → Holds → Found → Refusal → Type 0
Lacks commands.Create = λ holds. LacksCreation
Lacks commands.Verify = λ holds found e. ⊥
Lacks commands.Dumpinfo = λ holds found e. ⊥
Lacks commands.Layout = λ holds. LacksTimedLayout
Lacks commands.Type = LacksStart
Lacks commands.Boot = LacksFrom (codes "-")
Lacks commands.Replay = LacksRounds LacksScheduled LacksCampaign
Lacks commands.Trace = LacksRounds LacksTraced (λ holds found. InTurn (GivesSpan found) (LacksSpan found) (λ span. LacksCampaign holds found))
Lacks commands.Sectors = LacksRounds LacksViewed (λ holds found. InTurn (GivesView found) (LacksView found) (λ view. LacksCampaign holds found))
Lacks commands.Frames = LacksFrames
Lacks commands.Picture = LacksPicture
Lacks commands.Tears = LacksTears
Lacks commands.Vectors = LacksVectors
Lacks commands.Inspect = LacksInspect
Lacks commands.Locate = LacksLocate
Lacks commands.Explore = LacksSchedules
Lacks commands.Campaign = LacksCampaigns
Lacks commands.Survey = LacksRounds LacksSchedules LacksCampaigns
Lacks commands.Census = LacksRounds LacksCensus LacksCensus
Lacks commands.Explain = λ holds found e. ⊥

-- The same by the name of a command; or no command has that name.
abbrev pub LacksNamed : List ℕ → Holds → Found → Refusal → Type 0
LacksNamed name holds found e =
    ((command : Command) × (name ≡ command_name command) × Lacks command holds found e)
    ⊎ ((e ≡ refusals.Argument) × ((command : Command) → name ≡ command_name command → ⊥))

-- The words keep numbers in the ranges of their options.
abbrev IsPageBounded : ExploreOptions → Type 0
IsPageBounded o = (o.cuts ≤ 16) × (1 ≤ o.limit)

abbrev pub IsBounded : Request → Type 0
IsBounded (requests.Create c) = IsReady c.options
IsBounded (requests.Vectors v) = IsFew v.cuts
IsBounded (requests.Inspect i) = i.wanted.cuts ≤ 16
IsBounded (requests.Explore a e) = IsPageBounded e.extent
IsBounded (requests.Campaigns a e) = IsPageBounded e.extent
IsBounded (requests.Survey a e) = IsPageBounded e.extent
IsBounded (requests.CampaignSurvey a e) = IsPageBounded e.extent
IsBounded (requests.Census w) = w.cuts ≤ 16
IsBounded (requests.CampaignCensus w) = w.cuts ≤ 16
IsBounded _ = ⊤

-- What the words of a command give: what they ask for, or why they ask for nothing.
abbrev pub IsRead : Command → Holds → Found → Result Request Refusal → Type 0
IsRead command holds found (Ok request) = Asks (command_name command) holds found request × IsBounded request
IsRead command holds found (Err e) = Lacks command holds found e

-- What is out at the end, and how it ends, where so much is known of standard input.
abbrev pub Answers : Request → Holds → Option (List ℕ) → Option (List ℕ) → Option (List ℕ) → End → Type 0
Answers (requests.Create c) holds input = AnswersCreate c holds input
Answers (requests.Verify infile) holds input = AnswersInfile verified holds infile input
Answers (requests.Dumpinfo infile) holds input = AnswersInfile dumped holds infile input
Answers (requests.Layout g times) holds input = AnswersLayout g times
Answers (requests.Type s) holds input = AnswersType s
Answers (requests.Replay s o) holds input = AnswersReplay s o
Answers (requests.CampaignReplay c o) holds input = AnswersRounds c o
Answers (requests.Trace s span) holds input = AnswersTrace s span
Answers (requests.Sectors s v) holds input = AnswersSectors s v
Answers (requests.CampaignShown c t) holds input = AnswersShown c t
Answers (requests.Frames s ends span) holds input = AnswersFrames s ends span
Answers (requests.Picture p) holds input = AnswersPicture p
Answers (requests.Tears t) holds input = AnswersTears t
Answers (requests.Vectors v) holds input = AnswersVectors v
Answers (requests.Inspect i) holds input = AnswersInspect i
Answers (requests.Locate l) holds input = AnswersLocate l
Answers (requests.Explore a e) holds input = AnswersPage subject schedules.fields_of e a
Answers (requests.Campaigns a e) holds input = AnswersPage campaigns fields_of e a
Answers (requests.Survey a e) holds input = AnswersSurvey subject schedules.fields_of e a
Answers (requests.CampaignSurvey a e) holds input = AnswersSurvey campaigns fields_of e a
Answers (requests.Explain x) holds input = AnswersExplained x
Answers (requests.Census w) holds input = AnswersCensus subject w
Answers (requests.CampaignCensus w) holds input = AnswersCensus campaigns w

-- The command of a name is run. Apart is `life`, whose script may be standard input.
abbrev pub Runs : List ℕ → Holds → Found → Option (List ℕ) → Option (List ℕ) → Option (List ℕ) → End → Type 0
Runs name holds found input before after end =
    ((name ≡ codes "life") × IsRun (GivesLife holds input found) (LacksLife holds input found) AnswersLife before after end)
    ⊎ ((name ≡ codes "life" → ⊥) × IsRun (Asks name holds found) (LacksNamed name holds found) (λ request. Answers request holds input) before after end)

-- All of a text was out before a command ended so: it was done; or a verdict on it is refused; or an event of a life, and those before it are out.
abbrev pub follows_text : End → Bool
follows_text (Ok done) = true
follows_text (Err refusals.NotAllBoot) = true
follows_text (Err refusals.NotAllRight) = true
follows_text (Err refusals.NotWhole) = true
follows_text (Err (refusals.Life error)) = true
follows_text (Err _) = false

-- Where what a buffer still holds could not be handed on, that is the end in place of whatever follows a text, and of nothing else.
abbrev pub end_after : End → Bool → End
end_after done failed = if follows_text done && failed then Err refusals.Write else done

pub record RunsWhole (name : List ℕ) (holds : Holds) (found : Found) (input before after : Option (List ℕ)) (failed : Bool) (end : End) : Type 0 where
  pub done : End
  pub out : Option (List ℕ)
  pub runs : Runs name holds found input before out done
  pub kept : Keeps out after
  pub end_is : end ≡ end_after done failed

-- The status of a command that ended so.
abbrev pub status_at : End → ℕ
status_at (Ok done) = 0
status_at (Err e) = status_of e

-- The command that a line names is run with what its words give, and that is the status.
pub record RunsFound (name : List ℕ) (rows : List Row) (holds : Holds) (input before after : Option (List ℕ)) (failed : Bool) (status : ℕ) : Type 0 where
  pub found : Found
  pub found_is : rows_of found ≡ rows
  pub end : End
  pub runs : RunsWhole name holds found input before after failed end
  pub status_is : status ≡ status_at end

-- It names one; or none, which is refused.
abbrev pub AnswersFound : Option (List ℕ × List Row) → Holds → Option (List ℕ) → Option (List ℕ) → Option (List ℕ) → Bool → ℕ → Type 0
AnswersFound (Some (name, rows)) holds input before after failed status = RunsFound name rows holds input before after failed status
AnswersFound None holds input before after failed status = (status ≡ 2) × (after ≡ before)

-- Of a line in which clap found no command its refusal is the answer, or the help that is asked for, which may not be written.
abbrev pub AnswersClap : ErrorKind → Option (List ℕ) → Option (List ℕ) → ℕ → Type 0
AnswersClap clap.DisplayHelp before after status = (status ≡ 0) ⊎ (status ≡ 3)
AnswersClap clap.DisplayVersion before after status = (status ≡ 0) ⊎ (status ≡ 3)
AnswersClap clap.OutOfMemory before after status = (status ≡ 3) × (after ≡ before)
AnswersClap _ before after status = (status ≡ 2) × (after ≡ before)

-- Words are run: what they give by clap's own definitions is answered; or why they are refused by these; or that an allocation failed.
abbrev pub RunsWords : List (List ℕ) → Holds → Option (List ℕ) → Option (List ℕ) → Option (List ℕ) → Bool → ℕ → Type 0
RunsWords words holds input before after failed status =
    ((a : App) × IsMcsim a × (fault_of a words ≡ []) × AnswersFound (subcommand_of a words) holds input before after failed status)
    ⊎ (((a : App) × IsMcsim a × (kind : ErrorKind) × IsAmong kind (fault_of a words) × AnswersClap kind before after status)
    ⊎ AnswersClap clap.OutOfMemory before after status)

-- A line is run: its words, in which what the files of layouts give stands before the word that names each; or such a file is refused, or
-- an allocation failed.
abbrev pub RunsLine : List (List ℕ) → Holds → Option (List ℕ) → Option (List ℕ) → Option (List ℕ) → Bool → ℕ → Type 0
RunsLine words holds input before after failed status =
    ((whole : List (List ℕ)) × StandsFor holds words whole × RunsWords whole holds input before after failed status)
    ⊎ ((e : Refusal) × RefusesFiles holds words e × (status ≡ status_of e) × (after ≡ before))
