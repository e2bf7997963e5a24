-- Why the words of a command line give nothing, each reason with its refusal.
use Rattle.std.specs.Prelude.{List, None, Some, codes, is_some, true, unwrap_or, ℕ, ◌||◌, ◌≡◌, ◌⊎◌}
use Rattle.clap.specs.{Words.{first_value}, declared.parser.matches.Found.{Found}}
use Rattle.mc_campaign.specs.Texts.{IsCampaign, campaign_text}
use Rattle.mc_flash.specs.{Flash.{grain_text}, Geometry.{Geometry, refusal_of}}
use Rattle.mc_flash.specs.{declared.flash.Grain.{Grain}, declared.layout.LayoutError.{LayoutError}}
use Rattle.mc_image.specs.VersionText.{Names}
use Rattle.mc_image.specs.{declared.error.VersionError.{VersionError}, declared.version.Version.{Version}}
use Rattle.mc_options.specs.Arguments.{GivesLayout, IsFlag, RefusesSource, gives_two, words_text}
use Rattle.mc_options.specs.Numbers.{GivesNoNumber, GivesNumber, IsUnit, option_name}
use Rattle.mc_options.specs.{declared.numbers.NumberOption.{NumberOption}, declared.refusal.Refusal.{Refusal}}
use Rattle.mc_options.specs.declared.numbers.NumberOption.TheVariants as numbers
use Rattle.mc_options.specs.declared.refusal.Refusal.TheVariants as refusals
use Rattle.mc_start.specs.{Start.{IsSchedule, schedule_text}, declared.schedule.ScheduleError.{ScheduleError}}
use Rattle.mc_campaign.specs.declared.campaign.CampaignError.{CampaignError}
use Rattle.mc_trace.specs.declared.cells.Words.{Words}
use Rattle.mc_trailer.specs.{Tables.{profile_text}, declared.tables.Profile.{Profile}}

-- Words are read one after another: what is read first is refused; or it is given, and what is read after it is refused.
abbrev pub InTurn : {A : Type 0} → (A → Type 0) → (Refusal → Type 0) → (A → Refusal → Type 0) → Refusal → Type 0
InTurn {A} Gives Lacks Then e = Lacks e ⊎ ((a : A) × Gives a × Then a e)

-- An option is left out that a command cannot do without.
abbrev pub LacksOption : Found → List ℕ → Refusal → Type 0
LacksOption found name e = (e ≡ refusals.Argument) × (first_value found name ≡ None)

-- The text of an option says no number that it takes; and the same of one that cannot be left out.
abbrev pub LacksNumber : Found → NumberOption → Refusal → Type 0
LacksNumber found option e = (e ≡ refusals.Number option) × GivesNoNumber found option

abbrev pub LacksRequired : Found → NumberOption → Refusal → Type 0
LacksRequired found option e = LacksNumber found option e ⊎ LacksOption found (option_name option) e

-- Of two options only one is given.
abbrev pub GivesOne : Found → List ℕ → List ℕ → Type 0
GivesOne found one other =
    ((first_value found one ≡ None) × (is_some (first_value found other) ≡ true))
    ⊎ ((is_some (first_value found one) ≡ true) × (first_value found other ≡ None))

-- An option has a text of which that holds.
abbrev pub HasText : Found → List ℕ → (List ℕ → Type 0) → Type 0
HasText found name Holds = (text : List ℕ) × (first_value found name ≡ Some text) × Holds text

abbrev pub NamesNoVersion : List ℕ → Type 0
NamesNoVersion text = (v : Version) → Names text v → ⊥

abbrev pub IsNoSchedule : List ℕ → Type 0
IsNoSchedule text = (l : List ℕ) → IsSchedule l → text ≡ schedule_text l → ⊥

abbrev pub IsNoCampaign : List ℕ → Type 0
IsNoCampaign text = (c : List (ℕ × ℕ)) → IsCampaign c → text ≡ campaign_text c → ⊥

-- What `create` is to make.
abbrev pub LacksVersion : Found → Refusal → Type 0
LacksVersion found e = ((error : VersionError) × (e ≡ refusals.Version error)) × HasText found (codes "version") NamesNoVersion

abbrev pub LacksUnit : Found → Refusal → Type 0
LacksUnit found e = LacksRequired found numbers.Align e ⊎ ((e ≡ refusals.Number numbers.Align) × (n : ℕ) × GivesNumber found numbers.Align n × (IsUnit n → ⊥))

abbrev pub LacksCreate : Found → Refusal → Type 0
LacksCreate found e =
    (LacksVersion found e ⊎ LacksOption found (codes "version") e)
    ⊎ ((LacksRequired found numbers.HeaderSize e ⊎ LacksNumber found numbers.SlotSize e)
    ⊎ (LacksUnit found e ⊎ (LacksRequired found numbers.SlotSectors e ⊎ LacksNumber found numbers.SecurityCounter e)))

-- Six numbers of a layout: one is none, or they fail a check, the first of them.
pub record FailsLayout (found : Found) (e : Refusal) : Type 0 where
  pub numbers : Geometry
  pub given : GivesLayout found numbers
  pub error : LayoutError
  pub first : refusal_of numbers ≡ Some error
  pub error_is : e ≡ refusals.Layout error

abbrev pub LacksLayout : Found → Refusal → Type 0
LacksLayout found e =
    ((LacksRequired found numbers.Sector e ⊎ LacksRequired found numbers.Unit e) ⊎ (LacksRequired found numbers.MaxSectors e ⊎ LacksRequired found numbers.Chunk e))
    ⊎ ((LacksRequired found numbers.Primary e ⊎ LacksRequired found numbers.Secondary e) ⊎ FailsLayout found e)

-- How long a flash takes: both numbers go together.
abbrev pub LacksTimes : Found → Refusal → Type 0
LacksTimes found e =
    (LacksNumber found numbers.EraseUs e ⊎ LacksNumber found numbers.WriteUs e)
    ⊎ ((e ≡ refusals.Argument) × GivesOne found (codes "erase-us") (codes "write-us"))

-- A grain or a profile that is none.
abbrev pub LacksRules : Found → Refusal → Type 0
LacksRules found e =
    (e ≡ refusals.Argument)
    × (((grain : Grain) → unwrap_or (first_value found (codes "grain")) (codes "call") ≡ grain_text grain → ⊥)
    ⊎ ((profile : Profile) → unwrap_or (first_value found (codes "profile")) (codes "1") ≡ profile_text profile → ⊥))

abbrev pub LacksFlash : Found → Refusal → Type 0
LacksFlash found e = RefusesSource found e ⊎ (LacksLayout found e ⊎ LacksRules found e)

-- An image is to confirm itself after the only round.
abbrev pub ConfirmsAlone : Found → Refusal → Type 0
ConfirmsAlone found e =
    (e ≡ refusals.Argument) × IsFlag found (codes "confirm") true × (first_value found (codes "rounds") ≡ Some (codes "2") → ⊥)

-- From where to where operations are shown, and which words a picture has.
abbrev pub LacksSpan : Found → Refusal → Type 0
LacksSpan found e = LacksNumber found numbers.From e ⊎ LacksNumber found numbers.To e

abbrev pub LacksView : Found → Refusal → Type 0
LacksView found e =
    (e ≡ refusals.Argument) × ((words : Words) → unwrap_or (first_value found (codes "words")) (codes "plain") ≡ words_text words → ⊥)

-- How far an exploration goes.
abbrev pub LacksExtent : Found → Refusal → Type 0
LacksExtent found e = LacksRequired found numbers.Cuts e ⊎ LacksRequired found numbers.Limit e

-- The text of a schedule, a campaign or a cursor is refused.
abbrev pub IsSyntax : Refusal → Type 0
IsSyntax (refusals.Schedule _) = Unit {0}
IsSyntax (refusals.Campaign _) = Unit {0}
IsSyntax (refusals.Cursor _) = Unit {0}
IsSyntax _ = ⊥

-- Where an exploration begins is said twice; or a text is none of a cursor or a key.
abbrev pub LacksRange : (List ℕ → Type 0) → (List ℕ → Type 0) → Found → Refusal → Type 0
LacksRange IsNoCursor IsNoKey found e =
    ((e ≡ refusals.CursorOptions) × (gives_two found ≡ true))
    ⊎ (IsSyntax e × ((HasText found (codes "cursor") IsNoCursor ⊎ HasText found (codes "after") IsNoKey)
    ⊎ (HasText found (codes "from") IsNoKey ⊎ HasText found (codes "until") IsNoKey)))

-- The text of a schedule, or of a campaign, is that of none.
abbrev pub FailsSchedule : List ℕ → Refusal → Type 0
FailsSchedule text e = ((error : ScheduleError) × (e ≡ refusals.Schedule error)) × IsNoSchedule text

abbrev pub FailsCampaign : List ℕ → Refusal → Type 0
FailsCampaign text e = ((error : CampaignError) × (e ≡ refusals.Campaign error)) × IsNoCampaign text

-- A file that would be written is one that is read.
abbrev pub IsLost : Found → Refusal → Type 0
IsLost found e = (e ≡ refusals.SameFile) × ((is_some (first_value found (codes "out")) || is_some (first_value found (codes "at-cut"))) ≡ true)
