-- What the words of an argument say.
use Rattle.std.specs.Prelude.{◌≡◌, ◌≤◌, ℕ, Bool, true, false, List, Option, Some, None, unwrap_or, option_map, is_some, IfSome, if◌then◌else◌, ◌-◌, ◌^◌, ◌&&◌, ◌||◌, codes, Result, Err, IsOk}
use Rattle.clap.specs.{Words.{first_value, one_text}, declared.parser.matches.Found.{Found}}
use Rattle.mc_image.specs.VersionText.{Names}
use Rattle.mc_imgtool.specs.declared.creation.CreateOptions.{CreateOptions}
use Rattle.mc_options.specs.Numbers.{GivesNumber, MayGiveNumber, IsUnit}
use Rattle.mc_options.specs.declared.numbers.NumberOption.TheVariants as numbers
use Rattle.mc_flash.specs.{Geometry.{Geometry}, declared.layout.LayoutError.{LayoutError}}
use Rattle.mc_start.specs.Start.{schedule_text}
use Rattle.mc_boot.specs.declared.kind.Kind.{Kind}
use Rattle.mc_boot.specs.declared.kind.Kind.TheVariants as kinds
use Rattle.mc_flash.specs.Flash.{grain_text}
use Rattle.mc_trailer.specs.{declared.tables.Rules.{Rules}, Tables.{profile_text}}
use Rattle.mc_trace.specs.declared.sectors.Moment.TheVariants as moments
use Rattle.mc_trace.specs.{declared.sectors.View.{View}, declared.cells.Words.{Words}}
use Rattle.mc_trace.specs.declared.cells.Words.TheVariants as words
use Rattle.mc_trace.specs.{declared.trace.Span.{Span}, declared.wear.Times.{Times}}
use Rattle.mc_options.specs.{declared.options.ExploreOptions.{ExploreOptions}, declared.options.FlashOptions.{FlashOptions}}
use Rattle.mc_options.specs.{declared.options.RangeOptions.{RangeOptions}, declared.options.Source.{Source}}
use Rattle.mc_options.specs.declared.options.Source.TheVariants as sources
use Rattle.mc_options.specs.declared.refusal.Refusal.{Refusal}
use Rattle.mc_options.specs.declared.refusal.Refusal.TheVariants as refusals

-- the value of a flag: clap gives it the text `true` where it stands on the command line, and otherwise `false`
abbrev pub IsFlag : Found → List ℕ → Bool → Type 0
IsFlag found name value =
    (one_text found name ≡ Some (codes "true") → value ≡ true)
    × (one_text found name ≡ Some (codes "false") → value ≡ false)
    × (one_text found name ≡ None → value ≡ false)

-- the arguments say what `create` is to make, each number in its range
pub record GivesCreate (found : Found) (o : CreateOptions) : Type 0 where
  pub version_text : List ℕ
  pub version_given : first_value found (codes "version") ≡ Some version_text
  pub version : Names version_text o.version
  pub header_size : GivesNumber found numbers.HeaderSize o.header_size
  pub pad_header : IsFlag found (codes "pad-header") o.pad_header
  pub slot_size : MayGiveNumber found numbers.SlotSize o.slot_size
  pub align : GivesNumber found numbers.Align o.align
  pub unit : IsUnit o.align
  pub max_sectors : GivesNumber found numbers.SlotSectors o.max_sectors
  pub pad : IsFlag found (codes "pad") o.pad
  pub confirm : IsFlag found (codes "confirm") o.confirm
  pub security_counter : MayGiveNumber found numbers.SecurityCounter o.security_counter

-- what the image tool asks of options
abbrev pub IsReady : CreateOptions → Type 0
IsReady o = 32 ≤ o.header_size

-- the arguments give how long a flash takes to erase a sector and to write a unit, or neither
abbrev pub MayGiveTimes : Found → Option Times → Type 0
MayGiveTimes found (Some times) = GivesNumber found numbers.EraseUs times.erase_us × GivesNumber found numbers.WriteUs times.write_us
MayGiveTimes found None = MayGiveNumber found numbers.EraseUs None × MayGiveNumber found numbers.WriteUs None

-- the arguments give the six numbers of a layout
pub record GivesLayout (found : Found) (g : Geometry) : Type 0 where
  pub sector : GivesNumber found numbers.Sector g.sector
  pub unit : GivesNumber found numbers.Unit g.unit
  pub max_sectors : GivesNumber found numbers.MaxSectors g.max_sectors
  pub chunk : GivesNumber found numbers.Chunk g.chunk
  pub primary : GivesNumber found numbers.Primary g.primary
  pub secondary : GivesNumber found numbers.Secondary g.secondary

-- a layout is taken, or refused with the first judgement that its numbers fail
abbrev pub Judges : {A : Type 0} → Option LayoutError → Result A Refusal → Type 0
Judges None r = IsOk r
Judges (Some e) r = r ≡ Err (refusals.Layout e)

-- the text of a kind of start
abbrev pub kind_text : Kind → List ℕ
kind_text kinds.None = codes "none"
kind_text kinds.Test = codes "test"
kind_text kinds.Perm = codes "perm"
kind_text kinds.Revert = codes "revert"

-- the arguments give a flash alone, or two images and a kind
abbrev pub GivesSource : Found → Source → Type 0
GivesSource found (sources.Flash path) =
    (first_value found (codes "flash") ≡ Some path.now) × (first_value found (codes "kind") ≡ None)
    × (first_value found (codes "image-a") ≡ None) × (first_value found (codes "image-b") ≡ None)
GivesSource found (sources.Images kind a b) =
    (first_value found (codes "flash") ≡ None) × (first_value found (codes "kind") ≡ Some (kind_text kind))
    × (first_value found (codes "image-a") ≡ Some a.now) × (first_value found (codes "image-b") ≡ Some b.now)

-- four options that may be left out go together as a source
abbrev pub are_source : Option (List ℕ) → Option (List ℕ) → Option (List ℕ) → Option (List ℕ) → Bool
are_source (Some flash) None None None = true
are_source None (Some kind) (Some a) (Some b) = true
are_source _ _ _ _ = false

abbrev pub is_source : Found → Bool
is_source found =
    are_source (first_value found (codes "flash")) (first_value found (codes "kind"))
    (first_value found (codes "image-a")) (first_value found (codes "image-b"))

-- when a source is refused: the options do not go together, or images are given with a kind that is none
abbrev pub RefusesSource : Found → Refusal → Type 0
RefusesSource found refusals.Source = is_source found ≡ false
RefusesSource found refusals.Argument =
    (is_source found ≡ true) × (first_value found (codes "flash") ≡ None)
    × ((kind : Kind) → first_value found (codes "kind") ≡ Some (kind_text kind) → ⊥)
RefusesSource found _ = ⊥

-- the arguments give the rules of boots; where nothing is given, they are whole calls and the first profile
pub record GivesRules (found : Found) (rules : Rules) : Type 0 where
  pub grain : unwrap_or (first_value found (codes "grain")) (codes "call") ≡ grain_text rules.grain
  pub profile : unwrap_or (first_value found (codes "profile")) (codes "1") ≡ profile_text rules.profile

-- the arguments give a source, a layout and rules
pub record GivesFlash (found : Found) (o : FlashOptions) : Type 0 where
  pub source : GivesSource found o.source
  pub layout : GivesLayout found o.layout
  pub rules : GivesRules found o.rules

-- the arguments give the most cuts and the most rows, with `all` as many as a page can have
pub record GivesExtent (found : Found) (o : ExploreOptions) : Type 0 where
  pub cuts : GivesNumber found numbers.Cuts o.cuts
  pub number : ℕ
  pub number_given : GivesNumber found numbers.Limit number
  pub all : Bool
  pub all_given : IsFlag found (codes "all") all
  pub limit_is : o.limit ≡ (if all then 2 ^ 32 - 1 else number)

-- the arguments give from which number to which operations are shown; where nothing is given, all of them
pub record GivesSpan (found : Found) (s : Span) : Type 0 where
  pub from : Option ℕ
  pub from_given : MayGiveNumber found numbers.From from
  pub from_is : s.from ≡ unwrap_or from 0
  pub to : Option ℕ
  pub to_given : MayGiveNumber found numbers.To to
  pub to_is : s.to ≡ unwrap_or to (2 ^ 32 - 1)

-- the text of a choice of words
abbrev pub words_text : Words → List ℕ
words_text words.Plain = codes "plain"
words_text words.All = codes "all"

-- the arguments say of which flash a picture is, and which words it has; where nothing is given, the one at the last cut, in few words
pub record GivesView (found : Found) (v : View) : Type 0 where
  pub end : Bool
  pub end_given : IsFlag found (codes "end") end
  pub moment : v.moment ≡ (if end then moments.AtEnd else moments.AtCut)
  pub words : unwrap_or (first_value found (codes "words")) (codes "plain") ≡ words_text v.words

-- the text of an option is that of a schedule, or the option is left out
abbrev pub MayGiveSchedule : Found → List ℕ → Option (List ℕ) → Type 0
MayGiveSchedule found name schedule = first_value found name ≡ option_map schedule_text schedule

-- two options or more say where to begin
abbrev pub gives_two : Found → Bool
gives_two found =
    let cursor = is_some (first_value found (codes "cursor")) in
    let after = is_some (first_value found (codes "after")) in
    (cursor && after) || (is_some (first_value found (codes "from")) && (cursor || after))

-- the arguments say where an exploration begins, in one way or not at all, and where it stops, by the texts of cursors and keys
pub record GivesRange {U K : Type 0} (cursor_text : U → List ℕ) (key_text : K → List ℕ) (found : Found) (o : RangeOptions U K) : Type 0 where
  pub cursor : first_value found (codes "cursor") ≡ option_map cursor_text o.cursor
  pub after : first_value found (codes "after") ≡ option_map key_text o.after
  pub from : first_value found (codes "from") ≡ option_map key_text o.from
  pub until : first_value found (codes "until") ≡ option_map key_text o.until
  pub one : gives_two found ≡ false

-- the cursor and the keys, where there are some, are such that have texts of their own
pub record HasTexts {U K : Type 0} (IsCursor : U → Type 0) (IsKey : K → Type 0) (o : RangeOptions U K) : Type 0 where
  pub cursor : IfSome o.cursor IsCursor
  pub after : IfSome o.after IsKey
  pub from : IfSome o.from IsKey
  pub until : IfSome o.until IsKey

-- two options do not give one path
abbrev pub AreApart : Found → List ℕ → List ℕ → Type 0
AreApart found first second =
    (path : List ℕ) → first_value found first ≡ Some path → first_value found second ≡ Some path → ⊥

-- the path that an option gives is that of no image and no script that is read
pub record IsKept (found : Found) (option : List ℕ) : Type 0 where
  pub from_a : AreApart found option (codes "image-a")
  pub from_b : AreApart found option (codes "image-b")
  pub from_image : AreApart found option (codes "image")
  pub from_script : AreApart found option (codes "SCRIPT")

-- no path that is written is another that the options give, but the flash after the last boot may go where the flash is read
pub record KeepsFiles (found : Found) : Type 0 where
  pub out : IsKept found (codes "out")
  pub cut : IsKept found (codes "at-cut")
  pub cut_from_flash : AreApart found (codes "at-cut") (codes "flash")
  pub cut_from_out : AreApart found (codes "at-cut") (codes "out")
