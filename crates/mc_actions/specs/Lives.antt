-- What is asked of a device's life, and what answers it.
use Rattle.std.specs.{Prelude.{All, Bool, Contains, Err, IsSomeAnd, List, None, Ok, Option, Result, Some, codes, false, is_some, option_map, replicate, true, ℕ, ◌++◌, ◌^◌, ◌≡◌, ◌≢◌, ◌⊎◌}, Io.KnownBytes.{Appends, Keeps}}
use Rattle.clap.specs.{Words.{first_value}, declared.parser.matches.Found.{Found}}
use Rattle.mc_actions.specs.{Schedules.{IsFlashUnwritten}, declared.life.Life.{Life}}
use Rattle.mc_boot.specs.declared.kind.Kind.TheVariants as starts
use Rattle.mc_cli.specs.Files.{Holds, MayBeOne}
use Rattle.mc_flash.specs.{Flash.{Content, size_of}, Geometry.{Geometry}, declared.op.Slot.TheVariants.{Secondary}}
use Rattle.mc_life.specs.{Device.{Counts, OfWear, Standing}, Replay.{FailsLife, IsReplayed}, Script.{Named, Names, Reads as ReadsScript, file_of, sayings}, declared.life.LifeError.{LifeError}, declared.error.ScriptError.{ScriptError}}
use Rattle.mc_options.specs.{Arguments.{GivesLayout, GivesRules, IsFlag, KeepsFiles}, Refusals.{HasText, InTurn, IsLost, LacksLayout, LacksRules}, Requests.{End}, Sources.{FailsFlash, IsFlashed, Reads, RefusesFile}, declared.refusal.Refusal.{Refusal}}
use Rattle.mc_options.specs.declared.refusal.Refusal.TheVariants as refusals
use Rattle.mc_output.specs.Text.{AppendsPrefix}
use Rattle.mc_start.specs.{Start.{Gives, Started, Starts, of_flash}, declared.start.StartError.{StartError}}

-- A device is delivered with a flash, or with an image in the primary, all else blank.
abbrev pub with_blank : Geometry → Started → List ℕ
with_blank g images = images.content.primary ++ replicate (size_of g Secondary) 255

abbrev pub HoldsAlone : Geometry → List ℕ → Content → Type 0
HoldsAlone g image content = (images : Started) × Starts g starts.None image image (Ok images) × (of_flash g (with_blank g images) ≡ Ok content)

abbrev pub IsDelivered : Holds → Geometry → List ℕ → Content → Type 0
IsDelivered holds g path content = (image : List ℕ) × Reads (holds path) (2 ^ 24) image × HoldsAlone g image content

abbrev pub GivesDevice : Holds → Found → Geometry → Content → Type 0
GivesDevice holds found g content =
    HasText found (codes "flash") (λ path. IsFlashed holds g path content) ⊎ HasText found (codes "image") (λ path. IsDelivered holds g path content)

-- What is read of the script: of its file, or of standard input.
abbrev pub IsPiped : Found → Type 0
IsPiped found = (first_value found (codes "SCRIPT") ≡ None) ⊎ (first_value found (codes "SCRIPT") ≡ Some (codes "-"))

abbrev pub GivesScript : Holds → Option (List ℕ) → Found → Result (List ℕ) ScriptError → Type 0
GivesScript holds input found read =
    (IsPiped found × ReadsScript input read)
    ⊎ HasText found (codes "SCRIPT") (λ path. (known : Option (List ℕ)) × Keeps (holds path) known × ReadsScript known read)

-- The files that a script names: of each there is what is read of it, and none is left out of which it is known what it holds.
abbrev pub AreRead : Holds → List Named → Type 0
AreRead holds shelf = All (λ (f : Named). Reads (holds f.name) (2 ^ 24) f.bytes) shelf

abbrev pub IsShelved : Holds → List Named → List ℕ → Type 0
IsShelved holds shelf name = file_of shelf name ≡ None → holds name ≡ None

abbrev pub IsShelfOf : Holds → List ℕ → List Named → Type 0
IsShelfOf holds script shelf =
    AreRead holds shelf × (names : List (List ℕ)) × Names (sayings script) names × All (IsShelved holds shelf) names

-- A file of a name is added, if it is not there yet, and can be opened.
pub record AddsFile (holds : Holds) (name : List ℕ) (old new : List Named) : Type 0 where
  pub read : AreRead holds old → AreRead holds new
  pub kept : (other : List ℕ) → IsShelved holds old other → IsShelved holds new other
  pub shelved : IsShelved holds new name

-- The words give the layout and the rules of a device, what it is delivered with, its script, and what follows its life; and no image and no script
-- is to be written over.
pub record GivesLife (holds : Holds) (input : Option (List ℕ)) (found : Found) (l : Life) : Type 0 where
  pub layout : GivesLayout found l.start.geometry
  pub rules : GivesRules found l.start.rules
  pub device : GivesDevice holds found l.start.geometry l.start.content
  pub script : GivesScript holds input found (Ok l.script)
  pub shelf : IsShelfOf holds l.script l.shelf.items
  pub wear : IsFlag found (codes "wear") l.wear
  pub out : option_map (λ path. path.now) l.out ≡ first_value found (codes "out")
  pub kept : KeepsFiles found

-- What a device is delivered with is given twice, or not at all.
abbrev pub LacksDevice : Found → Refusal → Type 0
LacksDevice found e = (e ≡ refusals.Device) × (is_some (first_value found (codes "flash")) ≡ is_some (first_value found (codes "image")))

-- An image alone makes no device: it is refused, or the flash with it is; or an allocation failed.
abbrev pub RefusesAlone : Geometry → List ℕ → StartError → Type 0
RefusesAlone g image error =
    Starts g starts.None image image (Err error)
    ⊎ ((images : Started) × Starts g starts.None image image (Ok images) × Gives g (Err error) (of_flash g (with_blank g images)))

abbrev pub FailsAlone : Geometry → List ℕ → Refusal → Type 0
FailsAlone g image e = (e ≡ refusals.Memory) ⊎ ((error : StartError) × (e ≡ refusals.Start error) × RefusesAlone g image error)

-- Its file is not read, or its bytes make no device.
abbrev pub FailsImage : Holds → Geometry → List ℕ → Refusal → Type 0
FailsImage holds g path e =
    RefusesFile (holds path) (2 ^ 24) e ⊎ ((image : List ℕ) × Reads (holds path) (2 ^ 24) image × FailsAlone g image e)

abbrev pub FailsDevice : Holds → Found → Geometry → Refusal → Type 0
FailsDevice holds found g e = HasText found (codes "flash") (λ path. FailsFlash holds g path e) ⊎ HasText found (codes "image") (λ path. FailsImage holds g path e)

-- A script is not read.
abbrev pub FailsScript : Holds → Option (List ℕ) → Found → Refusal → Type 0
FailsScript holds input found e =
    ((e ≡ refusals.Open) × HasText found (codes "SCRIPT") (λ path. holds path ≡ None))
    ⊎ ((error : ScriptError) × (e ≡ refusals.Script error) × GivesScript holds input found (Err error))

-- What is read of a file that can be opened is refused; or an allocation failed.
abbrev pub FailsFile : Holds → List ℕ → Refusal → Type 0
FailsFile holds name e = (RefusesFile (holds name) (2 ^ 24) e × (e ≢ refusals.Open)) ⊎ (e ≡ refusals.Memory)

-- Or it is the file that is to be written.
abbrev pub IsOutfile : Holds → List ℕ → Option (List ℕ) → Refusal → Type 0
IsOutfile holds name out e = (e ≡ refusals.SameFile) × IsSomeAnd out (MayBeOne holds name)

-- One of the files that a script names is refused; or an allocation failed.
pub record RefusesScriptFile (holds : Holds) (script : List ℕ) (out : Option (List ℕ)) (e : Refusal) : Type 0 where
  pub names : List (List ℕ)
  pub named : Names (sayings script) names
  pub name : List ℕ
  pub among : Contains names name
  pub refused : FailsFile holds name e ⊎ IsOutfile holds name out e

abbrev pub FailsShelf : Holds → List ℕ → Option (List ℕ) → Refusal → Type 0
FailsShelf holds script out e = RefusesScriptFile holds script out e ⊎ (e ≡ refusals.Memory)

-- Why the words of `life` and its files give no device; and why these, or its script, ask for nothing.
abbrev pub LacksDelivered : Holds → Found → Geometry → Refusal → Type 0
LacksDelivered holds found g e = IsLost found e ⊎ (KeepsFiles found × (LacksDevice found e ⊎ FailsDevice holds found g e))

abbrev pub LacksDelivery : Holds → Found → Refusal → Type 0
LacksDelivery holds found =
    InTurn (GivesLayout found) (LacksLayout found) (λ layout. InTurn (GivesRules found) (LacksRules found) (λ rules. LacksDelivered holds found layout))

abbrev pub GivesDelivery : Holds → Found → Started → Type 0
GivesDelivery holds found s = GivesLayout found s.geometry × GivesRules found s.rules × GivesDevice holds found s.geometry s.content × KeepsFiles found

abbrev pub LacksLife : Holds → Option (List ℕ) → Found → Refusal → Type 0
LacksLife holds input found =
    InTurn (GivesDelivery holds found) (LacksDelivery holds found) (λ start.
    InTurn (λ script. GivesScript holds input found (Ok script)) (FailsScript holds input found) (λ script. FailsShelf holds script (first_value found (codes "out"))))

-- What was erased is out, where that is asked for.
abbrev pub IsWearOut : Bool → Counts → Option (List ℕ) → Option (List ℕ) → Type 0
IsWearOut true w before after = OfWear w (Appends before after)
IsWearOut false w before after = after ≡ before

-- The life is not replayed to its end.
abbrev pub StopsLife : Life → Option (List ℕ) → Option (List ℕ) → Refusal → Type 0
StopsLife l before after e = (error : LifeError) × (e ≡ refusals.Life error) × FailsLife l.shelf.items l.start l.script before after error

-- Its flash is written where a file is named for it; or that fails.
abbrev pub IsLifeWritten : Life → End → Type 0
IsLifeWritten l end = (end ≡ Ok tt) ⊎ ((e : Refusal) × (end ≡ Err e) × (is_some l.out ≡ true) × IsFlashUnwritten e)

-- It is, and the device stands there at its end: all is out, and a file is written where one is named; or a write fails at what was erased.
pub record EndsLife (l : Life) (before after : Option (List ℕ)) (end : End) : Type 0 where
  pub device : Standing
  pub mid : Option (List ℕ)
  pub replayed : IsReplayed l.shelf.items l.start l.script before mid device
  pub rest : (IsWearOut l.wear device.wear mid after × IsLifeWritten l end) ⊎ ((end ≡ Err refusals.Write) × OfWear device.wear (AppendsPrefix mid after))

abbrev pub AnswersLife : Life → Option (List ℕ) → Option (List ℕ) → End → Type 0
AnswersLife l before after end = EndsLife l before after end ⊎ ((e : Refusal) × (end ≡ Err e) × StopsLife l before after e)
