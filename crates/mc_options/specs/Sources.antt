-- What files give, and the start that the bytes of a source's files make.
use Rattle.std.specs.Prelude.{Err, IfSome, List, None, Ok, Option, length, ◌^◌, ◌≡◌, ◌≤◌, ◌⊎◌, ℕ}
use Rattle.clap.specs.declared.parser.matches.Found.{Found}
use Rattle.mc_cli.specs.Files.{Holds}
use Rattle.mc_flash.specs.{Flash.{Content}, Geometry.{Geometry}}
use Rattle.mc_imgtool.specs.Engines.{RefusesReading}
use Rattle.mc_options.specs.{Arguments.{GivesFlash}, Refusals.{LacksFlash}}
use Rattle.mc_options.specs.{declared.options.FlashOptions.{FlashOptions}, declared.options.Source.{Source}, declared.refusal.Refusal.{Refusal}}
use Rattle.mc_options.specs.declared.options.Source.TheVariants as sources
use Rattle.mc_options.specs.declared.refusal.Refusal.TheVariants as refusals
use Rattle.mc_start.specs.{Start.{Gives, Started, Starts, of_flash}, declared.start.StartError.{StartError}}

-- The bytes that are read of a file: at most so many, and those that it holds, where that is known.
abbrev pub Reads : Option (List ℕ) → ℕ → List ℕ → Type 0
Reads held limit bytes = (length bytes ≤ limit) × IfSome held (λ xs. bytes ≡ xs)

-- Why none are: it cannot be opened, of which it is not known what it holds; it is longer than the limit; or a read fails, or an allocation.
abbrev pub RefusesFile : Option (List ℕ) → ℕ → Refusal → Type 0
RefusesFile held limit refusals.Open = held ≡ None
RefusesFile held limit (refusals.Tool error) = RefusesReading held limit error
RefusesFile held limit _ = ⊥

-- The start of a flash's bytes, or of the first image's and the second's, in this order.
abbrev pub OfSource : Holds → Geometry → Source → Started → Type 0
OfSource holds g (sources.Flash path) s =
    (bytes : List ℕ) × Reads (holds path.now) (2 ^ 25) bytes × Gives g (Ok s) (of_flash g bytes)
OfSource holds g (sources.Images kind a b) s =
    (first : List ℕ) × (second : List ℕ) × Reads (holds a.now) (2 ^ 24) first × Reads (holds b.now) (2 ^ 24) second
    × Starts g kind first second (Ok s)

-- Why there is none: a file is not read, or the bytes that are read make no start.
abbrev pub FailsFlash : Holds → Geometry → List ℕ → Refusal → Type 0
FailsFlash holds g path e =
    RefusesFile (holds path) (2 ^ 25) e
    ⊎ ((bytes : List ℕ) × (error : StartError) × (e ≡ refusals.Start error) × Reads (holds path) (2 ^ 25) bytes
    × Gives g (Err error) (of_flash g bytes))

abbrev pub FailsSource : Holds → Geometry → Source → Refusal → Type 0
FailsSource holds g (sources.Flash path) e = FailsFlash holds g path.now e
FailsSource holds g (sources.Images kind a b) e =
    (RefusesFile (holds a.now) (2 ^ 24) e ⊎ RefusesFile (holds b.now) (2 ^ 24) e)
    ⊎ ((first : List ℕ) × (second : List ℕ) × (error : StartError) × (e ≡ refusals.Start error)
    × Reads (holds a.now) (2 ^ 24) first × Reads (holds b.now) (2 ^ 24) second × Starts g kind first second (Err error))

-- A content is that of the bytes that are read of a flash's file.
abbrev pub IsFlashed : Holds → Geometry → List ℕ → Content → Type 0
IsFlashed holds g path content = (bytes : List ℕ) × Reads (holds path) (2 ^ 25) bytes × (of_flash g bytes ≡ Ok content)

-- Such a start under the rules that are given.
abbrev pub IsStartOf : Holds → FlashOptions → Started → Type 0
IsStartOf holds o s =
    (plain : Started) × OfSource holds o.layout o.source plain
    × (s ≡ record { geometry = plain.geometry; rules = o.rules; content = plain.content; named = plain.named })

-- The arguments give a source, and the start is of its files; or there is none of these.
pub record GivesStart (holds : Holds) (found : Found) (s : Started) : Type 0 where
  pub options : FlashOptions
  pub given : GivesFlash found options
  pub made : IsStartOf holds options s

pub record FailsStart (holds : Holds) (found : Found) (e : Refusal) : Type 0 where
  pub options : FlashOptions
  pub given : GivesFlash found options
  pub fails : FailsSource holds options.layout options.source e

-- The arguments give no source, or it has no start.
abbrev pub LacksStart : Holds → Found → Refusal → Type 0
LacksStart holds found e = LacksFlash found e ⊎ FailsStart holds found e
