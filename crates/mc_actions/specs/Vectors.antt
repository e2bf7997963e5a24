-- What `vectors` is asked for.
use Rattle.std.specs.Prelude.{Bool, List, None, Option, Some, codes, decimal, false, is_some, length, true, ℕ, ⊤, ◌++◌, ◌≡◌, ◌≤◌, ◌⊎◌}
use Rattle.clap.specs.{Words.{first_value}, declared.parser.matches.Found.{Found}}
use Rattle.mc_actions.specs.{Layouts.{yes_or_no}, declared.vectors.Cuts.{Cuts}, declared.vectors.NewFolder.{NewFolder}, declared.vectors.Table.{Table}, declared.vectors.VectorsAsked.{VectorsAsked}}
use Rattle.mc_actions.specs.declared.vectors.Table.TheVariants as tables
use Rattle.mc_cli.specs.Files.{Holds}
use Rattle.mc_explore.specs.declared.error.ExploreError.TheVariants as errors
use Rattle.mc_options.specs.{Arguments.{GivesFlash, IsFlag}, Numbers.{GivesNumber}, Refusals.{HasText, InTurn, LacksFlash, LacksRequired}, Requests.{End, IsAnswered, IsDone, IsUnwritten}, Sources.{FailsSource, GivesStart}}
use Rattle.mc_options.specs.declared.refusal.Refusal.{Refusal}
use Rattle.mc_options.specs.declared.refusal.Refusal.TheVariants as refusals
use Rattle.mc_start.specs.Start.{begun}
use Rattle.mc_tear.specs.declared.torn.Erasing.{Erasing}
use Rattle.mc_tear.specs.declared.torn.Erasing.TheVariants as erasings
use Rattle.mc_actions.specs.declared.vectors.Cuts.TheVariants as cuts
use Rattle.mc_options.specs.declared.numbers.NumberOption.TheVariants as numbers
use Rattle.mc_tears.specs.Losses.{AnyLosses, AreLostCases}
use Rattle.mc_tears.specs.Losses as losses
use Rattle.mc_vectors.specs.{Cases.{AnyCuts, AreCases, AtMost}, Table.{cases_text}}

-- At most 16 cuts, or any number, for which 16 are looked through.
abbrev pub IsFew : Cuts → Type 0
IsFew (cuts.AtMost n) = n ≤ 16
IsFew cuts.Any = ⊤

abbrev pub bound_of : Cuts → ℕ
bound_of (cuts.AtMost n) = n
bound_of cuts.Any = 16

-- The arguments ask for that: by a number, or by the word `all`.
abbrev pub GivesCuts : Found → Cuts → Type 0
GivesCuts found (cuts.AtMost n) = GivesNumber found numbers.Cuts n
GivesCuts found cuts.Any = first_value found (codes "cuts") ≡ Some (codes "all")

abbrev pub LacksCuts : Found → Refusal → Type 0
LacksCuts found e = LacksRequired found numbers.Cuts e

-- They ask for losses within operations, where an erase fails so; or for cuts alone.
abbrev pub GivesTorn : Found → Option Erasing → Type 0
GivesTorn found None = IsFlag found (codes "torn") false × (first_value found (codes "erase") ≡ None)
GivesTorn found (Some erasings.Gentle) = IsFlag found (codes "torn") true × ((first_value found (codes "erase") ≡ None) ⊎ (first_value found (codes "erase") ≡ Some (codes "gentle")))
GivesTorn found (Some erasings.Rough) = IsFlag found (codes "torn") true × (first_value found (codes "erase") ≡ Some (codes "rough"))

-- They name a folder, and whether flashes are written there as patches.
abbrev pub GivesFolder : Found → Option NewFolder → Type 0
GivesFolder found None = first_value found (codes "dir") ≡ None
GivesFolder found (Some folder) = (first_value found (codes "dir") ≡ Some folder.path.now) × IsFlag found (codes "patches") folder.patches

-- A text names no way in which an erase fails; or ways are named, but no losses within operations asked for; or patches, but no folder.
abbrev pub IsNoErasing : List ℕ → Type 0
IsNoErasing text = (text ≡ codes "gentle" → ⊥) × (text ≡ codes "rough" → ⊥)

abbrev pub LacksTorn : Found → Refusal → Type 0
LacksTorn found e =
    (e ≡ refusals.Argument)
    × ((IsFlag found (codes "torn") false × (is_some (first_value found (codes "erase")) ≡ true)) ⊎ HasText found (codes "erase") IsNoErasing)

abbrev pub LacksFolder : Found → Refusal → Type 0
LacksFolder found e = (e ≡ refusals.Argument) × IsFlag found (codes "patches") true × (first_value found (codes "dir") ≡ None)

abbrev pub LacksVectors : Holds → Found → Refusal → Type 0
LacksVectors holds found =
    InTurn (GivesFlash found) (LacksFlash found) (λ options.
    InTurn (GivesCuts found) (LacksCuts found) (λ cuts.
    InTurn (GivesTorn found) (LacksTorn found) (λ torn.
    InTurn (GivesFolder found) (LacksFolder found) (λ folder. FailsSource holds options.layout options.source))))

pub record GivesVectors (holds : Holds) (found : Found) (a : VectorsAsked) : Type 0 where
  pub start : GivesStart holds found a.start
  pub cuts : GivesCuts found a.cuts
  pub torn : GivesTorn found a.torn
  pub folder : GivesFolder found a.folder

-- The flashes that at most n cuts leave, or losses; where they are whole, no number of these leaves another.
abbrev pub AreFound : VectorsAsked → ℕ → Table → Type 0
AreFound a n (tables.OfCuts found) =
    (a.torn ≡ None) × AreCases (begun a.start) (AtMost n) found.cases.items × (found.whole ≡ true → AreCases (begun a.start) AnyCuts found.cases.items)
AreFound a n (tables.OfLosses found e) =
    (a.torn ≡ Some e) × AreLostCases e (begun a.start) (losses.AtMost n) found.cases.items
    × (found.whole ≡ true → AreLostCases e (begun a.start) AnyLosses found.cases.items)

abbrev pub count_of : Table → ℕ
count_of (tables.OfCuts found) = length found.cases.items
count_of (tables.OfLosses found e) = length found.cases.items

abbrev pub is_whole : Table → Bool
is_whole (tables.OfCuts found) = found.whole
is_whole (tables.OfLosses found e) = found.whole

abbrev pub table_of : Table → List ℕ
table_of (tables.OfCuts found) = cases_text found.cases.items
table_of (tables.OfLosses found e) = losses.table_text found.cases.items

-- Those that are asked for. Where any number of cuts is, they are whole.
pub record AreFlashes (a : VectorsAsked) (t : Table) : Type 0 where
  pub found : AreFound a (bound_of a.cuts) t
  pub whole : a.cuts ≡ cuts.Any → is_whole t ≡ true

-- When there are none: any number of cuts is asked for, and those that are found of 16 may lead to more; or an allocation failed.
abbrev pub LeadsOn : VectorsAsked → Type 0
LeadsOn a = (a.cuts ≡ cuts.Any) × (t : Table) × AreFound a 16 t × (is_whole t ≡ false)

abbrev pub RefusesSearch : VectorsAsked → Refusal → Type 0
RefusesSearch a e = ((e ≡ refusals.MoreCuts) × LeadsOn a) ⊎ (e ≡ refusals.Explore errors.Memory)

-- The table; or, where it goes into a folder, how many flashes it has, and whether it is whole.
pub record FlashesFound (a : VectorsAsked) : Type 0 where
  pub table : Table
  pub are : AreFlashes a table

abbrev pub found_text : Option NewFolder → Table → List ℕ
found_text None t = table_of t
found_text (Some folder) t = codes "flashes " ++ (decimal (count_of t) ++ (codes "\nall " ++ (yes_or_no (is_whole t) ++ codes "\n")))

-- A folder is to be made, and cannot be, or none of its files.
abbrev pub HasFolder : VectorsAsked → Type 0
HasFolder a = is_some a.folder ≡ true

abbrev pub AnswersVectors : VectorsAsked → Option (List ℕ) → Option (List ℕ) → End → Type 0
AnswersVectors a = IsAnswered (λ (f : FlashesFound a). found_text a.folder f.table) IsDone (λ e. RefusesSearch a e ⊎ HasFolder a) IsUnwritten
