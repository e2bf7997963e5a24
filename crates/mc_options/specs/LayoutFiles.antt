-- The numbers of a layout from a file: what a line of it gives, and the words of a command line in which the options of its files stand
-- (docs/FORMAT.md, "The program").
use Rattle.std.specs.Prelude.{List, [], codes, ℕ, ◌++◌, ◌==◌, ◌∷◌, ◌≡◌, ◌≢◌, ◌⊎◌}
use Rattle.std.specs.{List.{Contains, before_first}, Str.{IsUtf8, Iter.{HasSubslice}, Lines.{lines}, trim, trim_start}}
use Rattle.mc_cli.specs.Files.{Holds}
use Rattle.mc_options.specs.{Numbers.{option_name}, Sources.{Reads, RefusesFile}, declared.layout_file.TheConstants.{OPTIONS}}
use Rattle.mc_options.specs.{declared.numbers.NumberOption.{NumberOption}, declared.refusal.Refusal.{Refusal}}
use Rattle.mc_options.specs.declared.refusal.Refusal.TheVariants as refusals

-- What a line says: what stands before a comment, without the white space around it.
abbrev pub said_in : List ℕ → List ℕ
said_in line = trim (before_first (λ b. b == 35) line)

-- What follows the name of an option is `=` or white space, and a value with white space around it.
abbrev pub HasValue : List ℕ → List ℕ → Type 0
HasValue rest value =
    ((after : List ℕ) × (rest ≡ 61 ∷ after) × (value ≡ trim after))
    ⊎ ((HasSubslice rest (codes "=") → ⊥) × (trim_start rest ≢ rest) × (value ≡ trim rest))

-- An option as a word of a command line begins.
abbrev pub option_word : NumberOption → List ℕ
option_word option = codes "--" ++ option_name option

-- A text is that option with that value.
abbrev pub SaysOption : List ℕ → NumberOption → List ℕ → Type 0
SaysOption said option value = (rest : List ℕ) × (said ≡ option_word option ++ rest) × HasValue rest value

-- A line gives an option of a layout, with a value; or it gives none.
abbrev pub GivesOption : List ℕ → NumberOption → List ℕ → Type 0
GivesOption line option value = Contains OPTIONS option × SaysOption (said_in line) option value

abbrev pub GivesNone : List ℕ → Type 0
GivesNone line = (option : NumberOption) (value : List ℕ) → GivesOption line option value → ⊥

-- The word of a command line for what a line gives.
pub record GivesWord (line word : List ℕ) : Type 0 where
  pub option : NumberOption
  pub value : List ℕ
  pub gives : GivesOption line option value
  pub word_is : word ≡ option_word option ++ 61 ∷ value

-- The words for the lines of a text, in their order; a line that says nothing has none.
abbrev pub AreWords : List (List ℕ) → List (List ℕ) → Type 0
AreWords [] words = words ≡ []
AreWords (line ∷ lines) words =
    ((said_in line ≡ []) × AreWords lines words)
    ⊎ ((word : List ℕ) × (later : List (List ℕ)) × GivesWord line word × AreWords lines later × (words ≡ word ∷ later))

-- A line of a text says something, and gives no option of a layout.
abbrev pub LacksOption : List ℕ → Type 0
LacksOption line = (said_in line ≢ []) × GivesNone line

-- The word for what a line gives is added, or none.
abbrev pub AddsWord : List ℕ → List (List ℕ) → List (List ℕ) → Type 0
AddsWord line old new =
    ((said_in line ≡ []) × (new ≡ old)) ⊎ ((word : List ℕ) × GivesWord line word × (new ≡ old ++ word ∷ []))

abbrev pub AddsWords : List (List ℕ) → List (List ℕ) → List (List ℕ) → Type 0
AddsWords lines old new = (words : List (List ℕ)) × AreWords lines words × (new ≡ old ++ words)

-- What the file of a path gives: the words for its lines, and then the one that names it.
pub record FileGives (holds : Holds) (path : List ℕ) (words : List (List ℕ)) : Type 0 where
  pub bytes : List ℕ
  pub read : Reads (holds path) 65536 bytes
  pub text : IsUtf8 bytes
  pub settings : List (List ℕ)
  pub are : AreWords (lines bytes) settings
  pub words_are : words ≡ settings ++ (codes "--layout=" ++ path) ∷ []

-- Why it gives none: it is not read; or it is no text, or a line says something else; or an allocation failed.
pub record LacksSettings (holds : Holds) (path : List ℕ) : Type 0 where
  pub bytes : List ℕ
  pub read : Reads (holds path) 65536 bytes
  pub none : (words : List (List ℕ)) → IsUtf8 bytes → AreWords (lines bytes) words → ⊥

abbrev pub RefusesSettings : Holds → List ℕ → Refusal → Type 0
RefusesSettings holds path e =
    RefusesFile (holds path) 65536 e ⊎ (((e ≡ refusals.LayoutFile) × LacksSettings holds path) ⊎ (e ≡ refusals.Memory))

-- The first words name a file of a layout: its path, and the words that follow.
abbrev pub NamesFile : List (List ℕ) → List ℕ → List (List ℕ) → Type 0
NamesFile words path after =
    (words ≡ (codes "--layout=" ++ path) ∷ after) ⊎ (words ≡ codes "--layout" ∷ (path ∷ after))

-- The words of a line with what its files give before the word that names each. What follows `--` stays, and so does each other word.
pub data StandsFor (holds : Holds) : List (List ℕ) → List (List ℕ) → Type 0 where
  none : StandsFor holds [] []
  over : (words : List (List ℕ)) → StandsFor holds (codes "--" ∷ words) (codes "--" ∷ words)
  word : (word : List ℕ) (words whole : List (List ℕ)) → ((path : List ℕ) (after : List (List ℕ)) → NamesFile (word ∷ words) path after → ⊥) → word ≢ codes "--"
      → StandsFor holds words whole → StandsFor holds (word ∷ words) (word ∷ whole)
  file : (words : List (List ℕ)) (path : List ℕ) (after given whole : List (List ℕ)) → NamesFile words path after → FileGives holds path given
      → StandsFor holds after whole → StandsFor holds words (given ++ whole)

-- The words that follow some of the first ones, none of which is `--`.
pub data Follow (words : List (List ℕ)) : List (List ℕ) → Type 0 where
  all : Follow words words
  word : (word : List ℕ) (rest : List (List ℕ)) → word ≢ codes "--" → Follow words (word ∷ rest) → Follow words rest
  file : (rest : List (List ℕ)) (path : List ℕ) (after : List (List ℕ)) → NamesFile rest path after → Follow words rest → Follow words after

-- Some of the words name a file that is refused so; or an allocation failed.
pub record NamesRefused (holds : Holds) (words : List (List ℕ)) (e : Refusal) : Type 0 where
  pub rest : List (List ℕ)
  pub follow : Follow words rest
  pub path : List ℕ
  pub after : List (List ℕ)
  pub names : NamesFile rest path after
  pub refuses : RefusesSettings holds path e

abbrev pub RefusesFiles : Holds → List (List ℕ) → Refusal → Type 0
RefusesFiles holds words e = NamesRefused holds words e ⊎ (e ≡ refusals.Memory)
