-- What `explain` is asked for, and what explains it.
use Rattle.std.specs.Prelude.{Bool, List, None, Ok, Option, [], bytes_eq, codes, decimal, flat_map, if◌then◌else◌, map, true, ℕ, ◌++◌, ◌==◌, ◌∷◌, ◌≡◌, ◌≢◌, ◌⊎◌}
use Rattle.std.specs.{Char.{to_ascii_lowercase}, Str.Parse.{ParsesUnsigned}, declared.num.ParseIntError.{ParseIntError}}
use Rattle.clap.specs.{Words.{first_value}, declared.parser.matches.Found.{Found}}
use Rattle.mc_actions.specs.declared.explain.Explained.{Explained}
use Rattle.mc_actions.specs.declared.explain.Explained.TheVariants as asked
use Rattle.mc_cli.specs.{Explanations.{all_refusals, entry_of}, declared.explanations.Explanation.{Explanation}}
use Rattle.mc_options.specs.{Refusals.{HasText}, Requests.{End, IsAnswered, IsDone, IsUnwritten}, declared.refusal.Refusal.{Refusal}}
use Rattle.mc_options.specs.declared.refusal.Refusal.TheVariants as refusals

-- A text says a number, which may have an `E` before it.
abbrev pub Says : ℕ → List ℕ → Type 0
Says n digits = ParsesUnsigned {E = ParseIntError} 8 10 digits (Ok n)

abbrev pub IsNumbered : ℕ → List ℕ → Type 0
IsNumbered n text = Says n text ⊎ ((digits : List ℕ) × ((text ≡ 69 ∷ digits) ⊎ (text ≡ 101 ∷ digits)) × Says n digits)

-- The words ask for all refusals, for that of a number, or for those of a name.
abbrev pub GivesExplained : Found → Explained → Type 0
GivesExplained found asked.All = first_value found (codes "NUMBER") ≡ None
GivesExplained found (asked.Number n) = HasText found (codes "NUMBER") (IsNumbered n)
GivesExplained found (asked.Named name) = HasText found (codes "NUMBER") (λ text. text ≡ name.now)

-- A refusal is one of these. A name may be in capital or small letters.
abbrev pub takes : Explained → Explanation → Bool
takes asked.All e = true
takes (asked.Number n) e = e.number == n
takes (asked.Named name) e = bytes_eq (map to_ascii_lowercase e.name.now) (map to_ascii_lowercase name.now)

-- Its number, its name and the status of a command that ends with it; then when it comes, and what to do.
abbrev pub head_text : Explanation → List ℕ
head_text e = codes "E" ++ (decimal e.number ++ (codes " " ++ (e.name.now ++ (codes ", exit status " ++ (decimal e.status ++ codes "\n")))))

abbrev pub rest_text : Explanation → List ℕ
rest_text e = e.when.now ++ (codes "\n" ++ (e.remedy.now ++ codes "\n"))

-- Of all refusals a line each; those of a number or a name in full.
abbrev pub text_of : Explained → Explanation → List ℕ
text_of asked.All e = head_text e
text_of (asked.Number n) e = head_text e ++ rest_text e
text_of (asked.Named name) e = head_text e ++ rest_text e

-- What is said of a refusal, if it is one of these.
abbrev pub said_of : Explained → Explanation → List ℕ
said_of x e = if takes x e then text_of x e else []

-- The explanations of all refusals, by their numbers, and the text of those that are asked for.
pub record Explains (x : Explained) (text : List ℕ) : Type 0 where
  pub explanations : List Explanation
  pub are : map entry_of explanations ≡ all_refusals
  pub text_is : text ≡ flat_map (said_of x) explanations

-- There is some.
pub record ExplainsSome (x : Explained) : Type 0 where
  pub text : List ℕ
  pub explains : Explains x text
  pub some : text ≢ []

-- No refusal has that number or name, or an allocation failed.
abbrev pub RefusesExplained : Explained → Refusal → Type 0
RefusesExplained x e = ((e ≡ refusals.Unexplained) × Explains x []) ⊎ (e ≡ refusals.Memory)

abbrev pub AnswersExplained : Explained → Option (List ℕ) → Option (List ℕ) → End → Type 0
AnswersExplained x = IsAnswered (λ (a : ExplainsSome x). a.text) IsDone (RefusesExplained x) IsUnwritten
