-- Texts: those of lists, whose items stand between separators, and what a beginning of one is.
use Rattle.std.specs.{Io.KnownBytes.{Appends}, Prelude.{List, Option, [], codes, flat_map, take, ℕ, ◌++◌, ◌∷◌, ◌≡◌}}

-- Texts of lists: `-` where there is no item, else the items with a separator between them.

abbrev pub joined : {A : Type 0} → List ℕ → (A → List ℕ) → List A → List ℕ
joined separator spell [] = codes "-"
joined separator spell (x ∷ xs) = spell x ++ flat_map (λ y. separator ++ spell y) xs

-- The item that a text spells stands after others, with which it goes.
pub record IsAdded {A : Type 0} (spell : A → List ℕ) (Fits : List A → A → Type 0) (old : List A) (text : List ℕ) (new : List A) : Type 0 where
  pub item : A
  pub fits : Fits old item
  pub text_is : text ≡ spell item
  pub new_is : new ≡ old ++ item ∷ []

-- A beginning of a text.

-- Some prefix of the text is out.
abbrev pub AppendsPrefix : Option (List ℕ) → Option (List ℕ) → List ℕ → Type 0
AppendsPrefix before after text = (n : ℕ) × Appends before after (take n text)
