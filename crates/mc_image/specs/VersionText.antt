-- The text of a version (imgtool's documentation, option `--version`): `major[.minor[.revision[+build]]]`, decimal
-- numbers without leading zeros, missing ones 0.
use Rattle.std.specs.{Prelude.{◌≡◌, ℕ, ◌+◌, ◌-◌, ◌*◌, ◌^◌, ◌<◌, List, [], ◌∷◌, ◌++◌, length, get_or, codes, decimal, true}, Char.{is_ascii_digit}}
use Rattle.std.specs.List.{list_all}
use Rattle.mc_image.specs.{declared.version.Version.{Version}, declared.error.VersionError.{VersionError}}
use Rattle.mc_image.specs.declared.error.VersionError.TheVariants.{Syntax, Range}

-- all four parts: what is printed
abbrev pub version_line : Version → List ℕ
version_line v = decimal v.major ++ codes "." ++ decimal v.minor ++ codes "." ++ decimal v.revision ++ codes "+" ++ decimal v.build

-- the number that digits write after a number
abbrev pub value_after : ℕ → List ℕ → ℕ
value_after n [] = n
value_after n (c ∷ cs) = value_after (10 * n + (c - 48)) cs

-- a decimal number without leading zeros, and its value
pub record IsNumeral (ds : List ℕ) (n : ℕ) : Type 0 where
  pub digits : list_all is_ascii_digit ds ≡ true
  pub some : 0 < length ds
  pub plain : get_or ds 0 0 ≡ 48 → length ds ≡ 1
  pub value : n ≡ value_after 0 ds

-- after a number stands nothing more, or the next separator and the next number
abbrev pub Follows : List ℕ → List ℕ → List ℕ → Type 0
Follows separators rest [] = rest ≡ []
Follows [] rest (n ∷ ns) = ⊥
Follows (s ∷ ss) rest (n ∷ ns) = (ds : List ℕ) × (after : List ℕ) × (rest ≡ s ∷ (ds ++ after)) × IsNumeral ds n × Follows ss after ns

-- a text is in the form, with these numbers: one to four, joined by `.`, `.` and `+` in this order
abbrev pub IsForm : List ℕ → List ℕ → Type 0
IsForm text [] = ⊥
IsForm text (n ∷ ns) = (ds : List ℕ) × (after : List ℕ) × (text ≡ ds ++ after) × IsNumeral ds n × Follows (46 ∷ 46 ∷ 43 ∷ []) after ns

-- each number fits its field
pub record AreInRange (ns : List ℕ) : Type 0 where
  pub major : get_or ns 0 0 < 2 ^ 8
  pub minor : get_or ns 1 0 < 2 ^ 8
  pub revision : get_or ns 2 0 < 2 ^ 16
  pub build : get_or ns 3 0 < 2 ^ 32

-- the version of some numbers, missing ones 0
abbrev pub version_of : List ℕ → Version
version_of ns = record { major = get_or ns 0 0; minor = get_or ns 1 0; revision = get_or ns 2 0; build = get_or ns 3 0 }

-- a text names a version
pub record Names (text : List ℕ) (v : Version) : Type 0 where
  pub numbers : List ℕ
  pub form : IsForm text numbers
  pub fits : AreInRange numbers
  pub same : v ≡ version_of numbers

-- when each refusal comes: outside the form; in the form, and a number is too great for its field
abbrev pub IsRefused : List ℕ → VersionError → Type 0
IsRefused text Syntax = (ns : List ℕ) → IsForm text ns → ⊥
IsRefused text Range = (ns : List ℕ) × IsForm text ns × (AreInRange ns → ⊥)

-- each part of a version fits its field
pub record IsVersion (v : Version) : Type 0 where
  pub major : v.major < 2 ^ 8
  pub minor : v.minor < 2 ^ 8
  pub revision : v.revision < 2 ^ 16
  pub build : v.build < 2 ^ 32
