-- How a version is read along its text. That just the texts in the form are read, as their numbers, is proved of
-- `Version::read`.
use Rattle.std.specs.{Char.{is_ascii_digit}, Option.{option_map}}
use Rattle.std.specs.Prelude.{Err, List, None, Ok, Option, Result, Some, [], if◌then◌else◌, length, min, nat_lt, option_and_then, ℕ, ◌&&◌, ◌*◌, ◌+◌, ◌-◌, ◌==◌, ◌^◌, ◌∷◌}
use Rattle.mc_image.specs.{declared.error.VersionError.{VersionError}, declared.error.VersionError.TheVariants.{Range, Syntax}}
use Rattle.mc_image.specs.declared.version.Version.{Version}

-- digits go on: the number so far, and what follows. A number above 2 ^ 32 counts as 2 ^ 32, which is too great for
-- each field.
unfoldable pub number_from : ℕ → List ℕ → ℕ × List ℕ
number_from n [] = (n, [])
number_from n (c ∷ cs) = if is_ascii_digit c then number_from (min (10 * n + (c - 48)) (2 ^ 32)) cs else (n, c ∷ cs)

-- a number without leading zeros, and what follows
unfoldable pub numeral_at : List ℕ → Option (ℕ × List ℕ)
numeral_at [] = None
numeral_at (c ∷ cs) = if c == 48 then Some (0, cs) else if is_ascii_digit c then Some (number_from (c - 48) cs) else None

-- the number after a separator, and what follows; 0 at the end of the text
unfoldable pub part_at : ℕ → List ℕ → Option (ℕ × List ℕ)
part_at separator [] = Some (0, [])
part_at separator (c ∷ cs) = if c == separator then numeral_at cs else None

-- the numbers after separators, up to the end of the text
unfoldable pub parts_after : List ℕ → List ℕ → Option (List ℕ)
parts_after [] text = if length text == 0 then Some [] else None
parts_after (s ∷ ss) text = option_and_then (λ x. option_map (λ ns. x.0 ∷ ns) (parts_after ss x.1)) (part_at s text)

-- the four numbers of a text, missing ones 0
unfoldable pub numbers_in : List ℕ → Option (List ℕ)
numbers_in text = option_and_then (λ x. option_map (λ ns. x.0 ∷ ns) (parts_after (46 ∷ 46 ∷ 43 ∷ []) x.1)) (numeral_at text)

-- the version of four numbers, where each fits its field
unfoldable pub fitted : List ℕ → Result Version VersionError
fitted (major ∷ minor ∷ revision ∷ build ∷ []) =
    if nat_lt major (2 ^ 8) && (nat_lt minor (2 ^ 8) && (nat_lt revision (2 ^ 16) && nat_lt build (2 ^ 32)))
    then Ok (record { major = major; minor = minor; revision = revision; build = build })
    else Err Range
fitted _ = Err Syntax

-- what reading gives
abbrev pub judged : Option (List ℕ) → Result Version VersionError
judged None = Err Syntax
judged (Some ns) = fitted ns

unfoldable pub version_read : List ℕ → Result Version VersionError
version_read text = judged (numbers_in text)
