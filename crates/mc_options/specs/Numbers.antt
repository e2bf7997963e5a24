-- The numbers that options give: decimal digits, which a plus sign may precede, or hexadecimal digits after `0x` or `0X`.
use Rattle.std.specs.Prelude.{◌≡◌, ℕ, ◌≤◌, ◌⊎◌, Bool, ◌==◌, ◌&&◌, ◌||◌, if◌then◌else◌, List, drop, slice_index, Option, Some, None, codes}
use Rattle.std.specs.Str.Parse.{IsNumeral, digits_value, without_leading_plus}
use Rattle.clap.specs.{Words.{first_value}, declared.parser.matches.Found.{Found}}
use Rattle.mc_options.specs.declared.numbers.NumberOption.{NumberOption}
use Rattle.mc_options.specs.declared.numbers.NumberOption.TheVariants as numbers

-- a text begins with `0x` or `0X`
abbrev pub is_hexadecimal : List ℕ → Bool
is_hexadecimal text = (slice_index text 0 == 48) && ((slice_index text 1 == 120) || (slice_index text 1 == 88))

abbrev pub radix_of : List ℕ → ℕ
radix_of text = if is_hexadecimal text then 16 else 10

-- its digits, without that beginning or a plus sign
abbrev pub digits_of : List ℕ → List ℕ
digits_of text = if is_hexadecimal text then drop 2 text else without_leading_plus text

-- a text says a number
abbrev pub SaysNumber : List ℕ → ℕ → Type 0
SaysNumber text n = IsNumeral (radix_of text) (digits_of text) × (digits_value (radix_of text) (digits_of text) ≡ n)

-- the name of an option
abbrev pub option_name : NumberOption → List ℕ
option_name numbers.HeaderSize = codes "header-size"
option_name numbers.SlotSize = codes "slot-size"
option_name numbers.Align = codes "align"
option_name numbers.SlotSectors = codes "max-sectors"
option_name numbers.SecurityCounter = codes "security-counter"
option_name numbers.Sector = codes "sector"
option_name numbers.Unit = codes "unit"
option_name numbers.MaxSectors = codes "max-sectors"
option_name numbers.Chunk = codes "chunk"
option_name numbers.Primary = codes "primary"
option_name numbers.Secondary = codes "secondary"
option_name numbers.Cuts = codes "cuts"
option_name numbers.Limit = codes "limit"
option_name numbers.From = codes "from"
option_name numbers.To = codes "to"
option_name numbers.EraseUs = codes "erase-us"
option_name numbers.WriteUs = codes "write-us"
option_name numbers.At = codes "at"

-- the least and the largest number that it takes
abbrev pub least_of : NumberOption → ℕ
least_of numbers.HeaderSize = 32
least_of numbers.SlotSize = 1
least_of numbers.Align = 1
least_of numbers.SlotSectors = 1
least_of numbers.Limit = 1
least_of _ = 0

abbrev pub most_of : NumberOption → ℕ
most_of numbers.HeaderSize = 65535
most_of numbers.SlotSize = 16777216
most_of numbers.Align = 8
most_of numbers.SlotSectors = 1024
most_of numbers.Cuts = 16
most_of _ = 4294967295

-- a number in that range
abbrev pub IsTaken : NumberOption → ℕ → Type 0
IsTaken option n = (least_of option ≤ n) × (n ≤ most_of option)

-- the arguments give a number of an option, or leave it out
abbrev pub GivesNumber : Found → NumberOption → ℕ → Type 0
GivesNumber found option n = (text : List ℕ) × (first_value found (option_name option) ≡ Some text) × SaysNumber text n × IsTaken option n

abbrev pub MayGiveNumber : Found → NumberOption → Option ℕ → Type 0
MayGiveNumber found option (Some n) = GivesNumber found option n
MayGiveNumber found option None = first_value found (option_name option) ≡ None

-- they give a text that says no number which it takes
abbrev pub GivesNoNumber : Found → NumberOption → Type 0
GivesNoNumber found option = (given : Option ℕ) → MayGiveNumber found option given → ⊥

-- the write units that a flash may have
abbrev pub IsUnit : ℕ → Type 0
IsUnit n = (n ≡ 1) ⊎ (n ≡ 2) ⊎ (n ≡ 4) ⊎ (n ≡ 8)
