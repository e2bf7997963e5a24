-- What `verify` and `dumpinfo` write (imgtool's documentation has the commands; the texts are this project's own).
use Rattle.std.specs.Prelude.{ℕ, Bool, ◌-◌, ◌^◌, List, [], ◌∷◌, ◌++◌, length, codes, decimal, nat_lt, if◌then◌else◌, Option, Some, None, Result, Ok, Err}
use Rattle.std.specs.{List.{flat_map}, Int.{w16, w32, to_be_bytes}}
use Rattle.hex.specs.Hex.{encode_lower}
use Rattle.mc_image.specs.Image.{Image, header_text, protected_text, image_in, image_text, digest_of, Listed, listing}
use Rattle.mc_image.specs.{Valid.{first_fault, is_good, image_fault}, declared.entries.Area.{Area}, declared.entries.Area.TheVariants.{Protected, Plain}}
use Rattle.mc_image.specs.{VersionText.{version_line}, declared.error.ImageError.{ImageError}, declared.judge.Judged.{Judged}}
use Rattle.mc_imgtool.specs.{declared.error.ToolError.{ToolError}, declared.error.ToolError.TheVariants.{Image as image_error, InputTooLong}}

-- the line for a valid image: version, size, digest in hexadecimal
unfoldable pub good_line : Image → List ℕ
good_line v = codes "good " ++ (version_line v.version ++ (codes " " ++ (decimal (length (image_text v)) ++ (codes " " ++ (encode_lower (digest_of v) ++ 10 ∷ [])))))

-- the same of what is known of it
unfoldable pub good_text : Judged → List ℕ
good_text j = codes "good " ++ (version_line j.version ++ (codes " " ++ (decimal j.size ++ (codes " " ++ (encode_lower j.digest ++ 10 ∷ [])))))

-- the line, or the first fault
abbrev pub line_or_fault : Image → Option ImageError → Result (List ℕ) ToolError
line_or_fault v None = Ok (good_line v)
line_or_fault v (Some e) = Err (image_error e)

-- what is wanted of `verify` for an input
unfoldable pub verified : List ℕ → Result (List ℕ) ToolError
verified input = if nat_lt (2 ^ 24) (length input) then Err InputTooLong else line_or_fault (image_in input) (image_fault input)

-- ---- the report of `dumpinfo`

-- eight, or four, hexadecimal digits
abbrev pub eight_digits : ℕ → List ℕ
eight_digits n = encode_lower (to_be_bytes w32 n)

abbrev pub four_digits : ℕ → List ℕ
four_digits n = encode_lower (to_be_bytes w16 n)

-- the lines of magic and load address
unfoldable pub load_lines : Image → List ℕ
load_lines v = codes "magic 0x96f3b83d\nload 0x" ++ (eight_digits v.load ++ 10 ∷ [])

-- the lines of the sizes of header, protected area and payload
unfoldable pub size_lines : Image → List ℕ
size_lines v = codes "header-size " ++ (decimal (length (header_text v)) ++ (codes "\nprotected-size " ++
    (decimal (length (protected_text v)) ++ (codes "\nimage-size " ++ (decimal (length v.payload) ++ 10 ∷ [])))))

-- the lines of flags, version and padding
unfoldable pub version_lines : Image → List ℕ
version_lines v = codes "flags 0x00000000\nversion " ++ (version_line v.version ++ (codes "\npadding 0x" ++ (eight_digits v.padding ++ 10 ∷ [])))

-- the name of an area
abbrev pub area_word : Area → List ℕ
area_word Protected = codes "protected"
area_word Plain = codes "plain"

-- a value's digits after a space; an empty value has neither
abbrev pub value_text : List ℕ → List ℕ
value_text [] = []
value_text (b ∷ bytes) = codes " " ++ encode_lower (b ∷ bytes)

-- the line of an entry: area, type, length, value
unfoldable pub entry_line : Listed → List ℕ
entry_line x = area_word x.area ++ (codes " 0x" ++ (four_digits x.entry.kind ++ (codes " " ++ (decimal (length x.entry.value) ++ (value_text x.entry.value ++ 10 ∷ [])))))

-- a line for each entry
abbrev pub entry_lines : List Listed → List ℕ
entry_lines xs = flat_map entry_line xs

-- what is said of the digest
abbrev pub judgement : Bool → List ℕ
judgement good = if good then codes "good" else codes "wrong"

-- the last three lines: the image's size, the bytes after it, the digest
unfoldable pub last_lines : Image → ℕ → List ℕ
last_lines v rest = codes "total " ++ (decimal (length (image_text v)) ++ (codes "\nrest " ++ (decimal rest ++ (codes "\ndigest " ++ (judgement (is_good v) ++ 10 ∷ [])))))

-- the lines of the header's fields
unfoldable pub header_lines : Image → List ℕ
header_lines v = load_lines v ++ (size_lines v ++ version_lines v)

-- the report of an image that `rest` bytes follow
unfoldable pub report : Image → ℕ → List ℕ
report v rest = (header_lines v ++ entry_lines (listing v)) ++ last_lines v rest

-- the report, or the first fault
abbrev pub report_or_fault : List ℕ → Option ImageError → Result (List ℕ) ToolError
report_or_fault input None = Ok (report (image_in input) (length input - length (image_text (image_in input))))
report_or_fault input (Some e) = Err (image_error e)

-- what is wanted of `dumpinfo` for an input
unfoldable pub dumped : List ℕ → Result (List ℕ) ToolError
dumped input = if nat_lt (2 ^ 24) (length input) then Err InputTooLong else report_or_fault input (first_fault input)
