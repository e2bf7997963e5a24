-- What the next boot reads of the flash that a torn operation leaves (docs/MODEL.md, "Power lost within an operation"): this
-- project's own.
use Rattle.std.specs.Prelude.{Bool, List, None, Option, Some, [], codes, if◌then◌else◌, option_map, ℕ, ◌%◌, ◌++◌, ◌/◌, ◌==◌, ◌||◌}
use Rattle.std.specs.Option.{is_some}
use Rattle.mc_trailer.specs.{Tables.{flag_text, magic_text}, declared.trailer.Flag.{Flag}, declared.trailer.Magic.{Magic}}
use Rattle.mc_trailer.specs.declared.trailer.Flag.TheVariants as flags
use Rattle.mc_trailer.specs.declared.trailer.Magic.TheVariants as magics
use Rattle.mc_tear.specs.{declared.reading.Entry.{Entry}, declared.reading.Reading.{Reading}}
use Rattle.mc_tear.specs.declared.reading.Entry.TheVariants as entries

-- Readings are numbered in their order: by the magic, image-ok, copy-done and the entry, each of which is not named, good or set,
-- unset, or bad or written.
abbrev pub magic_of : ℕ → Option Magic
magic_of digit =
    if digit == 0 then None
    else if digit == 1 then Some magics.Good
    else if digit == 2 then Some magics.Unset
    else Some magics.Bad

abbrev pub flag_of : ℕ → Option Flag
flag_of digit =
    if digit == 0 then None
    else if digit == 1 then Some flags.Set
    else if digit == 2 then Some flags.Unset
    else Some flags.Bad

abbrev pub entry_of : ℕ → Option Entry
entry_of digit = if digit == 0 then None else if digit == 1 then Some entries.Unset else Some entries.Written

-- The reading of a number below 192.
abbrev pub reading_of : ℕ → Reading
reading_of n = record {
  magic = magic_of (n / 48);
  image_ok = flag_of (n / 12 % 4);
  copy_done = flag_of (n / 3 % 4);
  entry = entry_of (n % 3);
}

-- How they are written: the fields that are named, with commas between them; or that there is none.
abbrev pub entry_text : Entry → List ℕ
entry_text entries.Written = codes "written"
entry_text entries.Unset = codes "unset"

-- A field, after what separates it from those before it; and what separates the next one.
abbrev pub part : List ℕ → List ℕ → Option (List ℕ) → List ℕ
part separator name None = []
part separator name (Some value) = separator ++ (name ++ value)

abbrev pub then_comma : List ℕ → Option (List ℕ) → List ℕ
then_comma separator None = separator
then_comma separator (Some value) = codes ","

abbrev pub is_named : Reading → Bool
is_named r = is_some r.magic || (is_some r.image_ok || (is_some r.copy_done || is_some r.entry))

abbrev pub fields_text : Reading → List ℕ
fields_text r =
    let magic = option_map magic_text r.magic in
    let image_ok = option_map flag_text r.image_ok in
    let copy_done = option_map flag_text r.copy_done in
    let after_magic = then_comma [] magic in
    let after_image_ok = then_comma after_magic image_ok in
    part [] (codes "magic=") magic
    ++ (part after_magic (codes "image-ok=") image_ok
    ++ (part after_image_ok (codes "copy-done=") copy_done
    ++ part (then_comma after_image_ok copy_done) (codes "entry=") (option_map entry_text r.entry)))

abbrev pub reading_text : Reading → List ℕ
reading_text r = if is_named r then fields_text r else codes "data"
