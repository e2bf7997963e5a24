-- Trailers that would stand right under other numbers: this project's own hints (docs/FORMAT.md, "Inspection").
use Rattle.std.specs.{List.{between, ends_with}, Option.{is_some}}
use Rattle.std.specs.Prelude.{Bool, List, [], is_none, codes, decimal, drop, if◌then◌else◌, length, not, suc, take, true, zero, ℕ, ◌%◌, ◌&&◌, ◌*◌, ◌++◌, ◌+◌, ◌-◌, ◌/◌, ◌==◌, ◌||◌, ◌∷◌}
use Rattle.mc_flash.specs.{Flash.{is_blank, size_of, slot_text}, Geometry.{Geometry, of_numbers, refusal_of, trailer_bytes}, declared.op.Slot.{Slot}}
use Rattle.mc_flash.specs.declared.op.Slot.TheVariants.{Primary, Secondary}
use Rattle.mc_image.specs.Valid.{id_of}
use Rattle.mc_trace.specs.Sectors.{sector_of}
use Rattle.mc_trailer.specs.{Trailer.{magic_bytes, place}, declared.places.Field.TheVariants.{SwapInfo, SwapSize}}

-- That a sector of a slot with these bytes ends in a good magic, if it does.
abbrev pub magic_text : Geometry → Slot → List ℕ → ℕ → List ℕ
magic_text g slot bytes i =
    if ends_with ◌==◌ (sector_of g bytes i) magic_bytes then codes "hint magic " ++ (slot_text slot ++ (codes " " ++ (decimal i ++ codes "\n"))) else []

-- Of n sectors from i on.
abbrev pub magics_text : Geometry → Slot → List ℕ → ℕ → ℕ → List ℕ
magics_text g slot bytes i zero = []
magics_text g slot bytes i (suc n) = magic_text g slot bytes i ++ magics_text g slot bytes (i + 1) n

-- The value of a status entry may be one of these three.
abbrev pub is_value : ℕ → Bool
is_value b = b == 1 || b == 2 || b == 3

-- Each of these bytes may be one of a status entry.
abbrev pub are_entries : List ℕ → Bool
are_entries [] = true
are_entries (b ∷ bs) = (is_value b || b == 255) && are_entries bs

-- How many bytes at the end begin with such a value, and may all be those of status entries.
abbrev pub entry_span : List ℕ → ℕ
entry_span [] = 0
entry_span (b ∷ bs) = if is_value b && are_entries bs then suc (length bs) else entry_span bs

-- Another unit and most of sectors make a layout with the other numbers.
abbrev pub makes_layout : Geometry → ℕ → ℕ → Bool
makes_layout g unit most = is_none (refusal_of (of_numbers g.sector unit most g.chunk g.primary g.secondary))

-- By that unit so many bytes are all status entries, and that makes a layout.
abbrev pub numbers_text : Geometry → ℕ → ℕ → List ℕ
numbers_text g span unit =
    let most = span / (3 * unit) in
    if span % (3 * unit) == 0 && makes_layout g unit most then codes "hint --unit " ++ (decimal unit ++ (codes " --max-sectors " ++ (decimal most ++ codes "\n"))) else []

unfoldable pub entries_text : Geometry → ℕ → List ℕ
entries_text g span =
    if span == 3 * g.max_sectors * g.unit then [] else ((numbers_text g span 1 ++ numbers_text g span 2) ++ numbers_text g span 4) ++ numbers_text g span 8

-- How many bytes the status entries take from the first that is written to the fields of a primary with these bytes.
abbrev pub written_span : Geometry → List ℕ → ℕ
written_span g primary = entry_span (take (place g Primary SwapSize) primary)

-- The status entries of a slot, and swap-size after them: a boot writes them in the primary alone. Swap-info is not among them: an image
-- that asks for a swap may write that in the secondary.
abbrev pub progress : Geometry → Slot → List ℕ → List ℕ
progress g slot bytes = between (size_of g slot - trailer_bytes g) (place g slot SwapInfo) bytes

-- The secondary holds what a boot writes in the primary alone, and the primary does not.
abbrev pub order_text : Geometry → List ℕ → List ℕ → List ℕ
order_text g primary secondary =
    if is_blank (progress g Primary primary) && not (is_blank (progress g Secondary secondary)) then codes "hint slots in the wrong order\n" else []

-- The secondary begins with no valid image, and its second sector with one.
abbrev pub shifted_text : Geometry → List ℕ → List ℕ
shifted_text g secondary =
    if is_none (id_of secondary) && is_some (id_of (drop g.sector secondary)) then codes "hint image secondary 1\n" else []

-- Good magics where no slot ends; numbers by which the first status entry that is written would be the first of all; and what
-- stands in the wrong slot or sector.
abbrev pub hints_text : Geometry → List ℕ → List ℕ → List ℕ
hints_text g primary secondary =
    let magics = magics_text g Primary primary 0 (g.primary - 1) ++ magics_text g Secondary secondary 0 (g.secondary - 1) in
    let numbers = magics ++ entries_text g (written_span g primary) in
    (numbers ++ order_text g primary secondary) ++ shifted_text g secondary
