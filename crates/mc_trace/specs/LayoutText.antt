-- A layout in numbers: this project's own text.
use Rattle.std.specs.Prelude.{ℕ, ◌-◌, ◌*◌, List, ◌++◌, Option, codes, decimal}
use Rattle.mc_flash.specs.{Geometry.{Geometry, trailer_bytes, trailer_sectors, greatest_sectors}, Largest.{largest_image}, Usage.{most_operations}}
use Rattle.mc_flash.specs.{Flash.{grain_text, slot_text}, declared.flash.Grain.{Grain}}
use Rattle.mc_flash.specs.declared.flash.Grain.TheVariants as grains
use Rattle.mc_flash.specs.{declared.op.Slot.{Slot}, declared.op.Slot.TheVariants.{Primary, Secondary}}
use Rattle.mc_trailer.specs.{Trailer.{place, entry_place}, declared.places.Field.{Field}}
use Rattle.mc_trailer.specs.declared.places.Field.TheVariants as fields
use Rattle.mc_boot.specs.WholeSwap.{swap_operations}
use Rattle.mc_trace.specs.{Trace.{part_text}, Wear.{wear_text}, declared.layout.PartLine.{PartLine}, declared.wear.Times.{Times}}
use Rattle.mc_trace.specs.declared.operation.Part.TheVariants as parts

-- What a trailer takes of a slot, and the most that an image may have, in sectors and in bytes.
unfoldable pub sizes_text : Geometry → List ℕ
sizes_text g =
    (codes "trailer-bytes " ++ (decimal (trailer_bytes g) ++ codes "\n"))
    ++ ((codes "trailer-sectors " ++ (decimal (trailer_sectors g) ++ codes "\n"))
    ++ ((codes "image-sectors " ++ (decimal (greatest_sectors g) ++ codes "\n"))
    ++ (codes "image-bytes " ++ (decimal (largest_image g) ++ codes "\n"))))

-- Where a field of a slot stands, and a status entry, which the primary alone has.
abbrev pub line_of_field : Geometry → Slot → Field → PartLine
line_of_field g slot f = record { slot = slot; at = place g slot f; part = parts.Field f }

abbrev pub line_of_entry : Geometry → ℕ → PartLine
line_of_entry g e = record { slot = Primary; at = entry_place g e; part = parts.Entry e }

-- The words of a trace.
abbrev pub part_line : PartLine → List ℕ
part_line p = slot_text p.slot ++ (codes " " ++ (decimal p.at ++ (codes " " ++ (part_text p.part ++ codes "\n"))))

-- The fields of a slot, as they stand one after another.
abbrev pub fields_text : Geometry → Slot → List ℕ
fields_text g slot =
    (part_line (line_of_field g slot fields.SwapSize) ++ part_line (line_of_field g slot fields.SwapInfo))
    ++ (part_line (line_of_field g slot fields.CopyDone)
    ++ (part_line (line_of_field g slot fields.ImageOk) ++ part_line (line_of_field g slot fields.Magic)))

-- The first and the last status entry, and the fields of both slots.
unfoldable pub parts_text : Geometry → List ℕ
parts_text g =
    (part_line (line_of_entry g 0) ++ part_line (line_of_entry g (3 * g.max_sectors - 1)))
    ++ (fields_text g Primary ++ fields_text g Secondary)

-- By a grain: how many operations the whole swap of the largest images for a test has, and the most that a boot has.
unfoldable pub operations_text : Grain → Geometry → List ℕ
operations_text c g =
    grain_text c ++ (codes " swap-ops " ++ (decimal (swap_operations c g)
    ++ (codes "\n" ++ (grain_text c ++ (codes " most-ops " ++ (decimal (most_operations c g) ++ codes "\n"))))))

-- The operations by both grains, and what swaps ask of the flash.
abbrev pub boots_text : Geometry → Option Times → List ℕ
boots_text g times = operations_text grains.Call g ++ (operations_text grains.Unit g ++ wear_text g times)

abbrev pub layout_text : Geometry → Option Times → List ℕ
layout_text g times = sizes_text g ++ (parts_text g ++ boots_text g times)
