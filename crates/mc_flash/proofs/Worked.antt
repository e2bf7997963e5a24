-- The definitions computed at worked layouts.
use Rattle.std.proofs.Common.{◌≡◌, pos, negsuc, true, false, [], ◌∷◌, refl}
use Rattle.std.specs.Prelude.{Some, None}
use lib.Count.{ones}
use Rattle.mc_flash.specs.Geometry.{Geometry, trailer_bytes, trailer_sectors, greatest_count, greatest_sectors, fits, refusal_of, of_numbers}
use Rattle.mc_flash.specs.{Flash.{Content, apply}, Usage.{most_operations, most_saved}, inner.Worked.{worked}}
use Rattle.mc_flash.specs.declared.layout.LayoutError.TheVariants as refusals
use Rattle.mc_flash.specs.declared.flash.Grain.TheVariants as grains
use Rattle.mc_flash.specs.declared.op.Op.TheVariants as ops
use Rattle.mc_flash.specs.declared.op.Slot.TheVariants.{Primary, Secondary}

trailer : trailer_bytes worked ≡ 144
trailer = refl

sectors : trailer_sectors worked ≡ 1
sectors = refl

greatest : greatest_count worked ≡ pos 2
greatest = refl

cut_off : greatest_sectors worked ≡ 2
cut_off = refl

fitting : fits worked 512 ≡ true
fitting = refl

too_large : fits worked 513 ≡ false
too_large = refl

accepted : refusal_of worked ≡ None
unfolding ones
accepted = refl

-- the most operations of a boot, and the bytes that it saves
operations : most_operations grains.Call worked ≡ 36
operations = refl

unit_operations : most_operations grains.Unit worked ≡ 218
unit_operations = refl

saved : most_saved worked ≡ 2304
saved = refl

-- and of a boot at a layout of units of one byte
small_operations : most_operations grains.Unit (of_numbers 64 1 4 32 4 3) ≡ 444
small_operations = refl

no_unit : refusal_of (of_numbers 256 3 4 128 4 3) ≡ Some refusals.Unit
no_unit = refl

no_sector : refusal_of (of_numbers 100 8 4 128 4 3) ≡ Some refusals.Sector
unfolding ones
no_sector = refl

no_chunk : refusal_of (of_numbers 256 8 4 96 4 3) ≡ Some refusals.Chunk
unfolding ones
no_chunk = refl

no_counts : refusal_of (of_numbers 256 8 4 128 5 3) ≡ Some refusals.Counts
unfolding ones
no_counts = refl

no_room : refusal_of (of_numbers 256 8 4 128 2 2) ≡ Some refusals.NoRoom
unfolding ones
no_room = refl

-- a trailer of 385 sectors in slots of one
far_below : greatest_count (of_numbers 64 8 1024 64 1 1) ≡ negsuc 384
far_below = refl

-- four bytes of a slot each: a sector of two is erased, and bytes are put where there are 0xff alone
abbrev four : Geometry
four = of_numbers 2 1 1 1 2 2

abbrev held : Content
held = record { primary = 1 ∷ 2 ∷ 255 ∷ 255 ∷ []; secondary = 5 ∷ 6 ∷ 7 ∷ 8 ∷ [] }

erase_one : apply four (ops.Erase Secondary 1) held ≡ Some (record { primary = 1 ∷ 2 ∷ 255 ∷ 255 ∷ []; secondary = 5 ∷ 6 ∷ 255 ∷ 255 ∷ [] })
unfolding apply
erase_one = refl

program_two : apply four (ops.Program Primary 2 (9 ∷ 255 ∷ [])) held ≡ Some (record { primary = 1 ∷ 2 ∷ 9 ∷ 255 ∷ []; secondary = 5 ∷ 6 ∷ 7 ∷ 8 ∷ [] })
unfolding apply
program_two = refl

program_over : apply four (ops.Program Primary 1 (2 ∷ 9 ∷ [])) held ≡ None
unfolding apply
program_over = refl

copy_two : apply four (ops.Copy Secondary 1 Primary 2 2) held ≡ Some (record { primary = 1 ∷ 2 ∷ 6 ∷ 7 ∷ []; secondary = 5 ∷ 6 ∷ 7 ∷ 8 ∷ [] })
unfolding apply
copy_two = refl
