-- What a boot begins with, and its plan: the list of operations that follows from that alone (docs/MODEL.md, "Boots").
use Rattle.std.specs.{Int.{div_ceil}, List.{between, range_with_len}}
use Rattle.std.specs.Prelude.{Bool, List, None, Option, Some, [], drop, false, flat_map, if◌then◌else◌, is_none, length, map, max, nat_lt, not, option_map, position, true, ℕ, ◌&&◌, ◌*◌, ◌++◌, ◌+◌, ◌-◌, ◌/◌, ◌==◌, ◌||◌, ◌∷◌}
use Rattle.mc_boot.specs.{declared.image.ImageId.{ImageId}, declared.image.Images.{Images}, declared.transfer.Transfer.{Transfer}}
use Rattle.mc_flash.specs.{Flash.{Content, sectors_of}, Geometry.{Geometry, greatest_sectors, in_pieces, trailer_sectors}, Usage.{Seen}}
use Rattle.mc_flash.specs.{declared.flash.Grain.{Grain}, declared.op.Op.{Op}, declared.op.Op.TheVariants.{Copy, Erase, Program}, declared.op.Slot.{Slot}}
use Rattle.mc_flash.specs.declared.op.Slot.TheVariants.{Primary, Secondary}
use Rattle.mc_image.specs.{Image.{image_in, image_text}, Valid.{Identity, first_fault, is_valid}}
use Rattle.mc_trailer.specs.Tables.{is_resumed, is_unset, table_of}
use Rattle.mc_trailer.specs.{Trailer.{entry_place, highest_entry, magic_bytes, one_unit, place, size_bytes, trailer_of}, declared.places.Field.{Field}}
use Rattle.mc_trailer.specs.{declared.tables.Rules.{Rules}, declared.tables.SwapType.{SwapType}, declared.trailer.Flag.{Flag}}
use Rattle.mc_trailer.specs.declared.trailer.Trailer.{Trailer}
use Rattle.mc_trailer.specs.declared.places.Field.TheVariants as field
use Rattle.mc_flash.specs.declared.flash.Grain.TheVariants as grains
use Rattle.mc_trailer.specs.declared.tables.SwapType.TheVariants as kinds
use Rattle.mc_trailer.specs.declared.tables.Profile.TheVariants as profiles

-- What a boot begins with: the rules that it goes by, the layout, and what the flash contains when the power comes on.

pub record PowerOn : Type 0 where
  pub rules : Rules
  pub geometry : Geometry
  pub content : Content

abbrev pub power_on : Rules → Geometry → Content → PowerOn
power_on r g s = record { rules = r; geometry = g; content = s }

-- The power comes on again, by the same rules and layout, where the flash contains this.
abbrev pub again : PowerOn → Content → PowerOn
again x s = power_on x.rules x.geometry s

-- By these rules, where a flash stands.
abbrev pub powered : Rules → Seen → PowerOn
powered r f = power_on r f.geometry f.content

-- What a boot asks of the bytes of a slot.

-- The size of the image that the bytes begin with, by structure alone: whether its digest is right is not asked. Bytes
-- that begin with no image count 0.
unfoldable pub image_size : List ℕ → ℕ
image_size bytes = if is_none (first_fault bytes) then length (image_text (image_in bytes)) else 0

-- What a new swap asks of the slots: whether the secondary's image is valid, and the size of the larger image.
unfoldable pub images_of : Content → Images
images_of s = record { valid = is_valid s.secondary; size = max (image_size s.primary) (image_size s.secondary) }

-- What distinguishes images, as images define it.
abbrev pub identity_of : ImageId → Identity
identity_of id = record { version = id.version; size = id.size; digest = id.digest }

-- The transfers of a swap of n sectors (MCUboot's design document, swap using move), and the operations of each.

-- Up by one sector in the primary, the image's last sector first: the j-th of these, with entry j.
abbrev pub moved_up : ℕ → ℕ → Transfer
moved_up n j = record { from = Primary; from_sector = n - 1 - j; to = Primary; to_sector = n - j; entry = j }

-- A sector of the secondary's image into its place in the primary.
abbrev pub brought_in : Geometry → ℕ → Transfer
brought_in g i = record { from = Secondary; from_sector = i; to = Primary; to_sector = i; entry = g.max_sectors + 2 * i }

-- A sector of the primary's image, which was moved up, into its place in the secondary.
abbrev pub taken_out : Geometry → ℕ → Transfer
taken_out g i = record { from = Primary; from_sector = i + 1; to = Secondary; to_sector = i; entry = g.max_sectors + 2 * i + 1 }

-- All sectors are moved up; then, sector by sector, the new image comes in and the old one goes out.
abbrev pub transfers : Geometry → ℕ → List Transfer
transfers g n =
    map (moved_up n) (range_with_len 0 n)
    ++ flat_map (λ i. brought_in g i ∷ taken_out g i ∷ []) (range_with_len 0 n)

-- The copying of one chunk of a transfer.
abbrev pub copy_of : Geometry → Transfer → ℕ → Op
copy_of g t c = Copy t.from (t.from_sector * g.sector + c * g.chunk) t.to (t.to_sector * g.sector + c * g.chunk) g.chunk

-- The status entry of a transfer.
abbrev pub entry_of : Geometry → Transfer → Op
entry_of g t = Program Primary (entry_place g t.entry) (one_unit g 1)

-- The target is erased, then written chunk by chunk upward, then the entry is written.
abbrev pub steps : Geometry → Transfer → List Op
steps g t = Erase t.to t.to_sector ∷ (map (copy_of g t) (range_with_len 0 (g.sector / g.chunk)) ++ entry_of g t ∷ [])

-- The operations on the trailers: how they are erased, and the writes of their fields.

-- The i-th erase of a trailer: from the slot's last sector downward.
abbrev pub trailer_erase : Geometry → Slot → ℕ → Op
trailer_erase g slot i = Erase slot (sectors_of g slot - 1 - i)

-- A slot's trailer sectors, from the last downward.
abbrev pub trailer_erases : Geometry → Slot → List Op
trailer_erases g slot = map (trailer_erase g slot) (range_with_len 0 (trailer_sectors g))

-- Unit j of bytes that are written at an offset.
abbrev pub piece : Geometry → Slot → ℕ → List ℕ → ℕ → Op
piece g slot at new j = Program slot (at + j * g.unit) (between (j * g.unit) (j * g.unit + g.unit) new)

-- The write of a field: one operation where a whole call is one, else one for each unit, upward.
abbrev pub write : Grain → Geometry → Slot → Field → List ℕ → List Op
write grains.Call g slot f new = Program slot (place g slot f) new ∷ []
write grains.Unit g slot f new = map (piece g slot (place g slot f) new) (range_with_len 0 (length new / g.unit))

-- How many operations the write of so many bytes is.
abbrev pub write_count : Grain → Geometry → ℕ → ℕ
write_count grains.Call g n = 1
write_count grains.Unit g n = n / g.unit

-- The flags are of one unit, and so each is one operation by either grain.
abbrev pub image_ok_write : Geometry → Slot → Op
image_ok_write g slot = Program slot (place g slot field.ImageOk) (one_unit g 1)

abbrev pub copy_done_write : Geometry → Op
copy_done_write g = Program Primary (place g Primary field.CopyDone) (one_unit g 1)

-- The size, and then the magic.
abbrev pub marking : Grain → Geometry → Slot → ℕ → List Op
marking c g slot size = write c g slot field.SwapSize (size_bytes g size) ++ write c g slot field.Magic magic_bytes

-- The number of a type in a trailer.
abbrev pub number_of : SwapType → ℕ
number_of kinds.None = 1
number_of kinds.Test = 2
number_of kinds.Perm = 3
number_of kinds.Revert = 4
number_of kinds.Fail = 5
number_of kinds.Panic = 6

-- The type of the swap, which is of one unit.
abbrev pub info_write : Geometry → SwapType → Op
info_write g kind = Program Primary (place g Primary field.SwapInfo) (one_unit g (number_of kind))

abbrev pub is_test : SwapType → Bool
is_test kind = number_of kind == 2

abbrev pub is_revert : SwapType → Bool
is_revert kind = number_of kind == 4

-- For a revert the secondary is first made to ask for an upgrade that stays.
abbrev pub preparation_writes : Grain → Geometry → ℕ → List Op
preparation_writes c g size = image_ok_write g Secondary ∷ marking c g Secondary size

-- The primary's trailer at the start of a swap: the type, image-ok (not for a test), the larger size, the magic.
abbrev pub opening_writes : Grain → Geometry → SwapType → ℕ → List Op
opening_writes c g kind size =
    info_write g kind
    ∷ (if is_test kind then marking c g Primary size else image_ok_write g Primary ∷ marking c g Primary size)

-- The operations of a swap, from its start or from where it was cut. The chunk of the layout is what is copied at once.

-- The finish: image-ok where it is wanted, then copy-done.
abbrev pub closing : Geometry → Bool → List Op
closing g image_ok = (if image_ok then image_ok_write g Primary ∷ [] else []) ++ copy_done_write g ∷ []

-- The transfers from the one at `first` on, and the finish.
abbrev pub from_transfer : Geometry → ℕ → ℕ → Bool → List Op
from_transfer g n first image_ok = flat_map (steps g) (drop first (transfers g n)) ++ closing g image_ok

-- A swap that was cut: the secondary's trailer is erased again where no entry was written.
abbrev pub resumed_list : Geometry → ℕ → ℕ → Bool → Bool → List Op
resumed_list g n first erases image_ok =
    if erases then trailer_erases g Secondary ++ from_transfer g n first image_ok
    else from_transfer g n first image_ok

-- A swap whose larger image has that size: the primary's trailer is made anew, then the secondary's is erased, then come
-- all transfers and the finish.
abbrev pub swap_list : Grain → Geometry → SwapType → ℕ → ℕ → List Op
swap_list c g kind size n =
    trailer_erases g Primary ++ (opening_writes c g kind size ++ resumed_list g n 0 true false)

-- Before a revert the secondary's trailer is made anew, so that a cut before the primary's leaves an upgrade that stays.
abbrev pub new_list : Grain → Geometry → SwapType → ℕ → ℕ → List Op
new_list c g kind size n =
    if is_revert kind then trailer_erases g Secondary ++ (preparation_writes c g size ++ swap_list c g kind size n)
    else swap_list c g kind size n

-- What a boot does, from the flash at power-on alone.

-- The type of a boot, how many sectors it swaps (0 where it has no operations), and its operations in order.
pub record Plan : Type 0 where
  pub kind : SwapType
  pub sectors : ℕ
  pub list : List Op

-- A boot with no operations.
abbrev pub nothing : SwapType → Plan
nothing kind = record { kind = kind; sectors = 0; list = [] }

-- A swap that the tables ask for: it fails unless the secondary's image is valid and the larger one fits.
abbrev pub new_swap : Grain → Geometry → Images → SwapType → Plan
new_swap c g images kind =
    let n = div_ceil images.size g.sector in
    if not images.valid || nat_lt (greatest_sectors g) n then nothing kinds.Fail
    else record { kind = kind; sectors = n; list = new_list c (in_pieces c g) kind images.size n }

abbrev pub new_plan : Grain → Geometry → Images → SwapType → Plan
new_plan c g images kinds.None = nothing kinds.None
new_plan c g images kinds.Test = new_swap c g images kinds.Test
new_plan c g images kinds.Perm = new_swap c g images kinds.Perm
new_plan c g images kinds.Revert = new_swap c g images kinds.Revert
new_plan c g images kinds.Fail = nothing kinds.Fail
new_plan c g images kinds.Panic = nothing kinds.Panic

-- The first transfer still to be made, where this is the highest entry: the one after the transfer of that entry, and
-- none where no transfer has it.
abbrev pub first_left : Geometry → ℕ → Option ℕ → Option ℕ
first_left g n None = Some 0
first_left g n (Some e) = option_map (λ i. i + 1) (position (λ t. t.entry == e) (transfers g n))

-- The finish writes image-ok where the type is no test and the flag is unset.
abbrev pub confirms : SwapType → Flag → Bool
confirms kind image_ok = not (is_test kind) && is_unset image_ok

abbrev pub resumed_from : Grain → Geometry → Flag → Option ℕ → SwapType → ℕ → Option ℕ → Plan
resumed_from c g image_ok highest kind n None = nothing kinds.Panic
resumed_from c g image_ok highest kind n (Some first) = record {
  kind = kind;
  sectors = n;
  list = resumed_list (in_pieces c g) n first (is_none highest) (confirms kind image_ok);
}

-- A swap of n sectors that was cut, with this highest entry: it panics unless the sectors fit and the entry is one of its.
abbrev pub resumed_swap : Grain → Geometry → Flag → Option ℕ → SwapType → ℕ → Plan
resumed_swap c g image_ok highest kind n =
    if n == 0 || nat_lt (greatest_sectors g) n then nothing kinds.Panic
    else resumed_from c g image_ok highest kind n (first_left g n highest)

-- A swap that was cut, by the primary's trailer.
abbrev pub resumed_plan : Grain → Geometry → Trailer → Option ℕ → Plan
resumed_plan c g primary highest =
    let n = div_ceil primary.swap_size g.sector in
    if primary.swap_info == 2 then resumed_swap c g primary.image_ok highest kinds.Test n
    else if primary.swap_info == 3 then resumed_swap c g primary.image_ok highest kinds.Perm n
    else if primary.swap_info == 4 then resumed_swap c g primary.image_ok highest kinds.Revert n
    else nothing kinds.None

-- The plan of a boot, where that is asked of the images.
unfoldable pub plan_with : Rules → Geometry → Images → Content → Plan
plan_with r g images s =
    if is_resumed r.profile g s then resumed_plan r.grain g (trailer_of g s Primary) (highest_entry g s)
    else new_plan r.grain g images (table_of r.profile g s)

-- The plan of a boot from a flash.
unfoldable pub plan : PowerOn → Plan
plan x = plan_with x.rules x.geometry (images_of x.content) x.content

-- Whole calls, by the first profile.
abbrev pub plain : Rules
plain = record { grain = grains.Call; profile = profiles.One }
