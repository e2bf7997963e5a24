-- Created bytes: what `create` makes of options and input (imgtool's documentation, `create`).
use Rattle.std.specs.Prelude.{ℕ, ◌+◌, ◌-◌, ◌*◌, ◌^◌, Bool, false, List, [], ◌∷◌, ◌++◌, length, take, drop, replicate, nat_lt, ◌==◌, ◌&&◌, ◌||◌, not, is_none, if◌then◌else◌, Option, None, Some, Result, Ok, Err}
use Rattle.std.specs.List.{list_all}
use Rattle.byteorder.specs.Endian.{little_bytes}
use Rattle.mc_image.specs.{Image.{Entry, Image, image_text}, Writing.{with_digest}}
use Rattle.mc_imgtool.specs.{declared.creation.CreateOptions.{CreateOptions}, declared.error.ToolError.{ToolError}}
use Rattle.mc_imgtool.specs.declared.error.ToolError.TheVariants.{NotZeros, SlotTooSmall, NeedsSlotSize, InputTooLong}

-- the image is to fill its slot; `confirm` implies it
abbrev pub fills_slot : CreateOptions → Bool
fills_slot o = o.pad || o.confirm

-- the slot is to be filled, and its size is not given
abbrev pub needs_slot_size : CreateOptions → Bool
needs_slot_size o = fills_slot o && is_none o.slot_size

-- the input does not begin with zeros in the header's place, where it has to
unfoldable pub lacks_zeros : CreateOptions → List ℕ → Bool
lacks_zeros o input = not o.pad_header && (nat_lt (length input) o.header_size || not (list_all (λ b. b == 0) (take o.header_size input)))

-- what is taken of an input as the payload
unfoldable pub payload_in : CreateOptions → List ℕ → List ℕ
payload_in o input = if o.pad_header then input else drop o.header_size input

-- the entries of the protected area: the security counter, where there is one (type 0x50, four bytes)
abbrev pub counter_area : Option ℕ → Option (List Entry)
counter_area None = None
counter_area (Some counter) = Some (record { kind = 0x50; value = little_bytes 4 counter } ∷ [])

-- the image of a payload, without the digest
unfoldable pub bare_image : CreateOptions → List ℕ → Image
bare_image o payload = record { load = 0; version = o.version; padding = 0; rest = replicate (o.header_size - 32) 0; payload = payload; protected = counter_area o.security_counter; plain = [] }

-- the bytes of an image trailer (MCUboot's design document, image trailer): three status entries of a write unit for
-- each sector, and 48 bytes of fields
abbrev pub trailer_len : CreateOptions → ℕ
trailer_len o = 3 * o.max_sectors * o.align + 48

-- a slot of this size has no room for the image and a trailer
abbrev pub is_too_small : CreateOptions → ℕ → Option ℕ → Bool
is_too_small o size None = false
is_too_small o size (Some slot) = nat_lt slot (size + trailer_len o)

-- the magic that ends a slot (MCUboot's design document, image trailer)
abbrev pub trailer_magic : List ℕ
trailer_magic = 0x77 ∷ 0xc2 ∷ 0x95 ∷ 0xf3 ∷ 0x60 ∷ 0xd2 ∷ 0xef ∷ 0x7f ∷ 0x35 ∷ 0x52 ∷ 0x50 ∷ 0x0f ∷ 0x2c ∷ 0xb6 ∷ 0x79 ∷ 0x80 ∷ []

-- the last 24 bytes of a slot: the flag that confirms the image, and the magic
abbrev pub slot_end : Bool → List ℕ
slot_end confirm = (if confirm then 1 else 255) ∷ (replicate 7 255 ++ trailer_magic)

-- a slot that begins with an image
abbrev pub filled_slot : ℕ → Bool → List ℕ → List ℕ
filled_slot slot confirm image = image ++ (replicate (slot - 24 - length image) 255 ++ slot_end confirm)

-- the image, in its slot where that is to be filled
abbrev pub in_slot : CreateOptions → List ℕ → Option ℕ → List ℕ
in_slot o image None = image
in_slot o image (Some slot) = if fills_slot o then filled_slot slot o.confirm image else image

-- the image where its slot has room for it
unfoldable pub slotted : CreateOptions → List ℕ → Result (List ℕ) ToolError
slotted o image = if is_too_small o (length image) o.slot_size then Err SlotTooSmall else Ok (in_slot o image o.slot_size)

-- what is wanted of `create` for an input
unfoldable pub created : CreateOptions → List ℕ → Result (List ℕ) ToolError
created o input =
    if needs_slot_size o then Err NeedsSlotSize
    else if nat_lt (2 ^ 24) (length input) then Err InputTooLong
    else if lacks_zeros o input then Err NotZeros
    else slotted o (image_text (with_digest (bare_image o (payload_in o input))))
