-- What follows for the places: the fields and the status entries lie in the slot, at whole units, after the data sectors,
-- and apart from one another. Proved here, so that the crates above can cite it.
use Rattle.std.specs.Prelude.{◌≡◌, ◌≢◌, ◌⊎◌, ℕ, ◌+◌, ◌-◌, ◌*◌, ◌%◌, ◌<◌, ◌≤◌, ◌==◌, if◌then◌else◌, length, refl}
use Rattle.std.proofs.{Common.{arith, ap, ◌∙◌, inl, inr}, lemmas.Bool.{cases_order}, lemmas.List.{length-replicate}, Math.Nat.{mul-le-mul_right, mod_self}}
use Rattle.mc_flash.specs.{Geometry.{Geometry, IsLayout, trailer_bytes}, Flash.{size_of, IsRange}}
use Rattle.mc_flash.specs.facts.Layouts.{trailer_inside, small_unit, data_end, data_before_trailer, whole_sub, whole_add, whole_size, whole_eights, whole_units}
use Rattle.mc_flash.specs.{declared.op.Slot.{Slot}, declared.op.Slot.TheVariants.{Primary}}
use Rattle.mc_trailer.specs.{Trailer.{room, place, entry_place, before_end, one_unit, size_bytes}, declared.places.Field.{Field}}
use Rattle.mc_trailer.specs.declared.places.Field.TheVariants as field

pub room_is : (f : Field) → ((before_end f ≡ 16) × (room f ≡ 16)) ⊎ ((24 ≤ before_end f) × (room f ≡ 8))
room_is it = grind arith

-- Each field begins a number of eights before the end.
eights : (f : Field) → (n : ℕ) × (before_end f ≡ n * 8) × (2 ≤ n) × (n ≤ 6)
eights field.Magic = (2, refl, omega arith, omega arith)
eights field.ImageOk = (3, refl, omega arith, omega arith)
eights field.CopyDone = (4, refl, omega arith, omega arith)
eights field.SwapInfo = (5, refl, omega arith, omega arith)
eights field.SwapSize = (6, refl, omega arith, omega arith)

pub most_before_end : (f : Field) → before_end f ≤ 48
most_before_end f = let e = eights f in omega (arith, e.1, e.3)

-- No two fields begin in one place.
field_at : ℕ → Field
field_at n =
    if n == 16 then field.Magic
    else if n == 24 then field.ImageOk
    else if n == 32 then field.CopyDone
    else if n == 40 then field.SwapInfo
    else field.SwapSize

found_at : (f : Field) → field_at (before_end f) ≡ f
unfolding field_at
found_at it = grind arith

-- Two fields are one, or the room of one ends before the other.
pub same_or_apart : (e f : Field) → (e ≡ f) ⊎ ((before_end f + room e ≤ before_end e) ⊎ (before_end e + room f ≤ before_end f))
same_or_apart e f = grind (arith, eights, cases_order, found_at, field_at, room_is)

pub place_inside : (g : Geometry) (slot : Slot) (f : Field) → IsLayout g → place g slot f + before_end f ≡ size_of g slot
place_inside g slot f ok = let inside = trailer_inside g slot ok in let most = most_before_end f in omega arith

pub field_ends : (g : Geometry) (slot : Slot) (f : Field) → IsLayout g → place g slot f + room f ≤ size_of g slot
field_ends g slot f ok = omega (arith, place_inside g slot f ok, room_is f)

pub fields_apart : (g : Geometry) (slot : Slot) (e f : Field) → IsLayout g → e ≢ f → (place g slot e + room e ≤ place g slot f) ⊎ (place g slot f + room f ≤ place g slot e)
fields_apart g slot e f ok other = grind (arith, same_or_apart, place_inside)

-- entry e begins e units after the first
pub entry_inside : (g : Geometry) (e : ℕ) → IsLayout g → e < 3 * g.max_sectors → entry_place g e + (48 + 3 * g.max_sectors * g.unit) ≡ size_of g Primary + e * g.unit
entry_inside g e ok below = grind (arith, trailer_inside, mul-le-mul_right)

pub entry_ends : (g : Geometry) (e : ℕ) → IsLayout g → e < 3 * g.max_sectors → entry_place g e + g.unit + 48 ≤ size_of g Primary
entry_ends g e ok below = grind (arith, entry_inside, mul-le-mul_right)

-- So many entries from one on lie in the slot, and each is a unit after the one before.
pub group_inside : (g : Geometry) (first count : ℕ) → IsLayout g → 0 < count → first + count ≤ 3 * g.max_sectors → entry_place g first + count * g.unit + 48 ≤ size_of g Primary
group_inside g first count ok some below = grind (arith, entry_inside, mul-le-mul_right)

pub entry_beyond : (g : Geometry) (first k : ℕ) → IsLayout g → first + k < 3 * g.max_sectors → entry_place g (first + k) ≡ entry_place g first + k * g.unit
entry_beyond g first k ok below = grind (arith, entry_inside)

pub entries_apart : (g : Geometry) (d e : ℕ) → IsLayout g → d < e → e < 3 * g.max_sectors → entry_place g d + g.unit ≤ entry_place g e
entries_apart g d e ok before below =
    let row : (d + 1) * g.unit ≤ e * g.unit = mul-le-mul_right g.unit (omega arith) in
    along (entry_place g d) (entry_place g e) (size_of g Primary) (3 * g.max_sectors * g.unit) row (entry_inside g d ok (omega arith)) (entry_inside g e ok below)
  where
    along : (p q size rest : ℕ) → (d + 1) * g.unit ≤ e * g.unit → p + (48 + rest) ≡ size + d * g.unit → q + (48 + rest) ≡ size + e * g.unit → p + g.unit ≤ q
    along p q size rest row at_p at_q = omega arith

-- Fields and entries lie after the data sectors.
pub field_beyond_data : (g : Geometry) (slot : Slot) (f : Field) → IsLayout g → data_end g slot + 3 * g.max_sectors * g.unit ≤ place g slot f
field_beyond_data g slot f ok = from (data_end g slot) (data_before_trailer g slot ok)
  where
    from : (d : ℕ) → d + trailer_bytes g ≤ size_of g slot → d + 3 * g.max_sectors * g.unit ≤ place g slot f
    from d before = omega (arith, before, place_inside g slot f ok, most_before_end f)

pub place_aligned : (g : Geometry) (slot : Slot) (f : Field) → IsLayout g → place g slot f % g.unit ≡ 0
place_aligned g slot f ok = grind (arith, eights, whole_sub, whole_size, whole_eights)

pub entry_aligned : (g : Geometry) (e : ℕ) → IsLayout g → entry_place g e % g.unit ≡ 0
entry_aligned g e ok =
    whole_sub g (size_of g Primary) (48 + 3 * g.max_sectors * g.unit - e * g.unit) (whole_size g Primary ok)
    (whole_sub g (48 + 3 * g.max_sectors * g.unit) (e * g.unit)
    (whole_add g 48 (3 * g.max_sectors * g.unit) (whole_eights g 6 ok) (whole_units g (3 * g.max_sectors)))
    (whole_units g e))

-- What is written for a flag or an entry is one unit, and for swap-size 4 bytes or one unit: whole units that fit a field.
pub one_unit_len : (g : Geometry) (value : ℕ) → IsLayout g → length (one_unit g value) ≡ g.unit
one_unit_len g value ok = let small = small_unit g ok in omega (arith, length-replicate {A = ℕ} (g.unit - 1) 255)

pub one_unit_whole : (g : Geometry) (value : ℕ) → IsLayout g → length (one_unit g value) % g.unit ≡ 0
one_unit_whole g value ok = ap (λ n. n % g.unit) (one_unit_len g value ok) ∙ mod_self g.unit

pub one_unit_fits : (g : Geometry) (value : ℕ) (f : Field) → IsLayout g → length (one_unit g value) ≤ room f
one_unit_fits g value f ok = let small = small_unit g ok in omega (arith, one_unit_len g value ok, room_is f)

pub size_bytes_len : (g : Geometry) (size : ℕ) → length (size_bytes g size) ≡ 4 + (g.unit - 4)
size_bytes_len g size = omega (arith, length-replicate {A = ℕ} (g.unit - 4) 255)

pub size_bytes_whole : (g : Geometry) (size : ℕ) → IsLayout g → length (size_bytes g size) % g.unit ≡ 0
size_bytes_whole g size ok = whole ok.unit
  where
    whole : (g.unit ≡ 1) ⊎ (g.unit ≡ 2) ⊎ (g.unit ≡ 4) ⊎ (g.unit ≡ 8) → length (size_bytes g size) % g.unit ≡ 0
    whole (inl one) = rw one refl
    whole (inr (inl two)) = rw two refl
    whole (inr (inr (inl four))) = rw four refl
    whole (inr (inr (inr eight))) = rw eight refl

pub size_bytes_fit : (g : Geometry) (size : ℕ) → IsLayout g → length (size_bytes g size) ≤ room field.SwapSize
size_bytes_fit g size ok = let small = small_unit g ok in omega (arith, size_bytes_len g size)

-- These writes are whole units inside the slot.
pub field_range : (g : Geometry) (slot : Slot) (f : Field) (n : ℕ) → IsLayout g → n ≤ room f → n % g.unit ≡ 0 → 0 < n → IsRange g slot (place g slot f) n
field_range g slot f n ok short whole some = grind (arith, field_ends, place_aligned, whole)

pub flag_range : (g : Geometry) (slot : Slot) (f : Field) (value : ℕ) → IsLayout g → IsRange g slot (place g slot f) (length (one_unit g value))
flag_range g slot f value ok = field_range g slot f (length (one_unit g value)) ok (one_unit_fits g value f ok) (one_unit_whole g value ok) (omega arith)

pub magic_range : (g : Geometry) (slot : Slot) → IsLayout g → IsRange g slot (place g slot field.Magic) 16
magic_range g slot ok = field_range g slot field.Magic 16 ok (omega arith) (whole_eights g 2 ok) (omega arith)

pub entry_range : (g : Geometry) (e value : ℕ) → IsLayout g → e < 3 * g.max_sectors → IsRange g Primary (entry_place g e) (length (one_unit g value))
entry_range g e value ok below = grind (arith, one_unit_len, entry_ends, entry_aligned, one_unit_whole)
