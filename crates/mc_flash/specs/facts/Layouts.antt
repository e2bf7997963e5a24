-- What follows from the facts of a layout: where the trailer lies, what is a whole number of units, and which sectors hold
-- data. Proved here, so that the crates above can cite it.
use Rattle.std.specs.{Prelude.{◌≡◌, ℕ, ◌+◌, ◌-◌, ◌*◌, ◌/◌, ◌%◌, ◌<◌, ◌≤◌, min, ℤ, pos, int_le, true}, Int.{div_ceil}}
use Rattle.std.proofs.{Common.{arith, sym, ap, ◌∙◌}, lemmas.Bool.{leb-true}, lemmas.Int.{ints, clamps}, lemmas.Grind.{div_ceil_times}}
use Rattle.std.proofs.Math.Nat.{mul-le-mul_right, dvd_of_mod-eq-zero, dvd-add, dvd-sub, dvd-mul_left_of_dvd, dvd-mul_left, dvd_trans, mod-add-div'}
use Rattle.std.proofs.lemmas.Nat.Gcd.{mod-eq-zero_of_dvd}
use Rattle.mc_flash.specs.Geometry.{Geometry, IsLayout, trailer_bytes, trailer_sectors, count_beside, greatest_count, greatest_sectors, fits}
use Rattle.mc_flash.specs.{Flash.{sectors_of, size_of}, declared.op.Slot.{Slot}, declared.op.Slot.TheVariants.{Primary, Secondary}}

-- the trailer lies in its sectors
pub trailer_covered : (g : Geometry) → IsLayout g → trailer_bytes g ≤ trailer_sectors g * g.sector
trailer_covered g ok = (div_ceil_times (trailer_bytes g) g.sector (omega (arith, ok.least_sector))).0

-- and leaves a sector of each slot
pub trailer_leaves_one : (g : Geometry) (slot : Slot) → IsLayout g → trailer_sectors g + 1 ≤ sectors_of g slot
trailer_leaves_one g Primary ok = let room = ok.room in omega arith
trailer_leaves_one g Secondary ok = let room = ok.room in omega arith

pub trailer_inside : (g : Geometry) (slot : Slot) → IsLayout g → trailer_bytes g ≤ size_of g slot
trailer_inside g slot ok = grind (arith, trailer_covered, trailer_leaves_one, mul-le-mul_right)

-- Whole units.
abbrev pub IsWhole : Geometry → ℕ → Type 0
IsWhole g n = n % g.unit ≡ 0

pub whole_add : (g : Geometry) (a b : ℕ) → IsWhole g a → IsWhole g b → IsWhole g (a + b)
whole_add g a b p q = mod-eq-zero_of_dvd g.unit (dvd-add g.unit (dvd_of_mod-eq-zero g.unit p) (dvd_of_mod-eq-zero g.unit q))

pub whole_sub : (g : Geometry) (a b : ℕ) → IsWhole g a → IsWhole g b → IsWhole g (a - b)
whole_sub g a b p q = mod-eq-zero_of_dvd g.unit (dvd-sub g.unit (dvd_of_mod-eq-zero g.unit p) (dvd_of_mod-eq-zero g.unit q))

pub whole_times : (g : Geometry) (c a : ℕ) → IsWhole g a → IsWhole g (c * a)
whole_times g c a p = mod-eq-zero_of_dvd g.unit (dvd-mul_left_of_dvd g.unit (dvd_of_mod-eq-zero g.unit p) c)

pub whole_units : (g : Geometry) (c : ℕ) → IsWhole g (c * g.unit)
whole_units g c = mod-eq-zero_of_dvd g.unit (dvd-mul_left g.unit c)

pub whole_eight : (g : Geometry) → IsLayout g → IsWhole g 8
whole_eight g ok = grind arith

pub whole_eights : (g : Geometry) (c : ℕ) → IsLayout g → IsWhole g (c * 8)
whole_eights g c ok = whole_times g c 8 (whole_eight g ok)

pub whole_sector : (g : Geometry) → IsLayout g → IsWhole g g.sector
whole_sector g ok = mod-eq-zero_of_dvd g.unit (dvd_trans g.unit (dvd_of_mod-eq-zero g.unit ok.chunk_units) (dvd_of_mod-eq-zero g.chunk ok.sector_chunks))

pub whole_size : (g : Geometry) (slot : Slot) → IsLayout g → IsWhole g (size_of g slot)
whole_size g slot ok = whole_times g (sectors_of g slot) g.sector (whole_sector g ok)

-- the chunks of a sector
pub chunks_cover : (g : Geometry) → IsLayout g → g.sector / g.chunk * g.chunk ≡ g.sector
chunks_cover g ok = let h = ok.sector_chunks in let e = mod-add-div' g.sector g.chunk in omega (arith, h, e)

pub small_unit : (g : Geometry) → IsLayout g → (0 < g.unit) × (g.unit ≤ 8)
small_unit g ok = grind arith

-- The sectors of a slot that hold no trailer, and where they end.
abbrev pub data_sectors : Geometry → Slot → ℕ
data_sectors g slot = sectors_of g slot - trailer_sectors g

abbrev pub data_end : Geometry → Slot → ℕ
data_end g slot = data_sectors g slot * g.sector

-- the data sectors and the trailer lie one after another in the slot
pub data_before_trailer : (g : Geometry) (slot : Slot) → IsLayout g → data_end g slot + trailer_bytes g ≤ size_of g slot
data_before_trailer g slot ok = with_count (data_sectors g slot) (let leaves = trailer_leaves_one g slot ok in omega arith)
  where
    with_count : (d : ℕ) → sectors_of g slot ≡ d + trailer_sectors g → d * g.sector + trailer_bytes g ≤ size_of g slot
    with_count d e =
        let covered = trailer_covered g ok in
        let rows : sectors_of g slot * g.sector ≡ (d + trailer_sectors g) * g.sector = ap (λ n. n * g.sector) e in
        omega (arith, rows, covered)

-- a sector of a slot ends in the slot
pub sector_inside : (g : Geometry) (slot : Slot) (i : ℕ) → i < sectors_of g slot → i * g.sector + g.sector ≤ size_of g slot
sector_inside g slot i below =
    let rows : (i + 1) * g.sector ≤ sectors_of g slot * g.sector = mul-le-mul_right g.sector (omega arith) in
    with_end (size_of g slot) rows
  where
    with_end : (z : ℕ) → (i + 1) * g.sector ≤ z → i * g.sector + g.sector ≤ z
    with_end z h = omega arith

-- a sector that is no data sector begins after them
pub trailer_sector_beyond_data : (g : Geometry) (slot : Slot) (i : ℕ) → data_sectors g slot ≤ i → data_end g slot ≤ i * g.sector
trailer_sector_beyond_data g slot i above = mul-le-mul_right g.sector above

-- the sectors of an image are data in both slots, and the primary has one more
pub image_is_data : (g : Geometry) (slot : Slot) (n : ℕ) → n ≤ greatest_sectors g → n ≤ data_sectors g slot
image_is_data g Primary n at_most = omega arith
image_is_data g Secondary n at_most = omega arith

-- the two greatest numbers of sectors are one for a layout
counted_down : (p q t m : ℕ) → 0 < min (p - 1 - t) (min (q - t) m) → count_beside t m p q ≡ pos (min (p - 1 - t) (min (q - t) m))
counted_down p q t m some = omega (arith, ints, clamps)

pub greatest_is : (g : Geometry) → IsLayout g → greatest_count g ≡ pos (greatest_sectors g)
greatest_is g ok = counted_down g.primary g.secondary (trailer_sectors g) g.max_sectors ok.room

is_at_most : (a b : ℕ) (c : ℤ) → c ≡ pos b → int_le (pos a) c ≡ true → a ≤ b
is_at_most a b c e h = let k : int_le (pos a) (pos b) ≡ true = ap (λ (z : ℤ). int_le (pos a) z) (sym e) ∙ h in leb-true a b k

-- an image that fits has at most the greatest number of sectors, and lies before the trailer of each slot
pub fits_few : (g : Geometry) (size : ℕ) → IsLayout g → fits g size ≡ true → div_ceil size g.sector ≤ greatest_sectors g
fits_few g size ok h = is_at_most (div_ceil size g.sector) (greatest_sectors g) (greatest_count g) (greatest_is g ok) h

pub fits_before_trailer : (g : Geometry) (slot : Slot) (size : ℕ) → IsLayout g → fits g size ≡ true → size + trailer_bytes g ≤ size_of g slot
fits_before_trailer g slot size ok h =
    let covered = (div_ceil_times size g.sector (omega (arith, ok.least_sector))).0 in
    let rows : div_ceil size g.sector * g.sector ≤ data_sectors g slot * g.sector = mul-le-mul_right g.sector (image_is_data g slot (div_ceil size g.sector) (fits_few g size ok h)) in
    omega (arith, covered, rows, data_before_trailer g slot ok)

pub fits_inside : (g : Geometry) (slot : Slot) (size : ℕ) → IsLayout g → fits g size ≡ true → size ≤ size_of g slot
fits_inside g slot size ok h = let before = fits_before_trailer g slot size ok h in omega (arith, before)
