-- The layout of two slots, from MCUboot's design document ("image trailer", "image swap without scratch"): the trailer
-- of a slot, and how many sectors of an image can be swapped by moving. Which numbers make a layout, and in which order
-- they are judged, is this project's own choice.
use Rattle.std.specs.Prelude.{◌≡◌, ◌⊎◌, ℕ, ◌+◌, ◌-◌, ◌*◌, ◌%◌, ◌^◌, ◌<◌, ◌≤◌, min, ℤ, pos, ◌-ℤ◌, int_le, int_lt, Bool, true, not, ◌||◌, ◌&&◌, ◌==◌, nat_lt, nat_le, if◌then◌else◌, Option, Some, None}
use Rattle.std.specs.Int.{div_ceil, int_min, is_power_of_two}
use Rattle.mc_flash.specs.declared.layout.LayoutError.{LayoutError}
use Rattle.mc_flash.specs.declared.layout.LayoutError.TheVariants as refusals
use Rattle.mc_flash.specs.declared.flash.Grain.{Grain}
use Rattle.mc_flash.specs.declared.flash.Grain.TheVariants as grains

-- The six numbers of a layout: the bytes of a sector, of a write unit and of a chunk of a copy; the most sectors that an
-- image may have; and how many sectors each slot has.
pub record Geometry : Type 0 where
  pub sector : ℕ
  pub unit : ℕ
  pub max_sectors : ℕ
  pub chunk : ℕ
  pub primary : ℕ
  pub secondary : ℕ

-- The geometry of six numbers, in the order of its fields.
abbrev pub of_numbers : ℕ → ℕ → ℕ → ℕ → ℕ → ℕ → Geometry
of_numbers sector unit max_sectors chunk primary secondary = record {
  sector = sector;
  unit = unit;
  max_sectors = max_sectors;
  chunk = chunk;
  primary = primary;
  secondary = secondary;
}

-- The trailer at the end of a slot: three status entries of one unit for each sector of an image, and 48 bytes of fields.
abbrev pub trailer_bytes : Geometry → ℕ
trailer_bytes g = 3 * g.max_sectors * g.unit + 48

-- The sectors that a slot's trailer takes.
abbrev pub trailer_sectors : Geometry → ℕ
trailer_sectors g = div_ceil (trailer_bytes g) g.sector

-- The most sectors of an image that can be swapped, over whole numbers that may be negative. The primary keeps one sector
-- free besides its trailer, into which the image moves up.
abbrev pub count_beside : ℕ → ℕ → ℕ → ℕ → ℤ
count_beside trailer max_sectors primary secondary =
    int_min (pos primary -ℤ pos 1 -ℤ pos trailer) (int_min (pos secondary -ℤ pos trailer) (pos max_sectors))

abbrev pub greatest_count : Geometry → ℤ
greatest_count g = count_beside (trailer_sectors g) g.max_sectors g.primary g.secondary

-- The same number where it is not negative, and 0 where it is.
abbrev pub greatest_sectors : Geometry → ℕ
greatest_sectors g = min (g.primary - 1 - trailer_sectors g) (min (g.secondary - trailer_sectors g) g.max_sectors)

-- An image of that many bytes fits: it has at most the greatest number of sectors.
abbrev pub fits : Geometry → ℕ → Bool
fits g size = int_le (pos (div_ceil size g.sector)) (greatest_count g)

-- What makes six numbers a layout.
pub record IsLayout (g : Geometry) : Type 0 where
  pub unit : (g.unit ≡ 1) ⊎ (g.unit ≡ 2) ⊎ (g.unit ≡ 4) ⊎ (g.unit ≡ 8)
  pub least_sector : 64 ≤ g.sector
  pub greatest_sector : g.sector ≤ 65536
  pub sector : is_power_of_two g.sector ≡ true
  pub some_chunk : 0 < g.chunk
  pub chunk_units : g.chunk % g.unit ≡ 0
  pub sector_chunks : g.sector % g.chunk ≡ 0
  pub some_sectors : 0 < g.max_sectors
  pub few_sectors : g.max_sectors ≤ 1024
  pub some_secondary : 0 < g.secondary
  pub counts : (g.primary ≡ g.secondary) ⊎ (g.primary ≡ g.secondary + 1)
  pub size : g.primary * g.sector ≤ 2 ^ 24
  pub room : 0 < greatest_sectors g

abbrev pub is_unit : ℕ → Bool
is_unit n = n == 1 || n == 2 || n == 4 || n == 8

abbrev pub is_sector : ℕ → Bool
is_sector n = nat_le 64 n && nat_le n 65536 && is_power_of_two n

-- Whole units, and a whole number of chunks in a sector.
abbrev pub is_chunk : Geometry → Bool
is_chunk g = nat_lt 0 g.chunk && g.chunk % g.unit == 0 && g.sector % g.chunk == 0

-- 1 to 1,024 sectors of an image; as many sectors in the primary as in the secondary, or one more; and slots of at most
-- 2^24 bytes.
abbrev pub are_counts : Geometry → Bool
are_counts g = nat_le 1 g.max_sectors && nat_le g.max_sectors 1024 && nat_lt 0 g.secondary
    && (g.primary == g.secondary || g.primary == g.secondary + 1)
    && nat_le (g.primary * g.sector) (2 ^ 24)

-- The first refusal whose condition holds of six numbers, or none.
abbrev pub refusal_of : Geometry → Option LayoutError
refusal_of g =
    if not (is_unit g.unit) then Some refusals.Unit
    else if not (is_sector g.sector) then Some refusals.Sector
    else if not (is_chunk g) then Some refusals.Chunk
    else if not (are_counts g) then Some refusals.Counts
    else if int_lt (greatest_count g) (pos 1) then Some refusals.NoRoom
    else None

-- Where each unit happens by itself, a sector is copied in units: the chunk is one unit.
abbrev pub in_pieces : Grain → Geometry → Geometry
in_pieces grains.Call g = g
in_pieces grains.Unit g = record { sector = g.sector; unit = g.unit; max_sectors = g.max_sectors; chunk = g.unit; primary = g.primary; secondary = g.secondary }
