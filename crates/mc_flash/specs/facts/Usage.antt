-- How much a boot does at most, in numbers. Proved here, so that the crates above can cite it.
use Rattle.std.specs.{Prelude.{◌≡◌, ℕ, ◌+◌, ◌*◌, ◌/◌, ◌<◌, ◌≤◌, ◌⊎◌}, Int.{div_ceil}}
use Rattle.std.proofs.{Common.{arith}, Math.Nat.{mul-le-mul_left, mul-le-mul_right, mod-add-div'}}
use Rattle.mc_flash.specs.{Geometry.{Geometry, IsLayout, trailer_sectors, greatest_sectors}, facts.Layouts.{trailer_leaves_one, small_unit}}
use Rattle.mc_flash.specs.{Usage.{most_operations, most_saved}, declared.flash.Grain.{Grain}}
use Rattle.mc_flash.specs.declared.flash.Grain.TheVariants as grains
use Rattle.mc_flash.specs.declared.op.Slot.TheVariants.{Primary}

pub few_trailer_sectors : (g : Geometry) → IsLayout g → trailer_sectors g ≤ 262144
few_trailer_sectors g ok = grind arith

pub few_sectors : (g : Geometry) → IsLayout g → greatest_sectors g ≤ 1024
few_sectors g ok = let most = ok.few_sectors in omega (arith, most)

-- a sector has no more pieces than bytes
few_parts : (q part whole : ℕ) → q * part ≤ whole → 0 < part → whole ≤ 65536 → q ≤ 65536
few_parts q part whole covers some small = let more : q * 1 ≤ q * part = mul-le-mul_left q some in omega (arith, more, covers, small)

parts_inside : (whole part : ℕ) → whole / part * part ≤ whole
parts_inside whole part = omega (arith, mod-add-div' whole part)

pub few_chunks : (g : Geometry) → IsLayout g → g.sector / g.chunk ≤ 65536
few_chunks g ok = few_parts (g.sector / g.chunk) g.chunk g.sector (parts_inside g.sector g.chunk) ok.some_chunk ok.greatest_sector

pub few_units : (g : Geometry) → IsLayout g → g.sector / g.unit ≤ 65536
few_units g ok = few_parts (g.sector / g.unit) g.unit g.sector (parts_inside g.sector g.unit) (small_unit g ok).0 ok.greatest_sector

pub few_pieces : (n p : ℕ) → n ≤ 1024 → p ≤ 65536 → 3 * n * (p + 2) ≤ 201332736
few_pieces n p at_most small = grind arith

-- the writes of a size and of a magic
few_writes : (u : ℕ) → (u ≡ 1) ⊎ (u ≡ 2) ⊎ (u ≡ 4) ⊎ (u ≡ 8) → 2 * div_ceil 4 u + 32 / u ≤ 40
few_writes u is = grind arith

pub few_operations : (c : Grain) (g : Geometry) → IsLayout g → most_operations c g ≤ 204000000
few_operations grains.Call g ok = sum_of (trailer_sectors g) (3 * greatest_sectors g * (g.sector / g.chunk + 2)) (few_trailer_sectors g ok)
    (few_pieces (greatest_sectors g) (g.sector / g.chunk) (few_sectors g ok) (few_chunks g ok))
  where
    sum_of : (t z : ℕ) → t ≤ 262144 → z ≤ 201332736 → 3 * t + 9 + z ≤ 204000000
    sum_of t z a b = omega (arith, a, b)
few_operations grains.Unit g ok = sum_of (trailer_sectors g) (2 * div_ceil 4 g.unit) (32 / g.unit) (3 * greatest_sectors g * (g.sector / g.unit + 2)) (few_trailer_sectors g ok)
    (few_writes g.unit ok.unit) (few_pieces (greatest_sectors g) (g.sector / g.unit) (few_sectors g ok) (few_units g ok))
  where
    sum_of : (t d m z : ℕ) → t ≤ 262144 → d + m ≤ 40 → z ≤ 201332736 → 3 * t + 5 + d + m + z ≤ 204000000
    sum_of t d m z a b c = omega (arith, a, b, c)

-- the trailer and the image lie in the primary, and so the bytes that are saved are three slots of them at most
pub few_saved : (g : Geometry) → IsLayout g → most_saved g ≤ 50331648
few_saved g ok =
    let leaves = trailer_leaves_one g Primary ok in
    let size = ok.size in
    let rows : (3 * trailer_sectors g + 3 * greatest_sectors g) * g.sector ≤ (3 * g.primary) * g.sector = mul-le-mul_right g.sector (omega (arith, leaves)) in
    three g.primary g.sector ((3 * trailer_sectors g + 3 * greatest_sectors g) * g.sector) rows size
  where
    three : (p s z : ℕ) → z ≤ (3 * p) * s → p * s ≤ 16777216 → z ≤ 50331648
    three p s z a b = let e : (3 * p) * s ≡ 3 * (p * s) = omega arith in omega (arith, a, b, e)
