-- The largest image that fits a layout. What follows is proved here, so that the crates above can cite it.
use Rattle.std.specs.{Prelude.{◌≡◌, ◌↔◌, ℕ, ◌+◌, ◌*◌, ◌^◌, ◌<◌, ◌≤◌, ℤ, pos, int_le, true}, Int.{div_ceil}}
use Rattle.std.proofs.{Common.{arith, ap, ◌∙◌, inl, inr}, lemmas.Bool.{cases_lt}, lemmas.Bool.Decides.{nat_tests}, lemmas.Grind.{div_ceil_times}}
use Rattle.std.proofs.Math.Nat.{mul-le-mul_right}
use Rattle.mc_flash.specs.{facts.Layouts.{fits_few, greatest_is}, Geometry.{Geometry, IsLayout, fits, greatest_sectors}}

-- The bytes of the sectors that an image may have at most.
abbrev pub largest_image : Geometry → ℕ
largest_image g = greatest_sectors g * g.sector

-- So many whole sectors hold just the bytes that take no more sectors.
few_rows : (size sector n : ℕ) → 0 < sector → (div_ceil size sector ≤ n) ↔ (size ≤ n * sector)
few_rows size sector n some = (to, from)
  where
    rows : (size ≤ div_ceil size sector * sector) × (div_ceil size sector * sector < size + sector)
    rows = div_ceil_times size sector some

    to : div_ceil size sector ≤ n → size ≤ n * sector
    to at_most = let more : div_ceil size sector * sector ≤ n * sector = mul-le-mul_right sector at_most in omega (arith, more, rows)

    from : size ≤ n * sector → div_ceil size sector ≤ n
    from inside = elim (cases_lt n (div_ceil size sector)) [
      | inl above ↦ let more : (n + 1) * sector ≤ div_ceil size sector * sector = mul-le-mul_right sector (omega (arith, above)) in absurd (omega (arith, more, rows, inside))
      | inr at_most ↦ omega (arith, at_most)
    ]

-- An image fits exactly where it has no more bytes than the largest.
pub fits_largest : (g : Geometry) (size : ℕ) → IsLayout g → (fits g size ≡ true) ↔ (size ≤ largest_image g)
fits_largest g size ok =
    let wide = ok.least_sector in
    let rows = few_rows size g.sector (greatest_sectors g) (omega (arith, wide)) in
    let greatest = greatest_is g ok in (
      λ fit. rows.0 (fits_few g size ok fit),
      λ inside. ap (λ (z : ℤ). int_le (pos (div_ceil size g.sector)) z) greatest ∙ is_at_most (div_ceil size g.sector) (greatest_sectors g) (rows.1 inside),
    )
  where
    is_at_most : (a b : ℕ) → a ≤ b → int_le (pos a) (pos b) ≡ true
    is_at_most a b at_most = grind (arith, nat_tests)

-- It lies in the primary.
pub largest_inside : (g : Geometry) → IsLayout g → largest_image g ≤ 2 ^ 24
largest_inside g ok =
    let size = ok.size in
    let rows : greatest_sectors g * g.sector ≤ g.primary * g.sector = mul-le-mul_right g.sector (omega arith) in
    omega (arith, rows, size)
