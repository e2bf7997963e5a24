-- Counts over whole numbers, and limits that are never met.
use Rattle.std.proofs.{Common.{arith, false, min, pos, true, ℕ, ℤ, ◌*◌, ◌+◌, ◌-◌, ◌<◌, ◌≡◌, ◌≤◌}, Math.Nat.{mul-le-mul_right}, lemmas.Bool.Decides.{nat_tests}}
use Rattle.std.proofs.lemmas.Int.{clamps, ints}
use Rattle.std.specs.Prelude.{int_lt, suc, zero, ◌<ℤ◌, ◌==◌}
use Rattle.mc_flash.specs.{Geometry.{Geometry, count_beside}, Usage.{IsWithin, limits_for, most_operations, most_saved}, declared.flash.Grain.{Grain}}
use Rattle.mc_flash.specs.inner.Snap.{ample}
use Rattle.mc_flash.specs.declared.flash.Grain.TheVariants as grains

-- The greatest number of sectors, over whole numbers and cut off at 0.

below_one : (a : ℤ) → a <ℤ pos 1 → int_lt a (pos 1) ≡ true
below_one a h = grind (arith, ints)

not_below_one : (a : ℤ) (n : ℕ) → a ≡ pos n → 0 < n → int_lt a (pos 1) ≡ false
not_below_one a n e h = rw e (grind (arith, ints))

not_zero : (n : ℕ) → 0 < n → (n == 0) ≡ false
not_zero n some = grind (arith, nat_tests)

pub zero_or_positive : (t m p q n : ℕ) → n ≡ min (p - 1 - t) (min (q - t) m) → int_lt (count_beside t m p q) (pos 1) ≡ (n == 0)
zero_or_positive t m p q zero e = below_one (count_beside t m p q) (omega (arith, ints, clamps))
zero_or_positive t m p q (suc n) e = grind (arith, not_below_one, clamps, not_zero)

-- Limits that no number of boots meets.

pub ample_allows : (grain : Grain) (g : Geometry) (boots : ℕ) → boots ≤ 32 → IsWithin (limits_for grain g boots) (ample g)
unfolding limits_for ample
ample_allows grain g boots at_most = record {
  entries = enough grain;
  saved = mul-le-mul_right (most_saved g) at_most;
  checkpoints = omega arith;
}
  where
    enough : (grain : Grain) → boots * most_operations grain g ≤ 32 * (most_operations grains.Call g + most_operations grains.Unit g)
    enough grains.Call = let h : boots * most_operations grains.Call g ≤ 32 * most_operations grains.Call g = mul-le-mul_right (most_operations grains.Call g) at_most in
        more (boots * most_operations grains.Call g) (most_operations grains.Call g) (most_operations grains.Unit g) h
      where
        more : (z a b : ℕ) → z ≤ 32 * a → z ≤ 32 * (a + b)
        more z a b h = omega arith
    enough grains.Unit = let h : boots * most_operations grains.Unit g ≤ 32 * most_operations grains.Unit g = mul-le-mul_right (most_operations grains.Unit g) at_most in
        more (boots * most_operations grains.Unit g) (most_operations grains.Call g) (most_operations grains.Unit g) h
      where
        more : (z a b : ℕ) → z ≤ 32 * b → z ≤ 32 * (a + b)
        more z a b h = omega arith
