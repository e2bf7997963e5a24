-- The whole swap of the largest images for a test.
use Rattle.std.specs.{Prelude.{◌≡◌, ℕ, max, List, length, Some}, Int.{div_ceil}}
use Rattle.mc_flash.specs.{Flash.{Content}, Geometry.{Geometry, greatest_sectors, in_pieces}, Largest.{largest_image}, declared.flash.Grain.{Grain}}
use Rattle.mc_flash.specs.declared.op.Op.{Op}
use Rattle.mc_trailer.specs.declared.tables.Rules.{Rules}
use Rattle.mc_trailer.specs.declared.tables.SwapType.TheVariants as kinds
use Rattle.mc_boot.specs.{Plan.{new_list, image_size, power_on}, Restart.{BeginsImage, start_flash}, Outcome.{ops_of}}
use Rattle.mc_boot.specs.declared.kind.Kind.TheVariants as starts

-- Its operations.
abbrev pub largest_swap : Grain → Geometry → List Op
largest_swap c g = new_list c (in_pieces c g) kinds.Test (largest_image g) (greatest_sectors g)

abbrev pub swap_operations : Grain → Geometry → ℕ
swap_operations c g = length (largest_swap c g)

-- Two valid images fit, and the larger one takes as many sectors as an image may have.
pub record TakeMost (g : Geometry) (a b : List ℕ) : Type 0 where
  pub first : BeginsImage g a
  pub second : BeginsImage g b
  pub most : div_ceil (max (image_size a) (image_size b)) g.sector ≡ greatest_sectors g

-- So many operations happen in the boot that swaps such images for a test, by any profile.
abbrev pub MakesSwap : Grain → Geometry → ℕ → Type 0
MakesSwap c g n =
    (r : Rules) (a b : List ℕ) (s : Content) → r.grain ≡ c → TakeMost g a b → start_flash g starts.Test a b ≡ Some s
    → length (ops_of (power_on r g s)) ≡ n
