-- Copies one after another, which one operation can do.
use Rattle.std.specs.Prelude.{List, Some, slice_get, ℕ, ◌*◌, ◌+◌, ◌<◌, ◌≡◌, ◌≤◌}
use Rattle.mc_boot.specs.declared.transfer.Copies.{Copies}
use Rattle.mc_flash.specs.{declared.op.Op.{Op}, declared.op.Op.TheVariants.{Copy}}

-- One of them; and the copy that does what the first so many do.
abbrev pub copy_at : Copies → ℕ → Op
copy_at c j = Copy c.from (c.at + j * c.len) c.to (c.offset + j * c.len) c.len

abbrev pub whole_copy : Copies → ℕ → Op
whole_copy c count = Copy c.from c.at c.to c.offset (count * c.len)

-- They stand in a list from that number on, and are at most so many.
pub record AreCopies (ops : List Op) (index most : ℕ) (c : Copies) : Type 0 where
  pub each : (j : ℕ) → j < c.count → slice_get ops (index + j) ≡ Some (copy_at c j)
  pub some : 0 < c.count
  pub at_most : c.count ≤ most
