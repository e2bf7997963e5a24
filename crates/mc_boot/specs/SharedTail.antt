-- Where the flashes after a power cut lie among those of the boot that was cut.
use Rattle.std.specs.Prelude.{◌≡◌, ℕ, ◌+◌, ◌<◌, ◌≤◌, nat_le, max, if◌then◌else◌, length}
use Rattle.mc_flash.specs.Flash.{Content}
use Rattle.mc_boot.specs.{Outcome.{at, left_by, ops_of}, declared.shared_tail.SharedTail.{SharedTail}, Plan.{PowerOn, again}}

-- After how many operations of the boot that was cut the flash was what it is after that number of the next one. After the erases
-- that the next one begins with it makes the same operations. Among them: those that were made already change nothing, where the
-- power was lost before their end; after their end it is that all are but one.
abbrev pub index_in_parent : SharedTail → ℕ → ℕ
index_in_parent x i =
    if nat_le x.erases i then x.kept + i
    else if nat_le x.done (x.kept + x.erases) then max x.done (x.kept + i)
    else if nat_le i x.only then x.done else x.kept + x.erases

-- The next boot makes so many operations fewer, all its erases happen, and what it leaves after each number of operations the boot
-- that was cut had left, or would have. Both leave the same at their end.
pub record IsSharedTail (from : PowerOn) (u : Content) (x : SharedTail) : Type 0 where
  pub width : length (ops_of (again from u)) + x.kept ≡ length (ops_of from)
  pub at_most : x.erases ≤ length (ops_of (again from u))
  pub same : (i : ℕ) → i < length (ops_of (again from u)) → at (again from u) i ≡ at from (index_in_parent x i)
  pub within : (i : ℕ) → i < length (ops_of (again from u)) → index_in_parent x i < length (ops_of from)
  pub left : left_by (again from u) ≡ left_by from

-- Each of the flashes stands so many further on.
pub record IsMovedBy (others : ℕ) (x y : SharedTail) : Type 0 where
  pub kept_is : y.kept ≡ x.kept + others
  pub erases_is : y.erases ≡ x.erases
  pub index_is : (i : ℕ) → index_in_parent y i ≡ index_in_parent x i + others
