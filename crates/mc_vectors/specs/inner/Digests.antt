-- The digests of a slot's sectors, as they are kept.
use Rattle.std.specs.Prelude.{List, length, ℕ, ◌*◌, ◌≡◌}
use Rattle.mc_vectors.specs.{Cases.{sector_digests}, declared.digests.Digests.{Digests}, declared.digests.SlotDigests.{SlotDigests}}

-- Bytes of whole sectors.
abbrev pub IsWhole : ℕ → List ℕ → Type 0
IsWhole size bytes = (count : ℕ) × (length bytes ≡ count * size)

-- They are those of the bytes that are kept.
pub record AreDigests (size : ℕ) (s : SlotDigests) : Type 0 where
  pub length_is : length s.bytes.items ≡ length s.digests.items * size
  pub digests_are : s.digests.items ≡ sector_digests size s.bytes.items

-- So it is of both slots.
pub record AreOfFlash (size : ℕ) (d : Digests) : Type 0 where
  pub primary : AreDigests size d.primary
  pub secondary : AreDigests size d.secondary
