use Rattle.std.proofs.{Common.{◌≡◌, ◌^◌, ◌≤◌, ℕ, List, take, length, arith}, lemmas.List.{length-take, take_all}}
use Rattle.mc_flash.specs.{Flash.{size_of}, Geometry.{Geometry, IsLayout}, declared.op.Slot.{Slot}}
use Rattle.mc_boot.proofs.Courses.{slot_small}
use Rattle.mc_boot.proofs.image.slot_bytes.Goals as goal

-- all bytes of a slot are as many as its layout says
all : (g l : Geometry) (slot : Slot) (xs : List ℕ) (n : ℕ) → l ≡ g → n ≡ size_of l slot → length xs ≡ size_of g slot → take n xs ≡ xs
all g l slot xs n same is len = let size : n ≡ size_of g slot = rw same at is in take_all n xs (omega (arith, size, len))

at_most : (l : Geometry) (slot : Slot) (xs : List ℕ) (n : ℕ) → IsLayout l → n ≡ size_of l slot → length (take n xs) ≤ 2 ^ 24
at_most l slot xs n ok is = let small = slot_small l slot ok in omega (arith, length-take n xs, is, small)

pub returns-clause-value : goal.returns-clause-value
returns-clause-value g c = grind (arith, all)
