use Rattle.std.proofs.Common.{◌≡◌, ◌+◌, ◌*◌, ◌<◌, ◌≤◌, ℕ, Fits, w64, arith}
use Rattle.mc_flash.specs.{Flash.{sectors_of, size_of}, Geometry.{Geometry, IsLayout}, facts.Layouts.{sector_inside}}
use Rattle.mc_flash.specs.declared.op.Slot.{Slot}
use Rattle.mc_boot.proofs.Courses.{slot_small}
use Rattle.mc_boot.proofs.shared_tail.is_erased.Goals as goal

-- a sector lies in its slot
there : (g l : Geometry) (slot : Slot) (sector size : ℕ) → l ≡ g → IsLayout l → size ≡ l.sector → sector < sectors_of g slot
    → (Fits w64 (sector * size)) × (Fits w64 (sector * size + size)) × (sector * size + size ≤ size_of g slot)
there g l slot sector size same ok is below =
    let inside = sector_inside g slot sector below in
    let small = slot_small g slot (rw same at ok) in
    rw (is, same) (omega (arith, inside, small), omega (arith, inside, small), inside)

pub overflow_mul-at : goal.overflow_mul-at
overflow_mul-at g c = grind (arith, there)

pub overflow_add-at : goal.overflow_add-at
overflow_add-at g c = grind (arith, there)

pub slice_bounds-blank-end : goal.slice_bounds-blank-end
slice_bounds-blank-end g c = grind (arith, there)

pub returns : goal.returns
returns g c blank = grind arith
