-- What it is for the course of a boot after a power cut to go on with that of the boot that was cut.
use Rattle.std.specs.{List.{AllByRecursion}, Prelude.{List, [], drop, length, map, take, ℕ, ◌*◌, ◌+◌, ◌-◌, ◌<◌, ◌∷◌, ◌≡◌, ◌≤◌, ◌⊎◌}}
use Rattle.mc_boot.specs.{Boot.{course_list}, Joins.{erases_of}, declared.course.Course.{Course}}
use Rattle.mc_flash.specs.{Flash.{sectors_of}, Geometry.{Geometry, in_pieces}}
use Rattle.mc_flash.specs.{declared.op.Op.{Op}, declared.op.Op.TheVariants.{Copy, Erase, Program}, declared.op.Slot.{Slot}}

-- A sector of a slot.
pub record Sector : Type 0 where
  pub slot : Slot
  pub index : ℕ

-- The operation that erases a sector.
abbrev pub erase_of : Sector → Op
erase_of e = Erase e.slot e.index

-- Where an operation writes: the slot, the first byte and how many.
abbrev pub target_of : Op → Slot
target_of (Erase slot sector) = slot
target_of (Program slot at bytes) = slot
target_of (Copy from at to offset len) = to

abbrev pub written_from : Geometry → Op → ℕ
written_from g (Erase slot sector) = sector * g.sector
written_from g (Program slot at bytes) = at
written_from g (Copy from at to offset len) = offset

abbrev pub written_len : Geometry → Op → ℕ
written_len g (Erase slot sector) = g.sector
written_len g (Program slot at bytes) = length bytes
written_len g (Copy from at to offset len) = len

-- One of these sectors.
abbrev pub IsListed : List Sector → Slot → ℕ → Type 0
IsListed [] slot index = ⊥
IsListed (e ∷ es) slot index = ((slot ≡ e.slot) × (index ≡ e.index)) ⊎ IsListed es slot index

-- An operation changes bytes of one of these sectors alone.
pub record WritesIn (g : Geometry) (es : List Sector) (op : Op) : Type 0 where
  pub index : ℕ
  pub listed : IsListed es (target_of op) index
  pub from : index * g.sector ≤ written_from g op
  pub to : written_from g op + written_len g op ≤ index * g.sector + g.sector

-- The sectors are there.
abbrev pub AreThere : Geometry → List Sector → Type 0
AreThere g es = AllByRecursion (λ e. e.index < sectors_of g e.slot) es

-- A list begins with the erases of these sectors, and its first operations write in them alone.
pub record BeginsIn (g : Geometry) (ops : List Op) (es : List Sector) (harmless_len : ℕ) : Type 0 where
  pub there : AreThere g es
  pub erases : take (length es) ops ≡ map erase_of es
  pub inside : AllByRecursion (WritesIn g es) (take harmless_len ops)

-- One list is a rest of another.
abbrev pub IsRestOf : List Op → List Op → Type 0
IsRestOf rest ops = (k : ℕ) × (k ≤ length ops) × (rest ≡ drop k ops)

-- A boot of the second list goes on where one of the first was cut after so many operations: the second is the first
-- without its first j, it begins with erases of so many sectors, and what the first boot made of it wrote in these alone.
pub record Meets (g : Geometry) (ops rest : List Op) (done j erases : ℕ) : Type 0 where
  pub is_rest : rest ≡ drop j ops
  pub passed : j ≤ done
  pub sectors : List Sector
  pub so_many : length sectors ≡ erases
  pub begins : BeginsIn g rest sectors (done - j)

-- A course begins with its erases, and its first operations write in the erased sectors alone.
abbrev pub IsHarmless : Course → ℕ → Type 0
IsHarmless b harmless_len =
    (es : List Sector) × (length es ≡ erases_of b) × BeginsIn b.layout (course_list b) es harmless_len

-- The course b goes on where the course a, of the same flash, was cut after so many operations: it is a without its first j.
abbrev pub GoesOnWith : Course → ℕ → Course → ℕ → Type 0
GoesOnWith a done b j =
    (g : Geometry) → a.layout ≡ in_pieces a.grain g → b.layout ≡ in_pieces b.grain g
    → Meets g (course_list a) (course_list b) done j (erases_of b)
