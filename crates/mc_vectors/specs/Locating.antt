-- Which of the flashes that power cuts leave comes nearest to a given one, and in which sectors the two differ.
use Rattle.std.specs.List.{between, range_with_len}
use Rattle.std.specs.Prelude.{Bool, List, Some, bytes_eq, codes, decimal, filter, flat_map, length, map, not, ℕ, ◌*◌, ◌++◌, ◌+◌, ◌<◌, ◌≡◌, ◌⊎◌}
use Rattle.mc_boot.specs.{Outcome.{after}, Plan.{PowerOn}}
use Rattle.mc_flash.specs.{Flash.{Content, bytes_of, sectors_of, slot_text}, Geometry.{Geometry}, declared.op.Slot.{Slot}}
use Rattle.mc_flash.specs.declared.op.Slot.TheVariants.{Primary, Secondary}
use Rattle.mc_start.specs.Start.{schedule_text}
use Rattle.mc_vectors.specs.{Cases.{HasNoCollision, IsNoLater}, declared.locating.Located.{Located}, declared.locating.SectorId.{SectorId}}

-- In which sectors two flashes differ.

-- The content of slots that hold these bytes.
abbrev pub content_of : List ℕ → List ℕ → Content
content_of primary secondary = record { primary = primary; secondary = secondary }

-- The sectors of a slot, in their order, and those of a flash, the primary's first.
abbrev pub slot_sectors : Geometry → Slot → List SectorId
slot_sectors g slot = map (λ i. record { slot = slot; number = i }) (range_with_len 0 (sectors_of g slot))

abbrev pub flash_sectors : Geometry → List SectorId
flash_sectors g = slot_sectors g Primary ++ slot_sectors g Secondary

-- What a sector holds.
abbrev pub held_in : Geometry → Content → SectorId → List ℕ
held_in g s at = between (at.number * g.sector) (at.number * g.sector + g.sector) (bytes_of s at.slot)

-- Whether it holds other bytes in one flash than in the other.
abbrev pub is_other : Geometry → Content → Content → SectorId → Bool
is_other g s t at = not (bytes_eq (held_in g s at) (held_in g t at))

-- The sectors that do, and how many they are.
unfoldable pub differing : Geometry → Content → Content → List SectorId
differing g s t = filter (is_other g s t) (flash_sectors g)

abbrev pub distance : Geometry → Content → Content → ℕ
distance g s t = length (differing g s t)

-- Which flash is the nearest.

-- A schedule l leaves u, and m leaves v: u is nearer to s than v is; or it is as near, and l comes no later than m.
abbrev pub IsNoFarther : Geometry → Content → List ℕ → Content → List ℕ → Content → Type 0
IsNoFarther g s l u m v =
    (distance g u s < distance g v s) ⊎ ((distance g u s ≡ distance g v s) × IsNoLater l m)

-- Of all such schedules that can occur this is the first that leaves a flash as near to s as any of them does.
pub record IsNearest (x : PowerOn) (IsAsked : List ℕ → Type 0) (s : Content) (l : List ℕ) : Type 0 where
  pub flash : Content
  pub leaves : after x l ≡ Some flash
  pub asked : IsAsked l
  pub nearest : HasNoCollision x → (m : List ℕ) (v : Content) → IsAsked m → after x m ≡ Some v → IsNoFarther x.geometry s l flash m v

-- How it is written: this project's own text.

-- The schedule, and how many sectors differ.
abbrev pub head_text : List ℕ → ℕ → List ℕ
head_text l count = codes "schedule " ++ (schedule_text l ++ (codes "\ndiffers " ++ (decimal count ++ codes "\n")))

-- A sector: `primary 3`.
abbrev pub sector_line : SectorId → List ℕ
sector_line at = slot_text at.slot ++ (codes " " ++ (decimal at.number ++ codes "\n"))

-- Two lines, and then one for each sector that differs.
abbrev pub located_text : Located → List ℕ
located_text located = head_text located.schedule (length located.differs.items) ++ flat_map sector_line located.differs.items
