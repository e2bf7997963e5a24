-- The nearest of the cases, on the way to it.
use Rattle.std.specs.{List.{range_with_len}, Prelude.{Contains, List, Some, [], filter, map, ℕ, ◌≡◌, ◌⊎◌}}
use Rattle.mc_boot.specs.{Outcome.{after}, Plan.{PowerOn}}
use Rattle.mc_flash.specs.{Flash.{Content, sectors_of}, Geometry.{Geometry}, declared.op.Slot.{Slot}}
use Rattle.mc_vectors.specs.{Locating.{IsNoFarther, is_other}, declared.case.Case.{Case}, declared.locating.SectorId.{SectorId}}

-- The sectors in which two flashes differ, of the first so many of a slot, and of all of them.
abbrev pub differing_first : Geometry → Content → Content → Slot → ℕ → List SectorId
differing_first g s t slot n = filter (is_other g s t) (map (λ i. record { slot = slot; number = i }) (range_with_len 0 n))

abbrev pub differing_in : Geometry → Content → Content → Slot → List SectorId
differing_in g s t slot = differing_first g s t slot (sectors_of g slot)

-- The schedule is that of no cut, or of one of those cases, and leaves a flash as near to s as any of theirs; it is the first that does.
pub record IsNearestCase (x : PowerOn) (s : Content) (cases : List Case) (l : List ℕ) : Type 0 where
  pub from : (l ≡ []) ⊎ ((c : Case) × Contains cases c × (c.schedule ≡ l))
  pub flash : Content
  pub leaves : after x l ≡ Some flash
  pub nearest : (c : Case) (v : Content) → Contains cases c → after x c.schedule ≡ Some v → IsNoFarther x.geometry s l flash c.schedule v
