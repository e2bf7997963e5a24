-- The distinct flashes that power cuts leave, each with the first schedule that leaves it (docs/FORMAT.md, "Vectors").
use Rattle.std.specs.List.{between, concat, range_with_len}
use Rattle.std.specs.Prelude.{AllPairs, Contains, List, Some, length, map, ℕ, ⊤, ◌*◌, ◌++◌, ◌+◌, ◌/◌, ◌<◌, ◌≡◌, ◌≢◌, ◌≤◌, ◌⊎◌}
use Rattle.mc_boot.specs.{Outcome.{after, left_by, outcome_of, shown}, Plan.{PowerOn, again}}
use Rattle.mc_flash.specs.{Flash.{Content}, Geometry.{Geometry}}
use Rattle.mc_tree.specs.Tree.{Precedes}
use Rattle.mc_vectors.specs.declared.case.Case.{Case}
use Rattle.sha2.specs.Sha256.{sha256}

-- The digest that names a flash: the SHA-256 of the SHA-256s of its sectors, the primary's first. A boot's operation changes one sector, and
-- so costs the digest of one.

abbrev pub sector_digest : ℕ → List ℕ → ℕ → List ℕ
sector_digest size bytes i = sha256 (between (i * size) (i * size + size) bytes)

abbrev pub sector_digests : ℕ → List ℕ → List (List ℕ)
sector_digests size bytes = map (sector_digest size bytes) (range_with_len 0 (length bytes / size))

unfoldable pub flash_digest : Geometry → Content → List ℕ
flash_digest g s = sha256 (concat (sector_digests g.sector s.primary) ++ concat (sector_digests g.sector s.secondary))

-- The shorter schedule comes before the longer one, and of two as long the one that precedes the other.
abbrev pub ComesBefore : List ℕ → List ℕ → Type 0
ComesBefore l m = (length l < length m) ⊎ ((length l ≡ length m) × Precedes l m)

abbrev pub IsNoLater : List ℕ → List ℕ → Type 0
IsNoLater l m = (l ≡ m) ⊎ ComesBefore l m

-- What a case says is so: its schedule leaves a flash of that digest, and the uncut boot from there has that outcome and leaves a flash of
-- that digest.
pub record IsCase (x : PowerOn) (c : Case) : Type 0 where
  pub flash : Content
  pub left : Content
  pub leaves : after x c.schedule ≡ Some flash
  pub digest_is : c.digest ≡ flash_digest x.geometry flash
  pub outcome_is : outcome_of (again x flash) ≡ Some (shown c.outcome)
  pub left_is : left_by (again x flash) ≡ Some left
  pub left_digest_is : c.left ≡ flash_digest x.geometry left

-- Two flashes that cuts leave have one digest only where they are one.
abbrev pub HasNoCollision : PowerOn → Type 0
HasNoCollision x =
    (l m : List ℕ) (u v : Content) → after x l ≡ Some u → after x m ≡ Some v → flash_digest x.geometry u ≡ flash_digest x.geometry v → u ≡ v

-- The flash that such a schedule leaves is that of a case, whose own schedule is no later.
abbrev pub Covers : PowerOn → (List ℕ → Type 0) → List Case → Type 0
Covers x IsAsked cases =
    (l : List ℕ) (u : Content) → IsAsked l → after x l ≡ Some u
    → (c : Case) × Contains cases c × (after x c.schedule ≡ Some u) × IsNoLater c.schedule l

-- The flashes that such schedules leave, each once, in the order of their first schedules.
pub record AreCases (x : PowerOn) (IsAsked : List ℕ → Type 0) (cases : List Case) : Type 0 where
  pub each : (c : Case) → Contains cases c → IsCase x c × IsAsked c.schedule
  pub sorted : AllPairs (λ c d. ComesBefore c.schedule d.schedule) cases
  pub distinct : AllPairs (λ c d. c.digest ≢ d.digest) cases
  pub all : HasNoCollision x → Covers x IsAsked cases

-- Of at most so many cuts; and of any number.
abbrev pub AtMost : ℕ → List ℕ → Type 0
AtMost bound l = length l ≤ bound

abbrev pub AnyCuts : List ℕ → Type 0
AnyCuts l = ⊤
