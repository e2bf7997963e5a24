-- A search for flashes by their digests, the shortest paths first, on its way.
use Rattle.std.specs.Prelude.{All, AllPairs, Contains, List, [], false, get_or, length, take, true, ℕ, ◌++◌, ◌<◌, ◌∷◌, ◌≡◌, ◌≢◌}
use Rattle.std.specs.{BTreeSet.{BTreeSet, contains}, Cmp.Lexicographic.{slice_cmp}, Ordering.{nat_cmp}}
use Rattle.mc_flash.specs.{Flash.{Content}, Geometry.{Geometry}}
use Rattle.mc_vectors.specs.Cases.{ComesBefore, IsNoLater, flash_digest}

-- What is searched: cases, each with a path and the digest of a flash; what holds of each, of which the flashes one step on are asked for, and
-- which these are, by the number of the step.
pub record Searched : Type 1 where
  pub Case : Type 0
  pub path : Case → List ℕ
  pub digest : Case → List ℕ
  pub geometry : Geometry
  pub IsGood : Case → Type 0
  pub IsAsked : Case → Type 0
  pub Leaves : Case → ℕ → Content → Type 0

-- A digest is known exactly where a case has it.
abbrev pub AreKnown : {C : Type 0} → (C → List ℕ) → BTreeSet (List ℕ) → List C → Type 0
AreKnown {C} digest known cases =
    (d : List ℕ)
    → (contains (slice_cmp nat_cmp) known d ≡ true → (c : C) × Contains cases c × (digest c ≡ d))
    × (contains (slice_cmp nat_cmp) known d ≡ false → (c : C) → Contains cases c → digest c ≢ d)

module _ (s : Searched) (cases : List s.Case) where
  -- A flash that this path leaves has a case, whose path is no later.
  abbrev pub IsFound : List ℕ → Content → Type 0
  IsFound l u = (v : s.Case) × Contains cases v × (s.digest v ≡ flash_digest s.geometry u) × IsNoLater (s.path v) l

  -- So it is of the flashes that the first so many steps from a case leave.
  abbrev pub HasFound : s.Case → ℕ → Type 0
  HasFound c count = (i : ℕ) (u : Content) → i < count → s.Leaves c i u → IsFound (s.path c ++ i ∷ []) u

  -- And of all of them, where they are asked for.
  abbrev pub IsDone : s.Case → Type 0
  IsDone c = s.IsAsked c → (count : ℕ) → HasFound c count

  -- These are the cases so far, of which so many are done.
  pub record IsSearch (index : ℕ) : Type 0 where
    pub each : (c : s.Case) → Contains cases c → s.IsGood c
    pub sorted : AllPairs (λ c d. ComesBefore (s.path c) (s.path d)) cases
    pub distinct : AllPairs (λ c d. s.digest c ≢ s.digest d) cases
    pub root : (c : s.Case) × Contains cases c × (s.path c ≡ [])
    pub done : All IsDone (take index cases)

  -- Each of them comes before all steps of the next one.
  pub record IsBelow (index : ℕ) : Type 0 where
    pub before : (p c : s.Case) → index < length cases → p ≡ get_or cases index p → Contains cases c → ComesBefore (s.path c) (s.path p ++ 0 ∷ [])

  -- Of the case of that number so many steps are gone through.
  pub record IsExpanding (index number : ℕ) (p : s.Case) : Type 0 where
    pub search : IsSearch index
    pub inside : index < length cases
    pub here : p ≡ get_or cases index p
    pub asked : s.IsAsked p
    pub below : (c : s.Case) → Contains cases c → ComesBefore (s.path c) (s.path p ++ number ∷ [])
    pub found : HasFound p number
