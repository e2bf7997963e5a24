-- The search for the flashes that cuts leave, on its way.
use Rattle.std.specs.Prelude.{All, AllPairs, Contains, List, Some, [], false, get_or, length, take, true, ℕ, ◌++◌, ◌+◌, ◌<◌, ◌∷◌, ◌≡◌, ◌≢◌, ◌≤◌}
use Rattle.std.specs.{BTreeSet.{BTreeSet, contains}, Cmp.Lexicographic.{slice_cmp}, Ordering.{nat_cmp}}
use Rattle.mc_boot.specs.{Outcome.{after, ops_of}, Plan.{PowerOn, again}, declared.shared_tail.SharedTail.{SharedTail}}
use Rattle.mc_explore.specs.{declared.one_round.OneRound.{OneRound}, inner.OneRound.{GoesOnIn, begun_of, one_round}}
use Rattle.mc_explore.specs.Boots.{at_cut}
use Rattle.mc_flash.specs.Flash.{Content}
use Rattle.mc_walk.specs.Walks.{IsPath, Walked}
use Rattle.mc_vectors.specs.{Cases.{ComesBefore, IsCase, IsNoLater, flash_digest}, declared.case.Case.{Case}, declared.search.Search.{Search}}
use Rattle.mc_vectors.specs.inner.Digests.{AreOfFlash}

module _ (x : PowerOn) (cases : List Case) where
  -- A flash that this schedule leaves has a case, whose schedule is no later.
  abbrev pub IsFound : List ℕ → Content → Type 0
  IsFound l u = (v : Case) × Contains cases v × (v.digest ≡ flash_digest x.geometry u) × IsNoLater v.schedule l

  -- So it is of the flashes at the first so many cuts of the boot from the flash of a case.
  abbrev pub HasFound : Case → ℕ → Type 0
  HasFound c count =
      (u : Content) → after x c.schedule ≡ Some u → (i : ℕ) → i < count → i < length (ops_of (again x u))
      → IsFound (c.schedule ++ i ∷ []) (at_cut (again x u) i)

  -- And of all of them, where that boot goes its own way and its cuts are asked for.
  abbrev pub IsDone : ℕ → Case → Type 0
  IsDone bound c = length c.schedule < bound → c.joins ≡ false → (count : ℕ) → HasFound c count

  -- The flashes that cuts of the boot from a case leave are those that cuts of another case's leave, which is shorter and goes its own way.
  pub record IsJoined (c : Case) : Type 0 where
    pub parent : Case
    pub inside : Contains cases parent
    pub goes_its_way : parent.joins ≡ false
    pub shorter : length parent.schedule < length c.schedule
    pub within : (u s : Content) → after x c.schedule ≡ Some u → after x parent.schedule ≡ Some s → (i : ℕ) → i < length (ops_of (again x u))
        → (j : ℕ) × (j < length (ops_of (again x s))) × (at_cut (again x u) i ≡ at_cut (again x s) j)

-- The cases so far, of which so many are done.
pub record IsSearch (x : PowerOn) (bound : ℕ) (cases : List Case) (index : ℕ) : Type 0 where
  pub each : (c : Case) → Contains cases c → IsCase x c × (length c.schedule ≤ bound)
  pub sorted : AllPairs (λ c d. ComesBefore c.schedule d.schedule) cases
  pub distinct : AllPairs (λ c d. c.digest ≢ d.digest) cases
  pub root : (c : Case) × Contains cases c × (c.schedule ≡ [])
  pub joined : (c : Case) → Contains cases c → c.joins ≡ true → IsJoined x cases c
  pub done : All (IsDone x cases bound) (take index cases)

-- Each of them comes before all cuts of the next one.
pub record IsBelow (cases : List Case) (index : ℕ) : Type 0 where
  pub before : (p c : Case) → index < length cases → p ≡ get_or cases index p → Contains cases c → ComesBefore c.schedule (p.schedule ++ 0 ∷ [])

-- Of the case of that number so many cuts are gone through.
pub record IsExpanding (x : PowerOn) (bound : ℕ) (cases : List Case) (index number : ℕ) (p : Case) : Type 0 where
  pub search : IsSearch x bound cases index
  pub inside : index < length cases
  pub here : p ≡ get_or cases index p
  pub goes_its_way : p.joins ≡ false
  pub deep : length p.schedule < bound
  pub below : (c : Case) → Contains cases c → ComesBefore c.schedule (p.schedule ++ number ∷ [])
  pub found : HasFound x cases p number

-- A walk at the end of a schedule from the start.
pub record IsAt (x : PowerOn) (path : List ℕ) (w : Walked OneRound) : Type 0 where
  pub stands : w.stands ≡ true
  pub path_is : w.path ≡ path
  pub begun_is : begun_of w ≡ x
  pub few : w.bound ≤ 16
  pub listed : IsPath (one_round (begun_of w)) w w.path

-- The boot from where a walk stands goes on with the one that was cut.
abbrev pub GoesOnAt : PowerOn → Walked OneRound → Type 0
GoesOnAt x w =
    (before : List ℕ) × (number : ℕ) × (tail : SharedTail) × (w.path ≡ before ++ number ∷ [])
    × ((s : Content) → after x before ≡ Some s → GoesOnIn (again x s) number tail)

-- The case of a schedule whose boot goes its own way, with a digest that is given.
pub record IsOwnCase (x : PowerOn) (schedule digest : List ℕ) (c : Case) : Type 0 where
  pub schedule_is : c.schedule ≡ schedule
  pub digest_is : c.digest ≡ digest
  pub joins_is : c.joins ≡ false
  pub is_case : (u : Content) → after x schedule ≡ Some u → digest ≡ flash_digest x.geometry u → IsCase x c

-- A digest is known exactly where a case has it.
abbrev pub AreKnown : BTreeSet (List ℕ) → List Case → Type 0
AreKnown known cases =
    (d : List ℕ)
    → (contains (slice_cmp nat_cmp) known d ≡ true → (c : Case) × Contains cases c × (c.digest ≡ d))
    × (contains (slice_cmp nat_cmp) known d ≡ false → (c : Case) → Contains cases c → c.digest ≢ d)

-- The case of the flash where a walk stands, with that digest, is a new one of those that are found from the cuts of its parent's boot.
pub record IsCaseHere (x : PowerOn) (w : Walked OneRound) (p : Case) (digest : List ℕ) (c : Case) : Type 0 where
  pub schedule_is : c.schedule ≡ w.path
  pub digest_is : c.digest ≡ digest
  pub is_case : (bound : ℕ) (cases : List Case) (index number : ℕ) → IsExpanding x bound cases index number p → w.path ≡ p.schedule ++ number ∷ []
      → digest ≡ flash_digest x.geometry w.seen.content → IsCase x c × (c.joins ≡ true → IsJoined x cases c)

-- The digests of a search are those of flashes in sectors of that size, and its cases are known.
pub record IsReady (size : ℕ) (s : Search) : Type 0 where
  pub known : AreKnown s.known s.cases.items
  pub cuts : AreOfFlash size s.cuts
  pub lefts : AreOfFlash size s.lefts

-- One case more is done.
abbrev pub IsDoneNext : PowerOn → ℕ → List Case → ℕ → Type 0
IsDoneNext x bound cases index = IsSearch x bound cases (index + 1) × IsBelow cases (index + 1)

-- So many cases are done.
pub record IsDoneAt (x : PowerOn) (bound size : ℕ) (s : Search) (index : ℕ) : Type 0 where
  pub ready : IsReady size s
  pub search : IsSearch x bound s.cases.items index
  pub below : IsBelow s.cases.items index
