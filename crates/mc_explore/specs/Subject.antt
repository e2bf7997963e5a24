-- What is explored, of whatever kind: which keys can occur from a start, where an explorer has come to, its rows, and where a cursor serves.
use Rattle.std.specs.Prelude.{Bool, Err, IsErrOf, List, None, Ok, OnErr, Option, Result, Some, false, refl, ℕ, ◌≡◌, ◌≢◌, ◌⊎◌}
use Rattle.mc_boot.specs.{Outcome.{Report}, Plan.{PowerOn}}
use Rattle.mc_explore.specs.{Explores.{RanOut}, Pages.{IsLawful, IsRest, Listing}, declared.error.ExploreError.{ExploreError}}
use Rattle.mc_explore.specs.declared.subject.Fields.{Fields}
use Rattle.mc_flash.specs.{Flash.{Content}, Geometry.{Geometry}, Usage.{Usage}}
use Rattle.mc_start.specs.Start.{start_digest}
use Rattle.mc_trailer.specs.declared.tables.Rules.{Rules}
use Rattle.mc_tree.specs.{Tree.{After, AtStart, Lost, Position}, facts.Order.{IsOrder}}
use Rattle.mc_explore.specs.declared.error.ExploreError.TheVariants as errors
use Rattle.mc_tree.specs.Tree as paths

-- What is explored, of whatever kind: which keys can occur from a start under a choice, in which order, and the summary of each.

-- Of a choice, a key, a row and a cursor.
pub record Subject (C K R U : Type 0) : Type 1 where
  -- the keys of at most so many cuts that can occur, and their order
  pub IsListed : PowerOn → C → ℕ → K → Type 0
  pub Before : K → K → Type 0
  -- by what a row is found, the texts of both, and what stands in place of the last key where there was no row
  pub key : R → K
  pub key_text : K → List ℕ
  pub row_text : R → List ℕ
  pub no_key : K
  -- how a row ends, by which rows are counted
  pub ends : R → Report
  -- the row has the outcomes of its key, and what the restart theorem says of that
  pub HasOutcome : PowerOn → C → R → Type 0
  pub Restarts : PowerOn → C → R → Type 0
  -- the most operations for a row, and how many an explorer of so many cuts may have taken on the way to a key
  pub most_for_row : Rules → Geometry → ℕ
  pub IsCheap : Rules → Geometry → ℕ → ℕ → Type 0
  -- where to go on after a key, with so many cuts at most, and its text
  pub cursor : PowerOn → C → ℕ → K → U
  pub cursor_text : U → List ℕ

-- Where an explorer has come to, and the row that comes next.

-- The start, the choice and the most cuts of a key; where the explorer has come to: it gave no row yet, or last that of a key, or it
-- failed; and whether its flash was refused memory at some time.
pub record State (C K : Type 0) : Type 0 where
  pub start : PowerOn
  pub choice : C
  pub bound : ℕ
  pub position : Position K
  pub failed : Bool

-- The state after the row of a key; that at a position, at the start, and after a key.
abbrev pub moved_to : {C K : Type 0} → State C K → K → State C K
moved_to state k =
    record { start = state.start; choice = state.choice; bound = state.bound; position = After k; failed = state.failed }

abbrev pub state_at : {C K : Type 0} → PowerOn → C → ℕ → Position K → State C K
state_at start choice bound position = record { start = start; choice = choice; bound = bound; position = position; failed = false }

abbrev pub at_start : {C K : Type 0} → PowerOn → C → ℕ → State C K
at_start start choice bound = state_at start choice bound AtStart

abbrev pub after_key : {C K : Type 0} → PowerOn → C → ℕ → K → State C K
after_key start choice bound k = state_at start choice bound (After k)

-- What callers see of an explorer: its state; the content of its flash and the usage; and how many contents are marked there.
pub record Explored (C K : Type 0) : Type 0 where
  pub state : State C K
  pub content : Content
  pub usage : Usage
  pub marked : ℕ

module _ {C K R U : Type 0} (x : Subject C K R U) where
  -- One of the keys to go through, the first past the position, and that none is.
  abbrev pub IsListed : State C K → K → Type 0
  IsListed state k = x.IsListed state.start state.choice state.bound k

  abbrev pub IsNext : State C K → K → Type 0
  IsNext state k = paths.IsNextIn x.Before (IsListed state) state.position k

  abbrev pub IsOver : State C K → Type 0
  IsOver state = paths.IsOverIn x.Before (IsListed state) state.position

  -- The next row with its outcomes, or none where no key is past the position.
  abbrev pub Finds : State C K → Option R → Type 0
  Finds state (Some row) = IsNext state (x.key row) × x.HasOutcome state.start state.choice row
  Finds state None = IsOver state

  -- The state after that answer.
  abbrev pub state_after : State C K → Option R → State C K
  state_after state (Some row) = moved_to state (x.key row)
  state_after state None = state

  -- The restart theorem for that row.
  abbrev pub Restarts : State C K → Option R → Type 0
  Restarts state (Some row) = x.Restarts state.start state.choice row
  Restarts state None = Unit {0}

  -- An explorer goes on after a key that is one of those to go through; or it is none; or an allocation failed.
  abbrev pub GoesOnBeyond : PowerOn → C → ℕ → K → Result (Explored C K) ExploreError → Type 0
  GoesOnBeyond start choice bound k (Ok explorer) = x.IsListed start choice bound k × (explorer.state ≡ after_key start choice bound k)
  GoesOnBeyond start choice bound k (Err e) = (e ≡ errors.Memory) ⊎ ((e ≡ errors.CannotOccur) × (x.IsListed start choice bound k → ⊥))

  -- The position at which a key comes next: after the key before it, or at the start.
  abbrev pub IsPlaceBefore : PowerOn → C → ℕ → K → Position K → Type 0
  IsPlaceBefore start choice bound k AtStart = IsNext (at_start start choice bound) k
  IsPlaceBefore start choice bound k (After last) = x.IsListed start choice bound last × IsNext (after_key start choice bound last) k
  IsPlaceBefore start choice bound k Lost = ⊥

  -- An explorer stands where a key comes next; or that is none of those to go through; or an allocation failed.
  abbrev pub StandsBefore : PowerOn → C → ℕ → K → Result (Explored C K) ExploreError → Type 0
  StandsBefore start choice bound k (Ok explorer) =
      (position : Position K) × IsPlaceBefore start choice bound k position × (explorer.state ≡ state_at start choice bound position)
  StandsBefore start choice bound k (Err e) = (e ≡ errors.Memory) ⊎ ((e ≡ errors.CannotOccur) × (x.IsListed start choice bound k → ⊥))

  -- So many operations for a call that finds one, and none for a call that finds none.
  abbrev pub row_cost : State C K → Option R → ℕ
  row_cost state (Some row) = x.most_for_row state.start.rules state.start.geometry
  row_cost state None = 0

-- What a call that goes through rows leaves of an explorer, whatever it answers.

-- The limits of the flash never change. An allocation failed only where the flash does not count, and was refused some. An
-- explorer that has failed says so and stays as it is, and no other says so.
pub record LeavesExplorer {C K A : Type 0} (counted : Bool) (old : Explored C K) (result : Result A ExploreError) (new : Explored C K) : Type 0 where
  pub limits : new.usage.limits ≡ old.usage.limits
  pub cause : IsErrOf result errors.Memory → RanOut counted new.usage.failed
  pub stays_lost : old.state.position ≡ Lost → IsErrOf result errors.Failed
  pub not_lost : IsErrOf result errors.Failed → old.state.position ≡ Lost
  pub still : IsErrOf result errors.Failed → new ≡ old

-- Besides, after an error it has failed.
pub record Explores {C K A : Type 0} (counted : Bool) (old : Explored C K) (result : Result A ExploreError) (new : Explored C K) : Type 0 where
  pub goes : LeavesExplorer counted old result new
  pub lost : OnErr result (new.state.position ≡ Lost)

-- The rows of a subject, as they are listed.

module _ {C K R U : Type 0} (x : Subject C K R U) where
  -- A row of the whole list: one of the keys to go through, with its outcomes.
  pub record IsRow (start : PowerOn) (choice : C) (bound : ℕ) (row : R) : Type 0 where
    pub listed : x.IsListed start choice bound (x.key row)
    pub outcome : x.HasOutcome start choice row

  abbrev pub rows_of : Listing (State C K) K R U
  rows_of = record {
    IsRow = λ state. IsRow state.start state.choice state.bound;
    key = x.key;
    Before = x.Before;
    row_text = x.row_text;
    Restarts = λ state row. x.Restarts state.start state.choice row;
    position = λ state. state.position;
    moved_to = moved_to;
    cursor = λ state. x.cursor state.start state.choice state.bound;
    cursor_text = x.cursor_text;
    no_key = x.no_key;
  }

  -- They are lawful where the keys have an order, and there is a list of the rows to come.
  pub are_lawful : IsOrder x.Before → ((state : State C K) → (rows : List R) × IsRest rows_of state rows) → IsLawful rows_of
  are_lawful order some_rest = record {
    order = order;
    some_rest = some_rest;
    position_is = λ state k. refl;
    rows_stay = λ state k row is. is;
    rows_stayed = λ state k row is. is;
    cursor_stays = λ state k m. refl;
    moved_again = λ state k m. refl;
  }

-- Where a cursor serves to go on, and the first reason why it does not.

-- What the cursor after a key says.
abbrev pub fields_of : {C K : Type 0} → PowerOn → C → ℕ → K → Fields C K
fields_of start choice bound k = record { rules = start.rules; choice = choice; digest = start_digest start; bound = bound; key = k }

module _ {C K R U : Type 0} (x : Subject C K R U) (start : PowerOn) (choice : C) (bound : ℕ) (c : Fields C K) where
  -- The cursor names this start, its rules, this choice and this bound.
  pub record Names : Type 0 where
    pub digest_is : c.digest ≡ start_digest start
    pub rules_are : c.rules ≡ start.rules
    pub choice_is : c.choice ≡ choice
    pub bound_is : c.bound ≡ bound

  -- Why it is refused: another start; else other rules, or another choice; else another bound; else its key is none of those to go
  -- through. An allocation failed only for a cursor that names them all.
  abbrev pub RefusesCursor : ExploreError → Type 0
  RefusesCursor errors.OtherStart = c.digest ≢ start_digest start
  RefusesCursor errors.OtherRules = (c.digest ≡ start_digest start) × ((c.rules ≢ start.rules) ⊎ (c.choice ≢ choice))
  RefusesCursor errors.OtherBound = (c.digest ≡ start_digest start) × (c.rules ≡ start.rules) × (c.choice ≡ choice) × (c.bound ≢ bound)
  RefusesCursor errors.CannotOccur = Names × (x.IsListed start choice bound c.key → ⊥)
  RefusesCursor errors.Memory = Names
  RefusesCursor errors.Failed = ⊥
  RefusesCursor errors.Write = ⊥

  -- An explorer that goes on after the cursor's key, or the first reason why there is none.
  abbrev pub Resumes : Result (Explored C K) ExploreError → Type 0
  Resumes (Ok explorer) = Names × x.IsListed start choice bound c.key × (explorer.state ≡ after_key start choice bound c.key)
  Resumes (Err e) = RefusesCursor e
