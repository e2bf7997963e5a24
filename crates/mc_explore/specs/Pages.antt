-- What is gone through row by row, of whatever kind.
use Rattle.std.specs.Io.KnownBytes.{Appends}
use Rattle.std.specs.Prelude.{All, Bool, List, None, Option, Some, [], codes, drop, false, flat_map, if◌then◌else◌, length, nat_le, suc, take, true, zero, ℕ, ◌++◌, ◌∷◌, ◌≡◌, ◌⊎◌}
use Rattle.mc_output.specs.Text.{AppendsPrefix}
use Rattle.mc_tree.specs.{Tree.{After, IsPastIn, Position, last_key}, facts.Order.{IsOrder}}
use Rattle.mc_tree.specs.Tree as lists

pub record Listing (S K R C : Type 0) : Type 1 where
  -- which rows there are in a state, by what a row is found, in which order, and its text
  pub IsRow : S → R → Type 0
  pub key : R → K
  pub Before : K → K → Type 0
  pub row_text : R → List ℕ
  -- what the restart theorem says of a row
  pub Restarts : S → R → Type 0
  -- where one has come to in a state, and the state after the row of that key
  pub position : S → Position K
  pub moved_to : S → K → S
  -- where to go on after a key, and its text
  pub cursor : S → K → C
  pub cursor_text : C → List ℕ
  -- what stands in place of the last key where there is no row
  pub no_key : K

module _ {S K R C : Type 0} (l : Listing S K R C) where
  -- It is past the position.
  abbrev pub IsToCome : S → R → Type 0
  IsToCome state row = IsPastIn l.Before (l.position state) (l.key row)

  -- The rows past the position, each of them and no others, in their order.
  abbrev pub IsRest : S → List R → Type 0
  IsRest state rows = lists.IsRest l.Before l.key (l.IsRow state) (l.position state) rows

  -- The first of them.
  pub record IsFirst (state : S) (row : R) : Type 0 where
    pub is_row : l.IsRow state row
    pub past : IsToCome state row
    pub none_between : (m : R) → l.IsRow state m → IsToCome state m → l.Before (l.key m) (l.key row) → ⊥

  -- The next row, or none where none is past the position.
  abbrev pub FindsRow : S → Option R → Type 0
  FindsRow state (Some row) = IsFirst state row
  FindsRow state None = (m : R) → l.IsRow state m → IsToCome state m → ⊥

  -- What holds of it: keys have an order, there is a list of the rows to come, and a row that was given changes nothing but the
  -- position.
  pub record IsLawful : Type 0 where
    pub order : IsOrder l.Before
    pub some_rest : (state : S) → (rows : List R) × IsRest state rows
    pub position_is : (state : S) (k : K) → l.position (l.moved_to state k) ≡ After k
    pub rows_stay : (state : S) (k : K) (row : R) → l.IsRow state row → l.IsRow (l.moved_to state k) row
    pub rows_stayed : (state : S) (k : K) (row : R) → l.IsRow (l.moved_to state k) row → l.IsRow state row
    pub cursor_stays : (state : S) (k m : K) → l.cursor (l.moved_to state k) m ≡ l.cursor state m
    pub moved_again : (state : S) (k m : K) → l.moved_to (l.moved_to state k) m ≡ l.moved_to state m

-- A page: rows, and where to go on, as a value and as text.

-- A page: its rows, and where to go on, or that there are no more.
pub record Page (R C : Type 0) : Type 0 where
  pub rows : List R
  pub goes_on : Option C

module _ {S K R C : Type 0} (l : Listing S K R C) where
  -- The page of at most so many of the rows to come. A full one goes on after its last row.
  abbrev pub page_at : S → ℕ → List R → Page R C
  page_at state limit rows = record {
    rows = take limit rows;
    goes_on = if nat_le limit (length rows) then Some (l.cursor state (last_key l.key l.no_key (take limit rows))) else None;
  }

  -- The lines of a page. The last is that of a cursor where the page is full, and `end` where it is not.
  abbrev pub row_line : R → List ℕ
  row_line row = l.row_text row ++ 10 ∷ []

  abbrev pub last_line : Option C → List ℕ
  last_line (Some cursor) = (codes "next " ++ l.cursor_text cursor) ++ 10 ∷ []
  last_line None = codes "end" ++ 10 ∷ []

  abbrev pub page_text : Page R C → List ℕ
  page_text page = flat_map row_line page.rows ++ last_line page.goes_on

  -- Where one is after the first so many of the rows to come.
  unfoldable pub state_past : S → ℕ → List R → S
  state_past state zero rows = state
  state_past state (suc room) [] = state
  state_past state (suc room) (row ∷ rows) = state_past (l.moved_to state (l.key row)) room rows

  -- The page of the rows to come is out, of which there is one list, and its rows are taken. The restart theorem holds of each.
  pub record PageIsOut (old new : S) (limit : ℕ) (before after : Option (List ℕ)) : Type 0 where
    pub rows : List R
    pub rest : IsRest l old rows
    pub restarts : All (l.Restarts old) rows
    pub out : Appends before after (page_text (page_at old limit rows))
    pub left : IsRest l new (drop limit rows)
    pub past : new ≡ state_past old limit rows

  -- A beginning of that page is out.
  pub record PageBegan (old : S) (limit : ℕ) (before after : Option (List ℕ)) : Type 0 where
    pub rows : List R
    pub rest : IsRest l old rows
    pub restarts : All (l.Restarts old) rows
    pub out : AppendsPrefix before after (page_text (page_at old limit rows))

  -- ---- a page of the rows before a key

  -- It comes before that one. Where none is given, each does.
  abbrev pub IsBefore : Option K → K → Type 0
  IsBefore None k = Unit {0}
  IsBefore (Some until) k = l.Before k until

  -- The rows before a key, and the others.
  pub record AreBefore (until : Option K) (rows shown : List R) : Type 0 where
    pub others : List R
    pub parted : rows ≡ shown ++ others
    pub before : All (λ row. IsBefore until (l.key row)) shown
    pub none : All (λ row. IsBefore until (l.key row) → ⊥) others

  -- The rows to come, and those of them before the key: these are what a page shows.
  pub record Shown (until : Option K) (state : S) : Type 0 where
    pub rows : List R
    pub rest : IsRest l state rows
    pub shown : List R
    pub are : AreBefore until rows shown

  -- How many rows are taken for a page of at most so many of the shown ones: those on it; and where it is not full, also the one
  -- after them, if there is one, since it is not known before that it is not shown.
  abbrev pub rows_taken : ℕ → List R → ℕ
  rows_taken limit shown = if nat_le limit (length shown) then limit else suc (length shown)

  -- The rows of that page are taken, and the others stay to come.
  pub record TakesPage (until : Option K) (old new : S) (limit : ℕ) (page : Page R C) : Type 0 where
    pub of : Shown until old
    pub page_is : page ≡ page_at old limit of.shown
    pub left : IsRest l new (drop (rows_taken limit of.shown) of.rows)
    pub past : new ≡ state_past old (rows_taken limit of.shown) of.rows

  -- And the page is out. The restart theorem holds of each row to come.
  pub record ShownIsOut (until : Option K) (old new : S) (limit : ℕ) (before after : Option (List ℕ)) : Type 0 where
    pub page : Page R C
    pub taken : TakesPage until old new limit page
    pub restarts : All (l.Restarts old) taken.of.rows
    pub out : Appends before after (page_text page)

  -- A beginning of that page is out.
  pub record ShownBegan (until : Option K) (old : S) (limit : ℕ) (before after : Option (List ℕ)) : Type 0 where
    pub of : Shown until old
    pub restarts : All (l.Restarts old) of.rows
    pub out : AppendsPrefix before after (page_text (page_at old limit of.shown))

  -- The next row that is shown. There is none where none is past the position, or where the next row, which is taken all the same,
  -- does not come before the key.
  abbrev pub FindsBefore : Option K → S → Option R → S → Type 0
  FindsBefore until old (Some row) new = FindsRow l old (Some row) × IsBefore until (l.key row) × (new ≡ l.moved_to old (l.key row))
  FindsBefore until old None new =
      (FindsRow l old None × (new ≡ old))
      ⊎ ((row : R) × FindsRow l old (Some row) × (IsBefore until (l.key row) → ⊥) × (new ≡ l.moved_to old (l.key row)))

  -- Its line is out, and the restart theorem holds of it; or there is none, and nothing is out.
  abbrev pub WritesRow : Option K → S → Bool → S → Option (List ℕ) → Option (List ℕ) → Type 0
  WritesRow until old true new before after =
      (row : R) × FindsBefore until old (Some row) new × l.Restarts old row × Appends before after (row_line row)
  WritesRow until old false new before after = FindsBefore until old None new × (after ≡ before)

  -- A prefix of its line is out, or nothing.
  abbrev pub RowBegan : Option K → S → Option (List ℕ) → Option (List ℕ) → Type 0
  RowBegan until old before after =
      (after ≡ before)
      ⊎ ((row : R) × (new : S) × FindsBefore until old (Some row) new × l.Restarts old row × AppendsPrefix before after (row_line row))
