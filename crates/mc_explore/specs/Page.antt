-- Pages of schedules: up to a schedule, too, and continued from their cursors.
use Rattle.std.specs.Prelude.{Bool, List, Option, [], ℕ}
use Rattle.mc_explore.specs.Rows.{IsRow, State, ShownRow, schedules}
use Rattle.mc_start.specs.declared.cursor.Cursor.{Cursor}
use Rattle.mc_tree.specs.Tree.{Precedes}
use Rattle.mc_tree.specs.Tree as chains
use Rattle.mc_explore.specs.Pages as pages

-- Pages of schedules.

abbrev pub Page : Type 0
Page = pages.Page ShownRow Cursor

abbrev pub page_at : State → ℕ → List ShownRow → Page
page_at = pages.page_at schedules

abbrev pub page_text : Page → List ℕ
page_text = pages.page_text schedules

abbrev pub row_line : ShownRow → List ℕ
row_line = pages.row_line schedules

abbrev pub last_line : Option Cursor → List ℕ
last_line = pages.last_line schedules

-- Where an explorer is after the first so many of the rows to come.
abbrev pub state_past : State → ℕ → List ShownRow → State
state_past = pages.state_past schedules

-- The page of the rows to come is out, or a beginning of it.
abbrev pub PageIsOut : State → State → ℕ → Option (List ℕ) → Option (List ℕ) → Type 0
PageIsOut = pages.PageIsOut schedules

abbrev pub PageBegan : State → ℕ → Option (List ℕ) → Option (List ℕ) → Type 0
PageBegan = pages.PageBegan schedules

-- Pages of the rows before a schedule.

-- The rows to come, and those of them before the schedule.
abbrev pub Shown : Option (List ℕ) → State → Type 0
Shown = pages.Shown schedules

-- Pages that are continued from their cursors.

-- The schedule of the last row, which a full page's cursor names.
abbrev pub last_schedule : List ℕ → List ShownRow → List ℕ
last_schedule = chains.last_key (λ row. row.schedule)

-- The rows of the pages of a chain, joined. The first page begins at the state, and each further one after the schedule that
-- the cursor of the page before it names, where an explorer that goes on from that cursor begins. A page that is not full says
-- `end`, and is the last.
abbrev pub Chain : State → List ℕ → Bool → List ShownRow → Type 0
Chain state limits ended rows =
    chains.Chain Precedes (λ row. row.schedule) [] (IsRow state.start state.bound) state.position limits ended rows
