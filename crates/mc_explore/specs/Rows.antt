-- Schedules as what is explored: the states of their explorer, their rows with their text, what the restart theorem says of a row, and what a row costs.
use Rattle.std.specs.Prelude.{List, None, Option, Result, Some, [], codes, decimal, false, option_and_then, option_map, ℕ, ◌*◌, ◌++◌, ◌+◌, ◌≡◌, ◌≤◌}
use Rattle.mc_boot.specs.{Outcome.{Report, after, outcome_of, result_text, shown}, Plan.{PowerOn, again}}
use Rattle.mc_boot.specs.{Restart.{BeginsImage, EndsIn, forgets_reverts, start_flash}, declared.kind.Kind.{Kind}}
use Rattle.mc_explore.specs.{Pages.{Listing}, Schedules.{IsMember, IsSwapOutcome}, Subject.{Subject}, declared.error.ExploreError.{ExploreError}}
use Rattle.mc_explore.specs.{declared.row.Row.{Row}, declared.subject.Fields.{Fields}}
use Rattle.mc_flash.specs.{Flash.{Content}, Geometry.{Geometry, IsLayout}, Usage.{most_operations}}
use Rattle.mc_image.specs.{Valid.{Identity}, VersionText.{version_line}}
use Rattle.mc_start.specs.{Cursor.{cursor_of, cursor_text}, Start.{schedule_text}, declared.cursor.Cursor.{Cursor}}
use Rattle.mc_trailer.specs.{Tables.{type_text}, declared.tables.Rules.{Rules}}
use Rattle.mc_tree.specs.Tree.{Precedes}
use Rattle.mc_explore.specs.Pages as listings
use Rattle.mc_boot.specs.declared.kind.Kind.TheVariants as starts
use Rattle.mc_explore.specs.Subject as states

-- What an explorer of schedules goes through, where it has come to, and its rows.

-- Nothing is chosen besides the start, and the keys are schedules.
abbrev pub State : Type 0
State = states.State (Unit {0}) (List ℕ)

abbrev pub Explored : Type 0
Explored = states.Explored (Unit {0}) (List ℕ)

-- The state at the start, and after the row of a schedule.
abbrev pub at_start : PowerOn → ℕ → State
at_start start bound = states.at_start start tt bound

abbrev pub moved_to : State → List ℕ → State
moved_to = states.moved_to

-- A row as callers see it.
pub record ShownRow : Type 0 where
  pub schedule : List ℕ
  pub outcome : Report

abbrev pub shown_row : Row → ShownRow
shown_row row = record { schedule = row.schedule; outcome = shown row.outcome }

-- A row ends as its boot does.
abbrev pub report_of : ShownRow → Report
report_of row = row.outcome

-- The outcome of the uncut boot from the flash that a schedule leaves.
unfoldable pub outcome_after : PowerOn → List ℕ → Option Report
outcome_after start l =
    option_and_then (λ u. outcome_of (again start u)) (after start l)

-- The outcome of a row is the one of its schedule.
abbrev pub HasOutcome : PowerOn → ShownRow → Type 0
HasOutcome start row = outcome_after start row.schedule ≡ Some row.outcome

-- What the restart theorem says of a row.

-- From the start of two valid images that fit, under rules that do not forget reverts, the boot after the row's schedule ends
-- what the start asks for: its result is to boot, and the images stand in their slots.
abbrev pub RowRestarts : PowerOn → ShownRow → Type 0
RowRestarts start row =
    (kind : Kind) (a b : List ℕ) → IsLayout start.geometry → BeginsImage start.geometry a → BeginsImage start.geometry b
    → (kind ≡ starts.Revert → forgets_reverts start.rules.grain start.rules.profile ≡ false)
    → start_flash start.geometry kind a b ≡ Some start.content
    → (u : Content) × (z : Content) × (after start row.schedule ≡ Some u)
    × EndsIn start kind a b u z × IsSwapOutcome kind a b row.schedule row.outcome

-- How rows are printed: this project's own text.

-- The version and the size of the valid image of a slot, or `none`.
abbrev pub slot_text : Option Identity → List ℕ
slot_text None = codes "none"
slot_text (Some id) = version_line id.version ++ (codes "/" ++ decimal id.size)

-- The result, the type, and how many operations happened.
abbrev pub outcome_text : Report → List ℕ
outcome_text o = result_text o.result ++ (codes " " ++ (type_text o.kind ++ (codes " " ++ decimal o.ops)))

-- What the slots hold, and the next type.
abbrev pub slots_text : Report → List ℕ
slots_text o = slot_text o.primary ++ (codes " " ++ (slot_text o.secondary ++ (codes " " ++ type_text o.next)))

-- The schedule, then both of its outcome.
abbrev pub row_text : ShownRow → List ℕ
row_text row = (schedule_text row.schedule ++ (codes " " ++ outcome_text row.outcome)) ++ (codes " " ++ slots_text row.outcome)

-- How many operations a row costs.

-- The most operations for a row: a boot, and two on the way to it.
abbrev pub most_for_row : Rules → Geometry → ℕ
most_for_row r g = most_operations r.grain g + 2

-- So many for a call that finds one, and none for a call that finds none.
abbrev pub row_cost : {R : Type 0} → Rules → Geometry → Option R → ℕ
row_cost r g (Some row) = most_for_row r g
row_cost r g None = 0

-- Schedules, as what is explored, and their rows, as they are listed.

-- An explorer takes at most two boots a cut, and one, on its way to a schedule.
abbrev pub subject : Subject (Unit {0}) (List ℕ) ShownRow Cursor
subject = record {
  IsListed = λ start _. IsMember start;
  Before = Precedes;
  key = λ row. row.schedule;
  key_text = schedule_text;
  row_text = row_text;
  no_key = [];
  ends = report_of;
  HasOutcome = λ start _. HasOutcome start;
  Restarts = λ start _. RowRestarts start;
  most_for_row = most_for_row;
  IsCheap = λ r g bound applied. applied ≤ 2 * (bound + 1) * most_operations r.grain g;
  cursor = λ start _. cursor_of start;
  cursor_text = cursor_text;
}

-- What a cursor says.
abbrev pub fields_of : Cursor → Fields (Unit {0}) (List ℕ)
fields_of c = record { rules = c.rules; choice = tt; digest = c.digest; bound = c.bound; key = c.schedule }

-- The next row with its outcome, or none where no schedule is past the position; and the state after that answer.
abbrev pub Finds : State → Option Row → Type 0
Finds state found = states.Finds subject state (option_map shown_row found)

abbrev pub state_after : State → Option Row → State
state_after state found = states.state_after subject state (option_map shown_row found)

-- A row of the whole list: one of the schedules to go through, with its outcome.
abbrev pub IsRow : PowerOn → ℕ → ShownRow → Type 0
IsRow start bound = states.IsRow subject start tt bound

abbrev pub schedules : Listing State (List ℕ) ShownRow Cursor
schedules = states.rows_of subject

-- The rows past the position, each of them and no others, in their order.
abbrev pub IsRest : State → List ShownRow → Type 0
IsRest = listings.IsRest schedules

-- An explorer of schedules that goes on after a cursor, or the first reason why there is none.

-- The state after a schedule.
abbrev pub after_key : PowerOn → ℕ → List ℕ → State
after_key start bound = states.after_key start tt bound

abbrev pub Resumes : PowerOn → ℕ → Cursor → Result Explored ExploreError → Type 0
Resumes start bound c = states.Resumes subject start tt bound (fields_of c)
