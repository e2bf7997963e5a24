-- Sectors in words, those that go on with one another as one: this project's own text (docs/FORMAT.md, "Inspection").
use Rattle.std.specs.Prelude.{Bool, List, [], codes, decimal, false, if◌then◌else◌, nat_lt, not, true, ℕ, ◌&&◌, ◌||◌, ◌++◌, ◌+◌, ◌-◌, ◌==◌, ◌∷◌}
use Rattle.mc_flash.specs.declared.op.Slot.TheVariants.{Primary, Secondary}
use Rattle.mc_trace.specs.{Sectors.{cell_word, letter}, declared.cells.Cell.{Cell}, declared.runs.Run.{Run}}
use Rattle.mc_trace.specs.declared.cells.Cell.TheVariants as cells
use Rattle.mc_trace.specs.declared.cells.Words.TheVariants as words

-- A cell holds the same as another; or what the start's sector held that comes so many after that of another.
abbrev pub is_again : Cell → Cell → Bool
is_again cells.Blank cells.Blank = true
is_again cells.Trailer cells.Trailer = true
is_again cells.Other cells.Other = true
is_again (cells.Held Primary i) (cells.Held Primary j) = i == j
is_again (cells.Held Secondary i) (cells.Held Secondary j) = i == j
is_again _ _ = false

abbrev pub rises_to : Cell → ℕ → Cell → Bool
rises_to (cells.Held Primary i) n (cells.Held Primary j) = j == i + n
rises_to (cells.Held Secondary i) n (cells.Held Secondary j) = j == i + n
rises_to _ n _ = false

-- A cell goes on after a run. After a first cell both are open.
abbrev pub goes_on : Run → Cell → Bool
goes_on r cell = if r.rises then rises_to r.first r.count cell else (is_again r.first cell || (r.count == 1 && rises_to r.first 1 cell))

-- A cell in a frame stands by itself.
abbrev pub takes : Run → Cell → Bool → Bool
takes r cell framed = not r.framed && (not framed && goes_on r cell)

-- How far a run goes: to its last sector of the start, or over so many cells, where there is more than one.
abbrev pub sector_in : Cell → ℕ
sector_in (cells.Held slot i) = i
sector_in _ = 0

abbrev pub letter_in : Cell → List ℕ
letter_in (cells.Held slot i) = letter slot
letter_in _ = []

abbrev pub reach_text : Run → List ℕ
reach_text r =
    if r.rises then codes ".." ++ (letter_in r.first ++ decimal (sector_in r.first + (r.count - 1)))
    else if nat_lt 1 r.count then codes "x" ++ decimal r.count
    else []

-- The word of a run.
abbrev pub run_word : Run → List ℕ
run_word r = cell_word words.All r.first ++ reach_text r

-- The run of one cell, framed or not; and the run after one more cell, which joins it or begins a new one.
abbrev pub run_of : Cell × Bool → Run
run_of (cell, framed) = record { first = cell; count = 1; rises = false; framed = framed }

abbrev pub joins : Bool → Run → Cell × Bool → Bool
joins merges r (cell, framed) = merges && takes r cell framed

abbrev pub one_more : Run → Cell → Run
one_more r cell = record { first = r.first; count = r.count + 1; rises = not (is_again r.first cell); framed = r.framed }

abbrev pub next_run : Bool → Run → Cell × Bool → Run
next_run merges r cell = if joins merges r cell then one_more r cell.0 else run_of cell

-- A run and more cells after it, by the texts of a run before another one and of the last.
abbrev pub before_by : (Run → List ℕ) → Bool → Run → Cell × Bool → List ℕ
before_by text merges r cell = if joins merges r cell then [] else text r

abbrev pub runs_by : (Run → List ℕ) → (Run → List ℕ) → Bool → Run → List (Cell × Bool) → List ℕ
runs_by text last merges r [] = last r
runs_by text last merges r (cell ∷ rest) = before_by text merges r cell ++ runs_by text last merges (next_run merges r cell) rest
