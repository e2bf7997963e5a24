-- The sectors of a slot in words, those that go on with one another as one: this project's own text (docs/FORMAT.md, "Inspection").
use Rattle.std.specs.Prelude.{Bool, List, Option, [], codes, false, suc, true, zero, ℕ, ◌++◌, ◌+◌, ◌∷◌}
use Rattle.mc_flash.specs.{Flash.{Content, sectors_of, slot_text}, Geometry.{Geometry}, declared.op.Slot.{Slot}}
use Rattle.mc_trace.specs.{Runs.{run_of, run_word, runs_by}, Sectors.{cell_by, sector_of}}
use Rattle.mc_trace.specs.{declared.cells.Cell.{Cell}, declared.runs.Run.{Run}}

abbrev pub spaced_word : Run → List ℕ
spaced_word r = codes " " ++ run_word r

-- The cells of n sectors of a slot from i on, none of them in a frame.
abbrev pub cells_by : Geometry → Option Content → Slot → List ℕ → ℕ → ℕ → List (Cell × Bool)
cells_by g named slot bytes i zero = []
cells_by g named slot bytes i (suc n) = (cell_by g named slot i (sector_of g bytes i), false) ∷ cells_by g named slot bytes (i + 1) n

-- Their runs, each after a space.
abbrev pub run_words : List (Cell × Bool) → List ℕ
run_words [] = []
run_words (first ∷ rest) = runs_by spaced_word spaced_word true (run_of first) rest

-- What lies in the sectors of a slot with these bytes, by what lies in those of a named flash, if there is one.
unfoldable pub sectors_text : Geometry → Option Content → Slot → List ℕ → List ℕ
sectors_text g named slot bytes = codes "sectors " ++ (slot_text slot ++ (run_words (cells_by g named slot bytes 0 (sectors_of g slot)) ++ codes "\n"))
