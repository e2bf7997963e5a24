-- The parts of a whole swap that its type decides.
use Rattle.std.specs.Prelude.{max, ℕ, ◌*◌, ◌+◌, ◌/◌}
use Rattle.mc_flash.specs.Geometry.{Geometry}
use Rattle.mc_trailer.specs.declared.tables.SwapType.{SwapType}
use Rattle.mc_trailer.specs.declared.tables.SwapType.TheVariants as kinds

-- How many trailers it erases: both, and before a revert the secondary's once more.
abbrev pub trailers_of : SwapType → ℕ
trailers_of kinds.Revert = 3
trailers_of _ = 2

-- The units of the size and the magic.
abbrev pub marking_units : Geometry → ℕ
marking_units g = max g.unit 4 / g.unit + 16 / g.unit

-- How many units it writes into fields, of which the size and the magic have so many: these, the type and copy-done; image-ok except
-- for a test; and before a revert image-ok, the size and the magic in the secondary.
abbrev pub fields_of : SwapType → ℕ → ℕ
fields_of kinds.Test marking = 2 + marking
fields_of kinds.Revert marking = 4 + 2 * marking
fields_of _ marking = 3 + marking
