-- How often operations erase a sector, and how long they take: this project's own measures.
use Rattle.std.specs.List.{range_with_len}
use Rattle.std.specs.Prelude.{Bool, List, None, Option, Some, codes, count_by, decimal, false, fold, length, max, sum_by, true, ℕ, ◌*◌, ◌++◌, ◌+◌, ◌/◌, ◌≤◌}
use Rattle.mc_boot.specs.{Life.{all_erases}, Outcome.{ops_of}, Plan.{PowerOn, new_list}, WholeSwap.{largest_swap}}
use Rattle.mc_flash.specs.{Geometry.{Geometry, IsLayout, greatest_sectors, in_pieces, trailer_sectors}, Largest.{largest_image}, facts.Layouts.{data_sectors}}
use Rattle.mc_flash.specs.{declared.flash.Grain.{Grain}, declared.op.Op.{Op}, declared.op.Slot.{Slot}, declared.op.Slot.TheVariants.{Primary, Secondary}}
use Rattle.mc_trailer.specs.declared.tables.SwapType.{SwapType}
use Rattle.mc_trace.specs.declared.wear.Times.{Times}
use Rattle.mc_flash.specs.declared.flash.Grain.TheVariants as grains
use Rattle.mc_flash.specs.declared.op.Op.TheVariants as ops
use Rattle.mc_trailer.specs.declared.tables.SwapType.TheVariants as kinds

-- What operations ask of a flash.

-- Whether an operation is an erase.
abbrev pub is_erase : Op → Bool
is_erase (ops.Erase slot sector) = true
is_erase (ops.Program slot at bytes) = false
is_erase (ops.Copy from at to offset len) = false

-- How many of the operations are erases.
abbrev pub erases : List Op → ℕ
erases list = count_by is_erase list

-- How many write units an operation writes.
abbrev pub units_of : Geometry → Op → ℕ
units_of g (ops.Erase slot sector) = 0
units_of g (ops.Program slot at bytes) = length bytes / g.unit
units_of g (ops.Copy from at to offset len) = len / g.unit

-- How many the operations write.
abbrev pub units : Geometry → List Op → ℕ
units g list = sum_by (units_of g) list

-- How long they take, in microseconds: the time of an erase for each erase, and that of the write of a unit for each unit.
abbrev pub time : Times → Geometry → List Op → ℕ
time t g list = erases list * t.erase_us + units g list * t.write_us

-- The most erases of one sector, of so many of a slot from one on.
abbrev pub most_erases : Slot → ℕ → ℕ → List Op → ℕ
most_erases slot first count list = fold (λ most sector. max most (all_erases slot sector list)) 0 (range_with_len first count)

-- The most erases of one sector before a slot's trailer, where images lie and move.
abbrev pub most_data_erases : Geometry → Slot → List Op → ℕ
most_data_erases g slot list = most_erases slot 0 (data_sectors g slot) list

-- The most erases of one sector of a slot's trailer.
abbrev pub most_trailer_erases : Geometry → Slot → List Op → ℕ
most_trailer_erases g slot list = most_erases slot (data_sectors g slot) (trailer_sectors g) list

-- The whole swap of that type of the largest images, from its start: `largest_swap` where it is a test, and the revert with its
-- preparation.
abbrev pub whole_swap : Grain → Geometry → SwapType → List Op
whole_swap c g kind = new_list c (in_pieces c g) kind (largest_image g) (greatest_sectors g)

-- No boot takes longer than the revert of the largest images, whatever the flash contains, and by whichever rules.
abbrev pub LongestLaw : Type 0
LongestLaw =
    (t : Times) (x : PowerOn) → IsLayout x.geometry
    → time t x.geometry (ops_of x) ≤ time t x.geometry (whole_swap grains.Call x.geometry kinds.Revert)

-- What `layout` prints of it.

-- The most erases of one sector by the swap for a test: before the trailer, and of the trailer.
unfoldable pub erases_text : Geometry → List ℕ
erases_text g =
    let swap : List Op = largest_swap grains.Call g in
    (codes "primary erases " ++ (decimal (most_data_erases g Primary swap) ++ codes "\n"))
    ++ ((codes "secondary erases " ++ (decimal (most_data_erases g Secondary swap) ++ codes "\n"))
    ++ ((codes "primary trailer-erases " ++ (decimal (most_trailer_erases g Primary swap) ++ codes "\n"))
    ++ (codes "secondary trailer-erases " ++ (decimal (most_trailer_erases g Secondary swap) ++ codes "\n"))))

-- How long the swap for a test takes, and the revert.
unfoldable pub times_text : Geometry → Times → List ℕ
times_text g t =
    (codes "swap-us " ++ (decimal (time t g (largest_swap grains.Call g)) ++ codes "\n"))
    ++ (codes "revert-us " ++ (decimal (time t g (whole_swap grains.Call g kinds.Revert)) ++ codes "\n"))

-- Both, where the times are known.
abbrev pub wear_text : Geometry → Option Times → List ℕ
wear_text g None = erases_text g
wear_text g (Some t) = erases_text g ++ times_text g t
