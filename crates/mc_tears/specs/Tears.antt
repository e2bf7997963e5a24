-- What the torn operations of a boot lead to, and its text (docs/FORMAT.md, "Torn operations"): this project's own.
use Rattle.std.specs.List.{list_all, range_with_len}
use Rattle.std.specs.Prelude.{Bool, List, None, Option, Some, [], codes, decimal, flat_map, if◌then◌else◌, length, not, slice_get, sum_by, true, ℕ, ◌++◌, ◌+◌, ◌||◌, ◌≡◌, ◌⊎◌}
use Rattle.mc_boot.specs.{Outcome.{left_by, ops_of}, Plan.{PowerOn, again}, Torn.{IsTorn}}
use Rattle.mc_explore.specs.{Boots.{at_cut}}
use Rattle.mc_flash.specs.{Flash.{Content, IsSized}, Geometry.{IsLayout}, declared.op.Op.{Op}}
use Rattle.mc_tear.specs.{Cases.{cases_of, is_case, tearing_of, torn}, Laws.{AsksApart, ImagesApart}, Readings.{reading_text}, declared.reading.Reading.{Reading}, declared.torn.Erasing.{Erasing}}
use Rattle.mc_tears.specs.{Ends.{Ending, are_alike, end_of, end_text, ends_right}, declared.cases.Asked.{Asked}}

-- How the boot ends after a power cut before operation n of the boot from x.
abbrev pub cut_end : PowerOn → ℕ → Ending
cut_end x n = end_of (again x (at_cut x n))

-- How it ends from the flash that a reading of operation n gives.
unfoldable pub case_end : Erasing → PowerOn → ℕ → Op → Reading → Ending
case_end e x n op r = end_of (again x (torn e x.geometry op (at_cut x n) r))

-- The cases of operation n.
abbrev pub cases_at : Erasing → PowerOn → ℕ → Op → List Reading
cases_at e x n op = cases_of e x.geometry op (at_cut x n)

-- A case is told where all are, and where it ends otherwise than a power cut before the operation and one after it.
abbrev pub is_told : Bool → Ending → Ending → Ending → Bool
is_told all before after end = all || not (are_alike end before || are_alike end after)

abbrev pub line_text : ℕ → Reading → Ending → List ℕ
line_text n r end = decimal n ++ (codes " " ++ (reading_text r ++ (codes " " ++ (end_text end ++ codes "\n"))))

-- The line of a case, if it is told.
unfoldable pub told_text : Bool → ℕ → Ending → Ending → Reading → Ending → List ℕ
told_text all n before after r end = if is_told all before after end then line_text n r end else []

unfoldable pub case_text : Asked → PowerOn → ℕ → Op → Reading → List ℕ
case_text a x n op r = told_text a.all n (cut_end x n) (cut_end x (n + 1)) r (case_end a.erasing x n op r)

-- The lines of operation n.
unfoldable pub op_text : Asked → PowerOn → ℕ → Option Op → List ℕ
op_text a x n None = []
op_text a x n (Some op) = flat_map (case_text a x n op) (cases_at a.erasing x n op)

unfoldable pub number_text : Asked → PowerOn → ℕ → List ℕ
number_text a x n = op_text a x n (slice_get (ops_of x) n)

-- How many cases operation n has, and whether each is right.
unfoldable pub op_count : Erasing → PowerOn → ℕ → Option Op → ℕ
op_count e x n None = 0
op_count e x n (Some op) = length (cases_at e x n op)

unfoldable pub number_count : Erasing → PowerOn → ℕ → ℕ
number_count e x n = op_count e x n (slice_get (ops_of x) n)

unfoldable pub op_right : Asked → PowerOn → ℕ → Option Op → Bool
op_right a x n None = true
op_right a x n (Some op) = list_all (λ r. ends_right a.expectation (case_end a.erasing x n op r)) (cases_at a.erasing x n op)

unfoldable pub number_right : Asked → PowerOn → ℕ → Bool
number_right a x n = op_right a x n (slice_get (ops_of x) n)

-- The numbers of the operations.
abbrev pub numbers : PowerOn → List ℕ
numbers x = range_with_len 0 (length (ops_of x))

-- How many operations the boot has, how many cases these have, and the lines of those that are told.
abbrev pub counts_text : ℕ → ℕ → List ℕ
counts_text operations cases = codes "operations " ++ (decimal operations ++ (codes "\ncases " ++ (decimal cases ++ codes "\n")))

unfoldable pub lines_text : Asked → PowerOn → List ℕ
lines_text a x = flat_map (number_text a x) (numbers x)

unfoldable pub tears_text : Asked → PowerOn → List ℕ
tears_text a x =
    counts_text (length (ops_of x)) (sum_by (number_count a.erasing x) (numbers x)) ++ lines_text a x

-- Each case is right.
unfoldable pub all_right : Asked → PowerOn → Bool
all_right a x = list_all (number_right a x) (numbers x)

-- The flash of a case, if the boot has that operation and this is one of its cases.
abbrev pub op_flash : Erasing → PowerOn → ℕ → Reading → Option Op → Option Content
op_flash e x n r None = None
op_flash e x n r (Some op) =
    if is_case e x.geometry op (at_cut x n) r then Some (torn e x.geometry op (at_cut x n) r) else None

abbrev pub case_flash : Erasing → PowerOn → ℕ → Reading → Option Content
case_flash e x n r = op_flash e x n r (slice_get (ops_of x) n)

-- An end is that after a power cut before operation n or behind it, or that of one of its cases.
abbrev pub IsListedEnd : Erasing → PowerOn → ℕ → Op → Ending → Type 0
IsListedEnd e x n op end =
    (end ≡ cut_end x n)
    ⊎ ((end ≡ cut_end x (n + 1))
    ⊎ ((r : Reading) × (is_case e x.geometry op (at_cut x n) r ≡ true) × (end ≡ case_end e x n op r)))

-- Each flash that a torn operation of a boot may leave ends so, if no image that is asked for there, or in what is left at the end,
-- depends on a trailer.
abbrev pub EachTornEnds : Type 0
EachTornEnds =
    (e : Erasing) (x : PowerOn) (n : ℕ) (op : Op) (v z : Content)
    → IsLayout x.geometry → IsSized x.geometry x.content
    → slice_get (ops_of x) n ≡ Some op → IsTorn (tearing_of e) x.geometry op (at_cut x n) v
    → left_by (again x v) ≡ Some z → AsksApart x.rules x.geometry v → ImagesApart x.geometry z
    → IsListedEnd e x n op (end_of (again x v))
