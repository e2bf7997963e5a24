-- What is counted of the rows of a page in place of their text.
use Rattle.std.specs.Prelude.{All, Bool, List, None, Option, Some, [], codes, count_by, decimal, drop, false, fold, length, map, max, true, ℕ, ◌++◌, ◌+◌, ◌<◌, ◌∷◌, ◌≡◌, ◌≤◌, ◌⊎◌}
use Rattle.std.specs.Str.Iter.{LacksByte}
use Rattle.mc_boot.specs.{Outcome.{Report}, declared.outcome.BootResult.{BootResult}}
use Rattle.mc_explore.specs.{Page.{Page, page_at, row_line, state_past}, Rows.{IsRest, State, ShownRow, moved_to, report_of, row_text}}
use Rattle.mc_explore.specs.{Subject.{Subject, rows_of}, declared.tally.TallyOf.{TallyOf}}
use Rattle.mc_start.specs.{Start.{IsSchedule, schedule_text}, declared.cursor.Cursor.{Cursor}}
use Rattle.mc_explore.specs.Pages as pages
use Rattle.mc_boot.specs.declared.outcome.BootResult.TheVariants as results

-- The tests of a result.
abbrev pub is_boot : BootResult → Bool
is_boot results.Boot = true
is_boot results.None = false
is_boot results.Panic = false
is_boot results.Fault = false

abbrev pub is_none : BootResult → Bool
is_none results.Boot = false
is_none results.None = true
is_none results.Panic = false
is_none results.Fault = false

abbrev pub is_panic : BootResult → Bool
is_panic results.Boot = false
is_panic results.None = false
is_panic results.Panic = true
is_panic results.Fault = false

abbrev pub is_fault : BootResult → Bool
is_fault results.Boot = false
is_fault results.None = false
is_fault results.Panic = false
is_fault results.Fault = true

-- Rows of whatever is explored are counted by how each of them ends.
module _ {R : Type 0} (ends : R → Report) where
  -- Each of some rows ends in a boot.
  abbrev pub AllEndInBoot : List R → Type 0
  AllEndInBoot rows = All (λ row. (ends row).result ≡ results.Boot) rows

  -- How many of some rows end with such a result.
  abbrev pub ending_with : (BootResult → Bool) → List R → ℕ
  ending_with test rows = count_by (λ row. test (ends row).result) rows

  -- The greatest number of operations among some rows, 0 where there are none.
  abbrev pub most_ops : List R → ℕ
  most_ops rows = fold (λ most row. max most (ends row).ops) 0 rows

  -- How many rows a page has, how many with each result, the greatest number of operations, and where to go on.
  abbrev pub tally_by : {U : Type 0} → pages.Page R U → TallyOf U
  tally_by page = record {
    rows = length page.rows;
    boot = ending_with is_boot page.rows;
    none = ending_with is_none page.rows;
    panic = ending_with is_panic page.rows;
    fault = ending_with is_fault page.rows;
    most_ops = most_ops page.rows;
    next = page.goes_on;
  }

  -- The tally of rows that do not fill a page.
  abbrev pub tally_by_now : {U : Type 0} → List R → TallyOf U
  tally_by_now rows = tally_by (record { rows = rows; goes_on = None })

-- One where the test holds.
abbrev pub count_if : Bool → ℕ
count_if true = 1
count_if false = 0

-- A tally of no rows, and with one row more, which ends so.
abbrev pub no_tally : {U : Type 0} → TallyOf U
no_tally = record { rows = 0; boot = 0; none = 0; panic = 0; fault = 0; most_ops = 0; next = None }

abbrev pub one_row_more : {U : Type 0} → Report → TallyOf U → TallyOf U
one_row_more report t = record {
  rows = t.rows + 1;
  boot = t.boot + count_if (is_boot report.result);
  none = t.none + count_if (is_none report.result);
  panic = t.panic + count_if (is_panic report.result);
  fault = t.fault + count_if (is_fault report.result);
  most_ops = max t.most_ops report.ops;
  next = t.next;
}

-- No result was counted more often than there are rows.
pub record IsWithin {U : Type 0} (t : TallyOf U) : Type 0 where
  pub boot : t.boot ≤ t.rows
  pub none : t.none ≤ t.rows
  pub panic : t.panic ≤ t.rows
  pub fault : t.fault ≤ t.rows

-- Rows of schedules.

abbrev pub Tally : Type 0
Tally = TallyOf Cursor

abbrev pub tally_of : Page → Tally
tally_of = tally_by report_of

-- Six lines of numbers.
abbrev pub counts_text : {U : Type 0} → TallyOf U → List ℕ
counts_text t =
    codes "rows " ++ (decimal t.rows ++ (codes "\nboot " ++ (decimal t.boot ++ (codes "\nnone " ++ (decimal t.none
    ++ (codes "\npanic " ++ (decimal t.panic ++ (codes "\nfault " ++ (decimal t.fault ++ (codes "\nmost-ops " ++ (decimal t.most_ops ++ codes "\n")))))))))))

-- And the last line of the page.
abbrev pub tally_text : {C K R U : Type 0} → Subject C K R U → TallyOf U → List ℕ
tally_text x t = counts_text t ++ pages.last_line (rows_of x) t.next

-- That is the tally of the page of the rows to come, and the explorer is past its rows.
pub record Surveys (old new : State) (limit : ℕ) (tally : Tally) : Type 0 where
  pub rows : List ShownRow
  pub rest : IsRest old rows
  pub tally_is : tally ≡ tally_of (page_at old limit rows)
  pub left : IsRest new (drop limit rows)
  pub past : new ≡ state_past old limit rows

-- A page of which only a beginning is out, and where to go on.

-- The whole lines of a text, without their line feeds: what stands before the first line feed, and the whole lines after it.
abbrev pub AreLines : List ℕ → List (List ℕ) → Type 0
AreLines text [] = LacksByte 10 text
AreLines text (line ∷ lines) = (rest : List ℕ) × (text ≡ line ++ 10 ∷ rest) × LacksByte 10 line × AreLines rest lines

-- A row line: what stands before its first space is the text of that schedule.
pub record IsRowLine (l line : List ℕ) : Type 0 where
  pub schedule : IsSchedule l
  pub rest : List ℕ
  pub parts : line ≡ schedule_text l ++ 32 ∷ rest
  pub first_space : LacksByte 32 (schedule_text l)

-- The row lines among some lines, in their order.
abbrev pub AreRowLines : List (List ℕ) → List (List ℕ) → Type 0
AreRowLines [] found = found ≡ []
AreRowLines (line ∷ lines) found =
    ((l : List ℕ) × (more : List (List ℕ)) × IsRowLine l line × (found ≡ line ∷ more) × AreRowLines lines more)
    ⊎ (((l : List ℕ) → IsRowLine l line → ⊥) × AreRowLines lines found)

-- The whole row lines of a text.
pub record HasRows (text : List ℕ) (found : List (List ℕ)) : Type 0 where
  pub lines : List (List ℕ)
  pub whole : AreLines text lines
  pub rows : AreRowLines lines found

-- The schedule of the last of some row lines, or none where there are none.
abbrev pub IsOfLast : List (List ℕ) → Option (List ℕ) → Type 0
IsOfLast found None = found ≡ []
IsOfLast found (Some l) = (prefix : List (List ℕ)) × (line : List ℕ) × (found ≡ prefix ++ line ∷ []) × IsRowLine l line

-- The schedule of the last whole row line of a text.
abbrev pub IsLastRow : List ℕ → Option (List ℕ) → Type 0
IsLastRow text last = (found : List (List ℕ)) × HasRows text found × IsOfLast found last

-- Those rows are whole in the torn page, and with the rows of the whole list after the last of them they are those that were to
-- come when the page began.
pub record ContinuesAfter (state : State) (rows : List ShownRow) (torn l : List ℕ) : Type 0 where
  pub whole : List ShownRow
  pub later : List ShownRow
  pub lines : HasRows torn (map row_text whole)
  pub rest : IsRest (moved_to state l) later
  pub joined : whole ++ later ≡ rows

-- One goes on after the last whole row. Where there is none, the page is torn within its first row, and its own start serves.
abbrev pub Continues : State → List ShownRow → List ShownRow → List ℕ → Option (List ℕ) → Type 0
Continues state rows page torn (Some l) = ContinuesAfter state rows torn l
Continues state rows page torn None =
    HasRows torn [] × ((row : ShownRow) (more : List ShownRow) → page ≡ row ∷ more → length torn < length (row_line row))
