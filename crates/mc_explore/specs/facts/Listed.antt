-- The rows of schedules are listed as those of a tree.
use Rattle.std.proofs.Common.{◌≡◌, ℕ, List, map, Option, Some, option_and_then, refl, sym, ap, ◌∙◌}
use Rattle.mc_flash.specs.Flash.{Content}
use Rattle.mc_boot.specs.{facts.Run.{outcome_defined}, Outcome.{Report, outcome_of}}
use Rattle.mc_tree.specs.Tree.{landed, Allowed, Precedes}
use Rattle.mc_tree.specs.facts.Existence as existence
use Rattle.mc_tree.specs.{facts.Existence.{AreRows, all_from, all_rest}, facts.Order.{paths_in_order}}
use Rattle.mc_explore.specs.Pages.{IsLawful}
use Rattle.mc_explore.specs.Boots.{boots}
use Rattle.mc_explore.specs.{Rows.{IsRow, IsRest, schedules, subject, State, ShownRow, HasOutcome, at_start, outcome_after}, Subject.{are_lawful}}
use Rattle.mc_explore.specs.facts.Occurring.{allowed_after, landed_again, member_of, path_of}
use Rattle.mc_boot.specs.Plan.{PowerOn, again}

one_outcome : (a b : List ℕ) (x y : Report) (o : List ℕ → Option Report) → a ≡ b → o a ≡ Some x → o b ≡ Some y → x ≡ y
one_outcome a b x y o e p q = let f : o a ≡ o b = ap o e in cc

summary_of : List ℕ → Report → ShownRow
summary_of l report = record { schedule = l; outcome = report }

summary_is : (a b : List ℕ) (x y : Report) → a ≡ b → x ≡ y → summary_of a x ≡ summary_of b y
summary_is a b x y e f = cc

module _ (start : PowerOn) where
  -- A schedule has one outcome.
  same_row : (x y : ShownRow) → HasOutcome start x → HasOutcome start y → x.schedule ≡ y.schedule → x ≡ y
  unfolding summary_of
  same_row x y p q e =
      summary_is x.schedule y.schedule x.outcome y.outcome e (one_outcome x.schedule y.schedule x.outcome y.outcome (outcome_after start) e p q)

  -- The row of a schedule, with the outcome of the uncut boot after it.
  abbrev pub report_after : List ℕ → Report
  report_after l = (outcome_defined (landed boots start l)).0

  abbrev pub row_at : List ℕ → ShownRow
  row_at l = record { schedule = l; outcome = report_after l }

  pub lands_summary : (l : List ℕ) → Allowed boots start l → outcome_after start l ≡ outcome_of (landed boots start l)
  unfolding outcome_after
  lands_summary l a =
      ap (λ (o : Option Content). option_and_then (λ u. outcome_of (again start u)) o) (allowed_after start l a) ∙ ap outcome_of (sym (landed_again start l))

  has_outcome : (l : List ℕ) → Allowed boots start l → HasOutcome start (row_at l)
  has_outcome l a = lands_summary l a ∙ (outcome_defined (landed boots start l)).1

  are_rows : (bound : ℕ) → AreRows Precedes paths_in_order (λ row. row.schedule) (IsRow start bound) boots start bound row_at
  are_rows bound = record {
    in_order = λ l m i j before. before;
    is_row = λ l m. record { listed = member_of start bound l m; outcome = has_outcome l m.1 };
    only = λ row is.
        let m = path_of start bound row.schedule is.listed in
        (row.schedule, m, same_row row (row_at row.schedule) is.outcome (has_outcome row.schedule m.1) refl);
  }

-- The rows from the start, as those of all paths.
pub all_rows : (start : PowerOn) (bound : ℕ) → IsRest (at_start start bound) (map (row_at start) (all_from boots bound start))
all_rows start bound =
    all_rest Precedes paths_in_order (λ row. row.schedule) (IsRow start bound) boots start bound (row_at start) (are_rows start bound)

pub some_rest : (state : State) → (rows : List ShownRow) × IsRest state rows
some_rest state =
    existence.some_rest Precedes paths_in_order (λ row. row.schedule) (IsRow state.start state.bound) boots state.start state.bound
    (row_at state.start) (are_rows state.start state.bound) state.position

pub schedules_are_lawful : IsLawful schedules
schedules_are_lawful = are_lawful subject paths_in_order some_rest
