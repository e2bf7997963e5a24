-- What paths come to, each by how it ends: in exact numbers, as weights of a tree, and cut off.
use Rattle.std.specs.{Option.{option_or}, Prelude.{List, None, Option, Some, [], if◌then◌else◌, max, option_map, take, ℕ, ◌+◌, ◌∷◌}}
use Rattle.mc_boot.specs.Outcome.{Report}
use Rattle.mc_explore.specs.{Census.{cut_number}, Rows.{ShownRow}, Survey.{count_if, is_boot, is_fault, is_none, is_panic}, declared.census.CensusOf.{CensusOf}}
use Rattle.mc_start.specs.Start.{lowered}
use Rattle.mc_tree.specs.inner.Weights.{Weighing}

-- How many paths there are and how many end with each result, the greatest number of operations, and the first path that does not end in
-- a boot, however many there are.
pub record Totals : Type 0 where
  pub schedules : ℕ
  pub boot : ℕ
  pub none : ℕ
  pub panic : ℕ
  pub fault : ℕ
  pub most : ℕ
  pub first : Option (List ℕ)

-- The totals of no paths, and of paths before others.
abbrev pub no_totals : Totals
no_totals = record { schedules = 0; boot = 0; none = 0; panic = 0; fault = 0; most = 0; first = None }

abbrev pub merged : Totals → Totals → Totals
merged a b = record {
  schedules = a.schedules + b.schedules;
  boot = a.boot + b.boot;
  none = a.none + b.none;
  panic = a.panic + b.panic;
  fault = a.fault + b.fault;
  most = max a.most b.most;
  first = option_or a.first b.first;
}

-- The totals with another first schedule.
abbrev pub with_first : (List ℕ → List ℕ) → Totals → Totals
with_first f a = record a { first = option_map f a.first }

-- Of paths that have a step in front, or whose first step is that much lower.
abbrev pub totals : Weighing Totals
totals = record { none = no_totals; merged = merged; prefixed = λ i. with_first (λ l. i ∷ l); first_lowered = λ j. with_first (lowered j) }

-- The totals of a row of a path.
abbrev pub row_totals : ShownRow → Totals
row_totals row = record {
  schedules = 1;
  boot = count_if (is_boot row.outcome.result);
  none = count_if (is_none row.outcome.result);
  panic = count_if (is_panic row.outcome.result);
  fault = count_if (is_fault row.outcome.result);
  most = row.outcome.ops;
  first = if is_boot row.outcome.result then None else Some row.schedule;
}

-- The totals of the path of no steps, which ends so.
abbrev pub report_totals : Report → Totals
report_totals report = row_totals (record { schedule = []; outcome = report })

-- The census of such totals: each count cut off, and a path at 16 steps.
unfoldable pub cut_off : Totals → CensusOf (List ℕ)
cut_off a = record {
  schedules = cut_number a.schedules;
  boot = cut_number a.boot;
  none = cut_number a.none;
  panic = cut_number a.panic;
  fault = cut_number a.fault;
  most_operations = a.most;
  first_not_boot = option_map (take 16) a.first;
}
