-- The cells of a slot, one after another.
use Rattle.std.specs.Prelude.{◌≡◌, ℕ, suc, ◌+◌, ◌-◌, ◌<◌, ◌≤◌, Bool, List, [], ◌++◌, Option, Result, Ok, Err, true, false, if◌then◌else◌}
use Rattle.std.specs.Io.KnownBytes.{Appends}
use Rattle.std.proofs.Common.{arith, sym, ap, subst, append-nil, ◌∙◌}
use Rattle.mc_flash.specs.{Flash.{Content, sectors_of}, Geometry.{Geometry}, declared.op.Slot.{Slot}}
use Rattle.mc_output.specs.{Text.{AppendsPrefix}, facts.Prefixes.{IsOut, out_all, out_begun, out_more, out_prefix}}
use Rattle.mc_trace.specs.{Frames.{cell_at, cells_from, inner_run, run_text, runs_text, slot_cells}, Runs.{before_by, joins, next_run, one_more, run_of}}
use Rattle.mc_trace.specs.{declared.cells.Cell.{Cell}, declared.frame.Look.{Look}, declared.runs.Run.{Run}, inner.Boots.{WritesText}}

module _ (look : Look) (g : Geometry) (start : Content) (slot : Slot) (bytes : List ℕ) (target : Option ℕ) where
  abbrev n : ℕ
  n = sectors_of g slot

  abbrev whole : List ℕ
  whole = slot_cells look g start slot bytes target

  -- What is still to come, a run before sector i among it.
  abbrev pub left : Run → ℕ → List ℕ
  left run i = runs_text look run (cells_from g start slot bytes target i (n - i))

  pub begun : 0 < n → (before : Option (List ℕ)) → IsOut before before whole (left (run_of (cell_at g start slot bytes target 0)) 1)
  begun some before = grind (arith, out_begun)

  module _ (i : ℕ) (before mid new : Option (List ℕ)) (run : Run) (out : IsOut before mid whole (left run i)) where
    step : i < n → left run i ≡ before_by (inner_run look.form) look.merges run (cell_at g start slot bytes target i) ++ left (next_run look.merges run (cell_at g start slot bytes target i)) (i + 1)
    step more = let e : n - i ≡ suc (n - (i + 1)) = omega (arith, more) in ap (λ k. runs_text look run (cells_from g start slot bytes target i k)) e

    pub cell_out : i < n → Appends mid new (before_by (inner_run look.form) look.merges run (cell_at g start slot bytes target i))
        → IsOut before new whole (left (next_run look.merges run (cell_at g start slot bytes target i)) (i + 1))
    cell_out more p = out_more before mid new whole _ _ (subst (IsOut before mid whole) (step more) out) p

    pub cell_begun : i < n → AppendsPrefix mid new (before_by (inner_run look.form) look.merges run (cell_at g start slot bytes target i)) → AppendsPrefix before new whole
    cell_begun more p = out_prefix before mid new whole _ _ (subst (IsOut before mid whole) (step more) out) p

    last : n ≤ i → left run i ≡ run_text look.form run ++ []
    last end = let e : n - i ≡ 0 = omega (arith, end) in ap (λ k. runs_text look run (cells_from g start slot bytes target i k)) e ∙ sym (append-nil (run_text look.form run))

    last_out : n ≤ i → Appends mid new (run_text look.form run) → Appends before new whole
    last_out end p = out_all before new whole (out_more before mid new whole (run_text look.form run) [] (subst (IsOut before mid whole) (last end) out) p)

    last_begun : n ≤ i → AppendsPrefix mid new (run_text look.form run) → AppendsPrefix before new whole
    last_begun end p = out_prefix before mid new whole (run_text look.form run) [] (subst (IsOut before mid whole) (last end) out) p

    pub last_by : {A E : Type 0} (r : Result A E) → n ≤ i → WritesText r mid new (run_text look.form run) → WritesText r before new whole
    last_by (Ok _) end p = last_out end p
    last_by (Err _) end p = last_begun end p

-- A run has at most one cell more, and never none.
pub next_count : (merges : Bool) (r : Run) (cell : Cell × Bool) → ((next_run merges r cell).count ≤ r.count + 1) × (1 ≤ (next_run merges r cell).count)
next_count merges r cell = by (joins merges r cell)
  where
    by : (b : Bool) → ((if b then one_more r cell.0 else run_of cell).count ≤ r.count + 1) × (1 ≤ (if b then one_more r cell.0 else run_of cell).count)
    by true = (omega arith, omega arith)
    by false = (omega arith, omega arith)
