-- The words of the sectors of a slot, one run after another.
use Rattle.std.specs.Prelude.{◌≡◌, ℕ, suc, ◌+◌, ◌-◌, ◌<◌, ◌≤◌, Bool, List, ◌++◌, Option, true, false}
use Rattle.std.proofs.Common.{arith, ap, append_assoc, sym}
use Rattle.mc_flash.specs.{Flash.{Content, sectors_of}, Geometry.{Geometry}, declared.op.Slot.{Slot}}
use Rattle.mc_trace.specs.{Runs.{before_by, next_run, run_of, runs_by}, Sectors.{cell_by, sector_of}, SlotWords.{cells_by, run_words, spaced_word}}
use Rattle.mc_trace.specs.{declared.cells.Cell.{Cell}, declared.runs.Run.{Run}}

module _ (g : Geometry) (named : Option Content) (slot : Slot) (bytes : List ℕ) where
  abbrev n : ℕ
  n = sectors_of g slot

  abbrev cell : ℕ → Cell × Bool
  cell i = (cell_by g named slot i (sector_of g bytes i), false)

  -- The words that are still to come, that of a run before sector i among them.
  abbrev pub left : Run → ℕ → List ℕ
  left run i = runs_by spaced_word spaced_word true run (cells_by g named slot bytes i (n - i))

  abbrev pub whole : List ℕ
  whole = run_words (cells_by g named slot bytes 0 n)

  pub begun : 0 < n → left (run_of (cell 0)) 1 ≡ whole
  begun some = let e : n ≡ suc (n - 1) = omega (arith, some) in sym (ap (λ k. run_words (cells_by g named slot bytes 0 k)) e)

  module _ (i : ℕ) (run : Run) where
    step : i < n → left run i ≡ before_by spaced_word true run (cell i) ++ left (next_run true run (cell i)) (i + 1)
    step more = let e : n - i ≡ suc (n - (i + 1)) = omega (arith, more) in ap (λ k. runs_by spaced_word spaced_word true run (cells_by g named slot bytes i k)) e

    -- A text that grew by what comes before a cell.
    pub grew : (text now all : List ℕ) → i < n → now ≡ text ++ before_by spaced_word true run (cell i) → text ++ left run i ≡ all
        → now ++ left (next_run true run (cell i)) (i + 1) ≡ all
    grew text now all more one written = let e = step more in grind (arith, append_assoc, e)

    last : n ≤ i → left run i ≡ spaced_word run
    last end = let e : n - i ≡ 0 = omega (arith, end) in ap (λ k. runs_by spaced_word spaced_word true run (cells_by g named slot bytes i k)) e

    -- And its end.
    pub ended : (text now all : List ℕ) → n ≤ i → now ≡ text ++ spaced_word run → text ++ left run i ≡ all → now ≡ all
    ended text now all end one written = let e = last end in grind (arith, e)
