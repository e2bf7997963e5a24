use Rattle.std.specs.Prelude.{ℕ, ◌<◌, ◌≡◌}
use Rattle.mc_tear.specs.Readings.{reading_of, reading_text}
use Rattle.mc_tear.proofs.reading.Reading.read.Given as goal

abbrev pub invariant-loop-number : goal.invariant-loop-number
invariant-loop-number l = (n : ℕ) → n < l.number → l.text ≡ reading_text (reading_of n) → ⊥
