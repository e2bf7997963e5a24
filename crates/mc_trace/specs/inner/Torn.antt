-- The lines of torn cases that were found for a page, boot by boot.
use Rattle.std.specs.Prelude.{List, None, Option, Some, [], length, slice_get, ℕ, ◌++◌, ◌<◌, ◌∷◌, ◌≡◌}
use Rattle.mc_boot.specs.{Outcome.{ops_of}, Plan.{PowerOn, again}}
use Rattle.mc_explore.specs.{Boots.{at_cut}, declared.expectation.Expectation.{Expectation}}
use Rattle.mc_tear.specs.declared.torn.Erasing.{Erasing}
use Rattle.mc_trace.specs.Frames.{torn_lines}

-- Those of an operation, by its number; those of the first boot, and of the others.
abbrev pub text_or : Option (List ℕ) → List ℕ
text_or None = []
text_or (Some text) = text

abbrev pub line_at : List (List ℕ) → ℕ → List ℕ
line_at lines n = text_or (slice_get lines n)

abbrev pub first_boot : List (List (List ℕ)) → List (List ℕ)
first_boot [] = []
first_boot (lines ∷ later) = lines

abbrev pub later_boots : List (List (List ℕ)) → List (List (List ℕ))
later_boots [] = []
later_boots (lines ∷ later) = later

-- They are those of the boot from x; and those of the boots of some cuts, and of the last one.
abbrev pub AreTorn : Option Erasing → Expectation → PowerOn → List (List ℕ) → Type 0
AreTorn torn e x lines = (n : ℕ) → n < length (ops_of x) → line_at lines n ≡ torn_lines torn e x n

abbrev pub AreTornAlong : Option Erasing → Expectation → PowerOn → List ℕ → List (List (List ℕ)) → Type 0
AreTornAlong torn e x [] boots = AreTorn torn e x (first_boot boots)
AreTornAlong torn e x (cut ∷ cuts) boots = AreTorn torn e x (first_boot boots) × AreTornAlong torn e (again x (at_cut x cut)) cuts (later_boots boots)

-- They were added to those of other boots.
abbrev pub AddsTorn : Option Erasing → Expectation → PowerOn → List ℕ → List (List (List ℕ)) → List (List (List ℕ)) → Type 0
AddsTorn torn e x cuts old new = (more : List (List (List ℕ))) × (new ≡ old ++ more) × AreTornAlong torn e x cuts more
