-- The line of a row, as it is kept.
use Rattle.std.specs.Prelude.{List, Option, Some, [], length, ℕ, ◌++◌, ◌+◌, ◌<◌, ◌∷◌, ◌≡◌, ◌≢◌, ◌≤◌, ◌⊎◌}
use Rattle.mc_explore.specs.{Subject.{Subject}, declared.boot_row.BootRow.{BootRow}, inner.Exploring.{Edge, Rowed}}
use Rattle.mc_walk.specs.declared.tour.Phase.TheVariants.{Broken}

-- Of a text the last of the first so many bytes is a digit below 9, and that of the other is the next digit; all else is the same.
abbrev pub IsNextLine : ℕ → List ℕ → List ℕ → Type 0
IsNextLine key old new =
    (1 ≤ key) × (key ≤ length old) × ((front back : List ℕ) (digit : ℕ) → old ≡ front ++ digit ∷ back → key ≡ length front + 1 → (48 ≤ digit) × (digit < 57) × (new ≡ front ++ (digit + 1) ∷ back))

-- A text is the line of a row, and so many of its bytes are those of the row's key.
abbrev pub IsLine : {C K R U : Type 0} → Subject C K R U → R → List ℕ → ℕ → Type 0
IsLine x row text key = (text ≡ x.row_text row ++ 10 ∷ []) × (key ≡ length (x.key_text (x.key row)))

-- It is that of that row, or nothing.
abbrev pub IsLineOf : {C K R U : Type 0} → Subject C K R U → Edge C K R → Option BootRow → List ℕ → ℕ → Type 0
IsLineOf x edge row text key =
    (text ≡ []) ⊎ ((r : BootRow) × (row ≡ Some r) × IsLine x (edge.shown_of r) text key)

-- What is kept with rows that have not failed.
abbrev pub KeepsLine : {B C K R U : Type 0} → Subject C K R U → Edge C K R → Rowed B BootRow → List ℕ → ℕ → Type 0
KeepsLine x edge rows text key = rows.phase ≢ Broken → IsLineOf x edge rows.row text key
