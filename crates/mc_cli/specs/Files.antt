-- What is known of files.
use Rattle.std.specs.Prelude.{List, None, Option, ℕ, ◌≡◌, ◌⊎◌}

-- What a file holds, by its path, where that is known.
abbrev pub Holds : Type 0
Holds = List ℕ → Option (List ℕ)

-- Two paths may lead to one file: they are one text, or of neither it is known what it holds.
abbrev pub MayBeOne : Holds → List ℕ → List ℕ → Type 0
MayBeOne holds first second = (first ≡ second) ⊎ ((holds first ≡ None) × (holds second ≡ None))
