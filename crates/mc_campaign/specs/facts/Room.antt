-- At most 16 cuts in fixed room: the cuts stand first, and blanks fill the rest.
use Rattle.std.specs.Prelude.{◌≡◌, ℕ, ◌-◌, ◌≤◌, List, ◌++◌, length, take, drop, replicate}
use Rattle.std.proofs.{Common.{arith}, lemmas.List.{take-append-drop, length-take-le}}

abbrev pub blanks_after : ℕ → List (ℕ × ℕ)
blanks_after n = replicate (16 - n) (1, 0)

pub len_again : (room : List (ℕ × ℕ)) (len : ℕ) → length room ≡ 16 → len ≤ 16 → length (take len room) ≡ len
len_again room len whole at_most = length-take-le len room (omega arith)

-- The room of the cuts that it begins with.
pub room_again : (room : List (ℕ × ℕ)) (len : ℕ) → length room ≡ 16 → len ≤ 16 → drop len room ≡ blanks_after len
    → take len room ++ blanks_after (length (take len room)) ≡ room
room_again room len whole at_most rest = grind (arith, len_again, take-append-drop)
