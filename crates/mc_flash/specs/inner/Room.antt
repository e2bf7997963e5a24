-- At most 16 bytes in fixed room: the bytes stand first, and zeros fill the rest.
use Rattle.std.proofs.{Common.{ap, arith, sym, ◌∙◌}, lemmas.List.{length-take-le, take-append-drop}}
use Rattle.std.specs.Prelude.{List, drop, length, replicate, take, ℕ, ◌++◌, ◌-◌, ◌≡◌, ◌≤◌}

abbrev pub zeros_after : ℕ → List ℕ
zeros_after n = replicate (16 - n) 0

pub len_again : (room : List ℕ) (len : ℕ) → length room ≡ 16 → len ≤ 16 → length (take len room) ≡ len
len_again room len whole at_most = length-take-le len room (omega arith)

-- the room of the bytes that it begins with
pub room_again : (room : List ℕ) (len : ℕ) → length room ≡ 16 → len ≤ 16 → drop len room ≡ zeros_after len
    → take len room ++ zeros_after (length (take len room)) ≡ room
room_again room len whole at_most rest =
    ap (λ n. take len room ++ zeros_after n) (len_again room len whole at_most)
    ∙ ap (λ (z : List ℕ). take len room ++ z) (sym rest)
    ∙ take-append-drop len room
