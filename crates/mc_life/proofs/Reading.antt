-- How the bytes of a torn confirmation are read.
use Rattle.std.specs.Prelude.{◌≡◌, ℕ, ◌*◌, List, ◌++◌, length, take, drop, Result, Ok, Err, MatchResult, true, is_err}
use Rattle.std.proofs.{Common.{arith, ap}, lemmas.List.{take_at}}
use Rattle.hex.specs.{Hex.{IsBytes, decode_sized, encode_lower, lower_digits}, declared.error.FromHexError.{FromHexError}}
use Rattle.hex.proofs.HexLemmas.{length-encode_with, decode_of-encode_lower}

-- ---- digits

in_room : (d : List ℕ) (whole : Result (List ℕ) FromHexError) (out : List ℕ) (r : Result (Unit {0}) FromHexError) → whole ≡ Ok d
    → MatchResult whole (λ bytes. (r ≡ Ok tt) × (out ≡ bytes)) (λ e. r ≡ Err e) → (r ≡ Ok tt) × (out ≡ d)
in_room d it out r is found = grind arith

pub long : (d text : List ℕ) → text ≡ encode_lower d → length text ≡ 2 * length d
long d text is = let n = ap (λ (z : List ℕ). length z) is in omega (arith, n, length-encode_with lower_digits d)

pub digits_read : (d text out : List ℕ) (r : Result (Unit {0}) FromHexError) (room : ℕ) → length d ≡ room → IsBytes d → text ≡ encode_lower d
    → MatchResult (decode_sized text room) (λ bytes. (r ≡ Ok tt) × (out ≡ bytes)) (λ e. r ≡ Err e) → (r ≡ Ok tt) × (out ≡ d)
digits_read d text out r room len bytes is found = grind (arith, length-encode_with, decode_of-encode_lower)

pub no_error : {E : Type 0} (r : Result (Unit {0}) E) → r ≡ Ok tt → true ≡ is_err r → ⊥
no_error it is wrong = grind arith

-- The prefix of some bytes in which others were put.
pub prefix_bytes : (new old : List ℕ) (n m : ℕ) → length new ≡ n → take n (new ++ drop m old) ≡ new
prefix_bytes new old n m len = take_at new (drop m old) n len
