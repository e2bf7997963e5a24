-- Hints at places, and where status entries begin.
use Rattle.std.specs.Prelude.{◌≡◌, ℕ, zero, suc, ◌+◌, ◌-◌, ◌<◌, false, List, [], ◌∷◌, ◌++◌, length, drop, get_or}
use Rattle.std.proofs.{Common.{arith, ap, append_assoc}, lemmas.Bool.Decides.{nat_tests}}
use Rattle.mc_flash.specs.{Geometry.{Geometry}, declared.op.Slot.{Slot}}
use Rattle.mc_trace.specs.Hints.{are_entries, entry_span, is_value, magic_text, magics_text}

-- A byte is neither a value of an entry nor 0xff.
record IsOther (b : ℕ) : Type 0 where
  value : is_value b ≡ false
  some : b ≡ 255 → ⊥

-- Such a byte, and what stands before it, are not of status entries together.
not_entries : (bs : List ℕ) (n : ℕ) → n < length bs → IsOther (get_or bs n 0) → are_entries bs ≡ false
not_entries [] n below other = absurd (omega (arith, below))
not_entries (x ∷ xs) zero below other = grind (arith, nat_tests, other.value, other.some)
not_entries (x ∷ xs) (suc n) below other = let rest = not_entries xs n (omega (arith, below)) other in grind (arith, rest)

after_other : (bs : List ℕ) (n : ℕ) → n < length bs → IsOther (get_or bs n 0) → entry_span bs ≡ entry_span (drop (suc n) bs)
after_other [] n below other = absurd (omega (arith, below))
after_other (x ∷ xs) zero below other = grind (arith, nat_tests, other.value)
after_other (x ∷ xs) (suc n) below other =
    let rest = not_entries xs n (omega (arith, below)) other in
    let span = after_other xs n (omega (arith, below)) other in
    grind (arith, rest, span)

no_value : (b : ℕ) → (b ≡ 1 → ⊥) → (b ≡ 2 → ⊥) → (b ≡ 3 → ⊥) → is_value b ≡ false
no_value b one two three = grind (arith, nat_tests, one, two, three)

-- After such a byte all of them begin.
pub last_other : (bs : List ℕ) (n : ℕ) → n < length bs → (get_or bs n 0 ≡ 1 → ⊥) → (get_or bs n 0 ≡ 2 → ⊥) → (get_or bs n 0 ≡ 3 → ⊥) → (get_or bs n 0 ≡ 255 → ⊥)
    → entry_span bs ≡ entry_span (drop (suc n) bs)
last_other bs n below one two three blank = after_other bs n below (record { value = no_value _ one two three; some = blank })

module _ (g : Geometry) (slot : Slot) (bytes : List ℕ) (i n : ℕ) where
  more : i < n → magics_text g slot bytes i (n - i) ≡ magic_text g slot bytes i ++ magics_text g slot bytes (i + 1) (n - (i + 1))
  more below = let one : n - i ≡ suc (n - (i + 1)) = omega (arith, below) in ap (magics_text g slot bytes i) one

  -- A text that grew by the hint at a sector.
  pub grew : (text now whole : List ℕ) → i < n → now ≡ text ++ magic_text g slot bytes i → text ++ magics_text g slot bytes i (n - i) ≡ whole
      → now ++ magics_text g slot bytes (i + 1) (n - (i + 1)) ≡ whole
  grew text now whole below one written = grind (arith, append_assoc, more)
