-- What a picture says of one sector, and of those after it.
use Rattle.std.specs.Prelude.{◌≡◌, ℕ, suc, ◌+◌, ◌-◌, ◌<◌, ◌≤◌, true, false, List, [], ◌∷◌, ◌++◌, length, take, codes, bytes_eq, Some}
use Rattle.std.proofs.Common.{arith, ap, append_assoc}
use Rattle.mc_flash.specs.{Flash.{Content}, Geometry.{Geometry}, declared.op.Slot.{Slot}}
use Rattle.mc_trace.specs.{declared.cells.Words.{Words}, Sectors.{first_like, sector_of, sector_word, sector_words}}

one_more : (i n : ℕ) → i < n → n - i ≡ suc (n - (i + 1))
one_more i n below = omega (arith, below)

none_more : (i n : ℕ) → n ≤ i → n - i ≡ 0
none_more i n over = omega (arith, over)

module _ (g : Geometry) (slot bytes : List ℕ) (i n : ℕ) where
  pub like_here : i < n → bytes_eq (take (length bytes) (sector_of g slot i)) bytes ≡ true → first_like g slot bytes i (n - i) ≡ Some i
  like_here below same = grind arith

  pub like_next : i < n → bytes_eq (take (length bytes) (sector_of g slot i)) bytes ≡ false → first_like g slot bytes i (n - i) ≡ first_like g slot bytes (i + 1) (n - (i + 1))
  like_next below other = grind arith

module _ (kind : Words) (g : Geometry) (start : Content) (at : Slot) (slot : List ℕ) (i n : ℕ) where
  pub words_next : i < n → sector_words kind g start at slot i (n - i) ≡ codes " " ++ (sector_word kind g start at i (sector_of g slot i) ++ sector_words kind g start at slot (i + 1) (n - (i + 1)))
  words_next below = ap (sector_words kind g start at slot i) (one_more i n below)

  -- A text that grew by a word.
  pub grew : (text now whole : List ℕ) → i < n → now ≡ text ++ (codes " " ++ sector_word kind g start at i (sector_of g slot i)) → text ++ sector_words kind g start at slot i (n - i) ≡ whole
      → now ++ sector_words kind g start at slot (i + 1) (n - (i + 1)) ≡ whole
  grew text now whole below one written = grind (arith, append_assoc, words_next)

  -- And its end.
  pub ended : (before named text now : List ℕ) (whole : List ℕ) → n ≤ i → text ++ sector_words kind g start at slot i (n - i) ≡ (before ++ named) ++ whole → now ≡ text ++ 10 ∷ []
      → now ≡ before ++ (named ++ (whole ++ 10 ∷ []))
  ended before named text now whole over written last = grind (arith, append_assoc)
