-- Bytes in hexadecimal digits, one after another.
use Rattle.std.proofs.Common.{◌≡◌, ℕ, suc, ◌+◌, ◌-◌, ◌*◌, ◌/◌, ◌%◌, ◌<◌, ◌≤◌, List, [], ◌∷◌, ◌++◌, length, get_or, slice_index, drop, sym, ap, ◌∙◌, arith, append_assoc, append-nil, length-append, length-drop, drop-cons, drop_of_length-le}
use Rattle.hex.proofs.HexLemmas.{length-encode_with}
use Rattle.hex.specs.Hex.{encode_lower, encode_with, lower_digits}

pub length_beyond : (old bytes : List ℕ) → length (old ++ encode_lower bytes) ≡ length old + 2 * length bytes
length_beyond old bytes = length-append old (encode_lower bytes) ∙ ap (λ n. length old + n) (length-encode_with lower_digits bytes)

module _ (old now bytes : List ℕ) (i : ℕ) (shown : now ++ encode_lower (drop i bytes) ≡ old ++ encode_lower bytes) where
  -- So many are there by then.
  pub length_shown : length now + 2 * (length bytes - i) ≡ length old + 2 * length bytes
  length_shown = omega (arith, ap length shown, length_beyond now (drop i bytes), length_beyond old bytes, length-drop i bytes)

  pub all_shown : length bytes ≤ i → now ≡ old ++ encode_lower bytes
  unfolding encode_with
  all_shown end = sym (append-nil now) ∙ ap (λ (xs : List ℕ). now ++ encode_lower xs) (sym (drop_of_length-le bytes end)) ∙ shown

  module _ (more : i < length bytes) where
    abbrev byte : ℕ
    byte = get_or bytes i 0

    pub next_shown : ((now ++ slice_index lower_digits (byte / 16) ∷ []) ++ slice_index lower_digits (byte % 16) ∷ []) ++ encode_lower (drop (i + 1) bytes)
        ≡ old ++ encode_lower bytes
    unfolding encode_with
    next_shown =
        let e : suc i ≡ i + 1 = omega arith in
        append_assoc (now ++ slice_index lower_digits (byte / 16) ∷ []) (slice_index lower_digits (byte % 16) ∷ []) (encode_lower (drop (i + 1) bytes))
        ∙ append_assoc now (slice_index lower_digits (byte / 16) ∷ []) (slice_index lower_digits (byte % 16) ∷ encode_lower (drop (i + 1) bytes))
        ∙ ap (λ (xs : List ℕ). now ++ encode_lower xs) (sym (drop-cons bytes i 0 more ∙ ap (λ n. byte ∷ drop n bytes) e)) ∙ shown
