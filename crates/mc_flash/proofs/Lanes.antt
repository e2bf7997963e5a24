-- A test of all lanes of a vector, of the bytes of a word, and of a list in groups of one length.
use Rattle.std.proofs.Common.{Bool, List, [], ap, arith, cond, drop, eqb, false, get_or, inl, inr, length, map, refl, suc, sym, take, true, zero, ℕ, ◌&&◌, ◌*◌, ◌+◌, ◌/◌, ◌<◌, ◌^◌, ◌∙◌, ◌∷◌, ◌≡◌, ◌≤◌}
use Rattle.std.proofs.{Math.Bool.{and_assoc}, Math.Nat.{two-pow-succ}, lemmas.Bool.{and_cases, and_parts, cases_Bool, eq-eqb, eqb-true, ne_eqb, true≢false}}
use Rattle.std.proofs.{lemmas.List.{drop-drop, length-map, take-append-drop}, lemmas.List.Folds.{list_all-append}, lemmas.Nat.{le_bytes_8}}
use Rattle.std.proofs.lemmas.Simd.{mask_l-lt}
use Rattle.std.specs.{Int.{from_le_bytes, to_le_bytes, w64}, List.{list_all}, Prelude.{replicate}, Simd.{first_chunks}}
use lib.Lanes.{mask_l}

-- A word of bytes that are all 0xff.

-- Bytes that are all alike.
alike : (b : ℕ) (bytes : List ℕ) → list_all (λ x. eqb x b) bytes ≡ true → bytes ≡ replicate (length bytes) b
alike b [] all = refl
alike b (x ∷ xs) all =
    let both = and_parts (eqb x b) (list_all (λ y. eqb y b) xs) all in
    ap (λ y. y ∷ xs) (eqb-true x b both.0) ∙ ap (λ ys. b ∷ ys) (alike b xs both.1)

-- The greatest word has those bytes alone.
pub blank_is_greatest : (bytes : List ℕ) (word : ℕ) → length bytes ≡ 8 → ((i : ℕ) → get_or bytes i 0 < 256) → word ≡ from_le_bytes w64 bytes
    → eqb word 18446744073709551615 ≡ list_all (λ b. eqb b 255) bytes
blank_is_greatest bytes word long small is =
    elim (cases_Bool (list_all (λ b. eqb b 255) bytes)) [
      | inl all ↦
          let filled = alike 255 bytes all ∙ ap (λ n. replicate n 255) long in
          eq-eqb word 18446744073709551615 (is ∙ ap (from_le_bytes w64) filled) ∙ sym all
      | inr some ↦
          ne_eqb word 18446744073709551615 (λ same.
          let back = sym (le_bytes_8 bytes word long small is) ∙ ap (to_le_bytes w64) same in
          let all : list_all (λ b. eqb b 255) bytes ≡ true = ap (list_all (λ b. eqb b 255)) back in
          absurd (cc)) ∙ sym some
    ]

-- A test of all the lanes of a vector, and a test of a list in groups of one length.

at_most_one : (b : Bool) → cond b 1 0 ≤ 1
at_most_one true = omega arith
at_most_one false = omega arith

module _ {X : Type 0} (p : X → Bool) where
  every_bit : (xs : List X) → list_all p xs ≡ true → mask_l (map p xs) + 1 ≡ 2 ^ length xs
  every_bit [] all = refl
  every_bit (x ∷ xs) all =
      let each = and_parts (p x) (list_all p xs) all in
      omega (arith, ap {B = ℕ} (λ b. cond b 1 0) each.0, every_bit xs each.1, two-pow-succ (length xs))

  not_every_bit : (xs : List X) → list_all p xs ≡ false → mask_l (map p xs) + 1 < 2 ^ length xs
  not_every_bit [] some = absurd (true≢false some)
  not_every_bit (x ∷ xs) some =
      elim (and_cases (p x) (list_all p xs) some) [
        | inl here ↦
            let long : 2 ^ length (map p xs) ≡ 2 ^ length xs = ap (λ n. 2 ^ n) (length-map xs p) in
            omega (arith, ap {B = ℕ} (λ b. cond b 1 0) here, mask_l-lt (map p xs), long, two-pow-succ (length xs))
        | inr later ↦ omega (arith, at_most_one (p x), not_every_bit xs later, two-pow-succ (length xs))
      ]

  -- The mask of lanes has every bit where each lane passes.
  pub every_lane : (xs : List X) (most : ℕ) → most + 1 ≡ 2 ^ length xs → eqb (mask_l (map p xs)) most ≡ list_all p xs
  every_lane xs most e =
      elim (cases_Bool (list_all p xs)) [
        | inl all ↦ eq-eqb _ most (omega (arith, every_bit xs all)) ∙ sym all
        | inr some ↦ ne_eqb _ most (λ same. omega (arith, not_every_bit xs some)) ∙ sym some
      ]

  -- Each element passes where those of the first groups do, and the rest.
  all_in_groups : (n k : ℕ) (xs : List X)
      → (list_all (list_all p) (first_chunks n k xs) && list_all p (drop (k * n) xs)) ≡ list_all p xs
  all_in_groups n zero xs = let none : zero * n ≡ 0 = omega arith in ap (λ j. list_all p (drop j xs)) none
  all_in_groups n (suc k) xs =
      let first = list_all p (take n xs) in
      let groups = list_all (list_all p) (first_chunks n k (drop n xs)) in
      let moved : drop (suc k * n) xs ≡ drop (k * n) (drop n xs) =
      ap (λ j. drop j xs) (omega arith) ∙ sym (drop-drop (k * n) n xs) in
      and_assoc first groups (list_all p (drop (suc k * n) xs))
      ∙ ap (λ rest. first && (groups && list_all p rest)) moved
      ∙ ap (λ b. first && b) (all_in_groups n k (drop n xs))
      ∙ sym (list_all-append p (take n xs) (drop n xs))
      ∙ ap (list_all p) (take-append-drop n xs)

  -- The same of what a cut into groups gives, with the test of each group.
  pub by_groups : (n : ℕ) (xs rest : List X) (groups : List (List X)) (all : Bool) → groups ≡ first_chunks n (length xs / n) xs
      → rest ≡ drop (length xs / n * n) xs → all ≡ list_all (list_all p) groups → (all && list_all p rest) ≡ list_all p xs
  by_groups n xs rest groups all prefix back each =
      ap (λ b. b && list_all p rest) (each ∙ ap (list_all (list_all p)) prefix)
      ∙ ap (λ r. list_all (list_all p) (first_chunks n (length xs / n) xs) && list_all p r) back
      ∙ all_in_groups n (length xs / n) xs
