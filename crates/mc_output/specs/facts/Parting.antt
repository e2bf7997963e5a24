-- How a text is parted at a separator.
use Rattle.std.specs.{Prelude.{◌≡◌, ◌≢◌, ℕ, suc, ◌<◌, ◌≤◌, ◌^◌, List, [], ◌∷◌, ◌++◌, length, get_or, Option, Some, None, codes, decimal, refl, ⊤}, Borrow.{Bor}}
use Rattle.std.specs.Str.Parse.{AllDigits}
use Rattle.std.proofs.{Common.{arith, ap, ◌∙◌}, lemmas.Fmt.{decimal_is_IsNumeral}, lemmas.Str.Parse.{digit_from_value}}
use Rattle.std.proofs.lemmas.Str.Pattern.{IsSplitOnceResult, split_parts}

module _ (separator : ℕ) where
  -- No separator is in these bytes.
  abbrev pub Lacks : List ℕ → Type 0
  Lacks [] = ⊤
  Lacks (c ∷ cs) = (c ≢ separator) × Lacks cs

  pub lacks_each : (xs : List ℕ) → ((i : ℕ) → i < length xs → get_or xs i 0 ≢ separator) → Lacks xs
  lacks_each [] each = tt
  lacks_each (x ∷ xs) each = (each 0 (omega arith), lacks_each xs (λ i lt. each (suc i) (omega (arith, lt))))

  -- The first separator parts a text in one way.
  pub one_part : (xs us ys vs : List ℕ) → Lacks xs → Lacks us → xs ++ separator ∷ ys ≡ us ++ separator ∷ vs → (xs ≡ us) × (ys ≡ vs)
  one_part [] [] ys vs a b e = (refl, cc)
  one_part [] (u ∷ us) ys vs a b e = absurd (b.0 cc)
  one_part (x ∷ xs) [] ys vs a b e = absurd (a.0 cc)
  one_part (x ∷ xs) (u ∷ us) ys vs a b e =
      let heads : x ≡ u = cc in
      let rest = one_part xs us ys vs a.1 b.1 cc in
      (ap (λ y. y ∷ xs) heads ∙ ap (λ (z : List ℕ). u ∷ z) rest.0, rest.1)

  pub no_part : (xs us vs : List ℕ) → Lacks xs → xs ≡ us ++ separator ∷ vs → ⊥
  no_part [] [] vs a e = absurd cc
  no_part [] (u ∷ us) vs a e = absurd cc
  no_part (x ∷ xs) [] vs a e = a.0 cc
  no_part (x ∷ xs) (u ∷ us) vs a e = no_part xs us vs a.1 cc

  pub lacks_both : (xs ys : List ℕ) → Lacks xs → Lacks ys → Lacks (xs ++ ys)
  lacks_both [] ys a b = b
  lacks_both (x ∷ xs) ys a b = (a.0, lacks_both xs ys a.1 b)

  -- The parts of a text at its first separator.
  pub record AreParts (rest first after : List ℕ) : Type 0 where
    pub parts : rest ≡ first ++ (separator ∷ after)
    pub lacks : Lacks first

  module _ (byte : separator < 128) (rest : List ℕ) (r : Option (Bor (List ℕ) × Bor (List ℕ))) (split : IsSplitOnceResult separator rest r) where
    pub parted : (first after : Bor (List ℕ)) → r ≡ Some (first, after) → AreParts rest first.now after.now
    parted first after is =
        let both = rw is at (split_parts separator rest r split byte) in
        record { parts = both.0; lacks = lacks_each first.now both.1 }

    pub one_piece : r ≡ None → Lacks rest
    one_piece is = lacks_each rest (rw is at (split_parts separator rest r split byte))

  -- A number holds no separator that is no digit.
  module _ (no_digit : (c : ℕ) → c ≡ separator → 48 ≤ c → c ≤ 57 → ⊥) where
    lacks_digits : (ds : List ℕ) → AllDigits 10 ds → Lacks ds
    lacks_digits [] digits = tt
    lacks_digits (d ∷ ds) digits =
        let digit = digit_from_value d digits.0 in
        (λ e. no_digit d e (omega (arith, digit)) (omega (arith, digit)), lacks_digits ds digits.1)

    pub lacks_decimal : (n : ℕ) → n < 2 ^ 32 → Lacks (decimal n)
    lacks_decimal n small = lacks_digits (decimal n) (decimal_is_IsNumeral n (omega (arith, small))).0.1

numeral_no_dash : (ds rest : List ℕ) → AllDigits 10 ds → 0 < length ds → codes "-" ≡ ds ++ rest → ⊥
numeral_no_dash [] rest digits some is = absurd (omega (arith, some))
numeral_no_dash (d ∷ ds) rest digits some is = let first : 45 ≡ d = cc in omega (arith, first, digit_from_value d digits.0)

-- No number begins with a dash.
pub no_dash : (n : ℕ) (rest : List ℕ) → n < 2 ^ 32 → codes "-" ≡ decimal n ++ rest → ⊥
no_dash n rest small is =
    let numeral = (decimal_is_IsNumeral n (omega (arith, small))).0 in
    numeral_no_dash (decimal n) rest numeral.1 numeral.0 is
