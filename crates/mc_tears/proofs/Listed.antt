-- Numbers that are gone through one after another, and the cases among readings.
use Rattle.std.proofs.{Common.{ap, arith, inl, inr, ◌∙◌}, lemmas.Bool.{cases_lt}}
use mir.Val.{bool_byte}
use Rattle.std.specs.List.{list_all, range_with_len}
use Rattle.std.specs.Prelude.{Bool, List, [], false, filter, flat_map, if◌then◌else◌, length, map, refl, suc, true, zero, ℕ, ◌&&◌, ◌++◌, ◌+◌, ◌-◌, ◌<◌, ◌∷◌, ◌≡◌, ◌≤◌}
use Rattle.mc_flash.specs.{Flash.{Content}, Geometry.{Geometry}, declared.op.Op.{Op}}
use Rattle.mc_tear.specs.{Cases.{cases_of, fields_of, is_case, names}, Readings.{reading_of}, declared.reading.Reading.{Reading}, declared.torn.Erasing.{Erasing}}

-- The numbers from there to an end.
abbrev pub up_to : ℕ → ℕ → List ℕ
up_to end n = range_with_len n (end - n)

next_of : (end n k : ℕ) → end - n ≡ suc k → up_to end n ≡ n ∷ up_to end (n + 1)
next_of end n k is =
    let rest : end - (n + 1) ≡ k = omega (arith, is) in
    ap (range_with_len n) is ∙ ap (λ (m : ℕ). n ∷ range_with_len (n + 1) m) (omega (arith, rest))

pub up_to_next : (end n : ℕ) → n < end → up_to end n ≡ n ∷ up_to end (n + 1)
up_to_next end n early = next_of end n (end - n - 1) (omega (arith, early))

pub up_to_end : (end n : ℕ) → end ≤ n → up_to end n ≡ []
up_to_end end n late = let none : end - n ≡ 0 = omega (arith, late) in ap (range_with_len n) none

pub up_to_first : (end : ℕ) → up_to end 0 ≡ range_with_len 0 end
up_to_first end = let all : end - 0 ≡ end = omega arith in ap (range_with_len 0) all

-- A test as a number.
pub as_number : (b : Bool) (n : ℕ) → n ≡ bool_byte b → n ≡ (if b then 1 else 0)
as_number true n is = is
as_number false n is = is

pub at_most_one : (b : Bool) (n : ℕ) → n ≡ bool_byte b → n ≤ 1
at_most_one true n is = omega (arith, is)
at_most_one false n is = omega (arith, is)

module _ (e : Erasing) (g : Geometry) (op : Op) (s : Content) where
  -- Whether that reading is a case; and the cases from that number on.
  abbrev pub here : ℕ → Bool
  here n = is_case e g op s (reading_of n)

  unfoldable pub cases_from : ℕ → List Reading
  cases_from n = filter (is_case e g op s) (map reading_of (up_to 192 n))

  pub cases_first : cases_from 0 ≡ cases_of e g op s
  unfolding cases_from cases_of
  cases_first = refl

  with_next : (n : ℕ) → n < 192 → cases_from n ≡ filter (is_case e g op s) (reading_of n ∷ map reading_of (up_to 192 (n + 1)))
  unfolding cases_from
  with_next n early = ap (λ (l : List ℕ). filter (is_case e g op s) (map reading_of l)) (up_to_next 192 n early)

  pub is_next : (n : ℕ) → n < 192 → here n ≡ true → cases_from n ≡ reading_of n ∷ cases_from (n + 1)
  unfolding cases_from
  is_next n early is = rw is at (with_next n early)

  pub is_none : (n : ℕ) → n < 192 → here n ≡ false → cases_from n ≡ cases_from (n + 1)
  unfolding cases_from
  is_none n early is = rw is at (with_next n early)

  -- What is written of the cases, whether each is right, and how many there are.
  pub text_next : (f : Reading → List ℕ) (n : ℕ) → n < 192 → flat_map f (cases_from n) ≡ (if here n then f (reading_of n) else []) ++ flat_map f (cases_from (n + 1))
  text_next f n early = by (here n) refl
    where
      by : (b : Bool) → here n ≡ b → flat_map f (cases_from n) ≡ (if here n then f (reading_of n) else []) ++ flat_map f (cases_from (n + 1))
      by true is = rw is (ap (flat_map f) (is_next n early is))
      by false is = rw is (ap (flat_map f) (is_none n early is))

  pub right_next : (q : Reading → Bool) (n : ℕ) → n < 192 → list_all q (cases_from n) ≡ ((if here n then q (reading_of n) else true) && list_all q (cases_from (n + 1)))
  right_next q n early = by (here n) refl
    where
      by : (b : Bool) → here n ≡ b → list_all q (cases_from n) ≡ ((if here n then q (reading_of n) else true) && list_all q (cases_from (n + 1)))
      by true is = rw is (ap (list_all q) (is_next n early is))
      by false is = rw is (ap (list_all q) (is_none n early is))

  pub count_next : (n : ℕ) → n < 192 → length (cases_from n) ≡ (if here n then 1 else 0) + length (cases_from (n + 1))
  count_next n early = by (here n) refl
    where
      by : (b : Bool) → here n ≡ b → length (cases_from n) ≡ (if here n then 1 else 0) + length (cases_from (n + 1))
      by true is = rw is (omega (arith, ap (λ (l : List Reading). length l) (is_next n early is)))
      by false is = rw is (omega (arith, ap (λ (l : List Reading). length l) (is_none n early is)))

  -- A reading that names other fields is no case.
  pub not_named : (n : ℕ) → names (fields_of e g op s) (reading_of n) ≡ false → here n ≡ false
  not_named n other = rw other refl

  none_up : (k n : ℕ) → 192 ≤ n + k → ((i : ℕ) → n ≤ i → i < 192 → here i ≡ false) → cases_from n ≡ []
  unfolding cases_from
  none_up zero n late each = ap (λ (l : List ℕ). filter (is_case e g op s) (map reading_of l)) (up_to_end 192 n (omega (arith, late)))
  none_up (suc k) n late each = elim (cases_lt n 192) [
    | inl early ↦ is_none n early (each n (omega arith) early) ∙ none_up k (n + 1) (omega (arith, late)) (λ i from below. each i (omega (arith, from)) below)
    | inr over ↦ ap (λ (l : List ℕ). filter (is_case e g op s) (map reading_of l)) (up_to_end 192 n over)
  ]

  -- There is none from a number on from which none is a case.
  pub none_from : (n : ℕ) → ((i : ℕ) → n ≤ i → i < 192 → here i ≡ false) → cases_from n ≡ []
  none_from n each = none_up 192 n (omega arith) each
