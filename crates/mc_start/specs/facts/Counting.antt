-- Lists whose last number is one greater, and their texts.
use Rattle.std.specs.Prelude.{List, [], decimal, flat_map, length, refl, take, ℕ, ◌++◌, ◌+◌, ◌-◌, ◌/◌, ◌%◌, ◌<◌, ◌^◌, ◌∷◌, ◌≡◌, ◌≤◌, ◌⊎◌}
use Rattle.std.proofs.{Common.{ap, append-nil, append_assoc, arith, inl, inr, sym, ◌∙◌}, lemmas.Fmt.{decimal_digit, decimal_step}, lemmas.Bool.{cases_lt}, lemmas.List.{same_from_push, take_all, take_more, take_more_set}, Math.ListN.{get_or, set}, lemmas.List.Concat.{flat_map-append}}
use Rattle.mc_output.specs.Text.{joined}
use Rattle.mc_start.specs.Start.{IsNextText, on_last}

-- ---- the last element

pub on_last-push : {A : Type 0} (change : A → A) (xs : List A) (x : A) → on_last change (xs ++ x ∷ []) ≡ xs ++ change x ∷ []
on_last-push change [] x = refl
on_last-push change (y ∷ []) x = refl
on_last-push change (y ∷ z ∷ xs) x = ap (λ l. y ∷ l) (on_last-push change (z ∷ xs) x)

pub on_last-twice : {A : Type 0} (one two both : A → A) → ((x : A) → two (one x) ≡ both x) → (xs : List A) → on_last two (on_last one xs) ≡ on_last both xs
on_last-twice one two both is [] = refl
on_last-twice one two both is (x ∷ []) = ap (λ y. y ∷ []) (is x)
on_last-twice one two both is (x ∷ y ∷ []) = ap (λ z. x ∷ z ∷ []) (is y)
on_last-twice one two both is (x ∷ y ∷ z ∷ xs) = ap (λ l. x ∷ l) (on_last-twice one two both is (y ∷ z ∷ xs))

-- The first elements of some room end with the one that stands last there, also where that is set.
module _ {A : Type 0} (room : List A) (len : ℕ) (some : 0 < len) (within : len ≤ length room) where
  one : len - 1 + 1 ≡ len
  one = omega (arith, some)

  pub ends_there : (d : A) → take len room ≡ take (len - 1) room ++ get_or room (len - 1) d ∷ []
  ends_there d = ap (λ n. take n room) (sym one) ∙ take_more room (len - 1) d (omega (arith, some, within))

  pub ends_set : (x : A) → take len (set room (len - 1) x) ≡ take (len - 1) room ++ x ∷ []
  ends_set x = ap (λ n. take n (set room (len - 1) x)) (sym one) ∙ take_more_set room (len - 1) x (omega (arith, some, within))

  pub last_changed : (change : A → A) (d x : A) → x ≡ change (get_or room (len - 1) d) → take len (set room (len - 1) x) ≡ on_last change (take len room)
  last_changed change d x is =
      ends_set x
      ∙ ap (λ y. take (len - 1) room ++ y ∷ []) is
      ∙ sym (on_last-push change (take (len - 1) room) (get_or room (len - 1) d))
      ∙ ap (on_last change) (sym (ends_there d))

-- A list that is not empty ends with an element.
pub parted : {A : Type 0} (xs : List A) (d : A) → 0 < length xs → xs ≡ take (length xs - 1) xs ++ get_or xs (length xs - 1) d ∷ []
parted xs d some = sym (take_all (length xs) xs (omega arith)) ∙ ends_there xs (length xs) some (omega arith) d

-- ---- texts

-- After some text.
pub next_after : (before text next : List ℕ) → 0 < length text → IsNextText text next → IsNextText (before ++ text) (before ++ next)
next_after before text next some is front digit ends low high =
    let first : List ℕ = take (length text - 1) text in
    let last : ℕ = get_or text (length text - 1) 0 in
    let text_is = parted text 0 some in
    let parts = same_from_push (before ++ first) front last digit (append_assoc before first (last ∷ []) ∙ ap (λ l. before ++ l) (sym text_is) ∙ ends) in
    let here = is first digit (text_is ∙ ap (λ d. first ++ d ∷ []) parts.1) low high in
    ap (λ l. before ++ l) here ∙ sym (append_assoc before first ((digit + 1) ∷ [])) ∙ ap (λ l. l ++ (digit + 1) ∷ []) parts.0

-- Of a number, and of the number after it.
pub next_number : (n : ℕ) → n + 1 < 2 ^ 32 → IsNextText (decimal n) (decimal (n + 1))
next_number n small front digit ends low high = by (cases_lt n 10)
  where
    by : (n < 10) ⊎ (10 ≤ n) → decimal (n + 1) ≡ front ++ (digit + 1) ∷ []
    by (inl less) =
        let parts = same_from_push [] front (48 + n) digit (sym (decimal_digit n less) ∙ ends) in
        decimal_digit (n + 1) (omega (arith, parts.1, high)) ∙ ap (λ l. l ++ (48 + (n + 1)) ∷ []) parts.0 ∙ ap (λ d. front ++ d ∷ []) (omega (arith, parts.1))
    by (inr more) =
        let parts = same_from_push (decimal (n / 10)) front (48 + n % 10) digit (sym (decimal_step n more (omega (arith, small))) ∙ ends) in
        let tens : (n + 1) / 10 ≡ n / 10 = omega (arith, parts.1, high) in
        let ones : 48 + (n + 1) % 10 ≡ digit + 1 = omega (arith, parts.1, high) in
        decimal_step (n + 1) (omega (arith, more)) (omega (arith, small))
        ∙ ap (λ m. decimal m ++ (48 + (n + 1) % 10) ∷ []) tens
        ∙ ap (λ l. l ++ (48 + (n + 1) % 10) ∷ []) parts.0
        ∙ ap (λ d. front ++ d ∷ []) ones

joined_push : {A : Type 0} (separator : List ℕ) (spell : A → List ℕ) (z : A) (xs : List A) (w : A)
    → joined separator spell (z ∷ xs ++ w ∷ []) ≡ (spell z ++ (flat_map (λ v. separator ++ spell v) xs ++ separator)) ++ spell w
joined_push {A} separator spell z xs w =
    let f : A → List ℕ = λ v. separator ++ spell v in
    ap (λ l. spell z ++ l)
    (flat_map-append f xs (w ∷ []) ∙ ap (λ l. flat_map f xs ++ l) (append-nil (separator ++ spell w)) ∙ sym (append_assoc (flat_map f xs) separator (spell w)))
    ∙ sym (append_assoc (spell z) (flat_map f xs ++ separator) (spell w))

-- Of a list, where the text of its last element is that.
pub next_joined : {A : Type 0} (separator : List ℕ) (spell : A → List ℕ) (xs : List A) (x y : A) → 0 < length (spell x) → IsNextText (spell x) (spell y)
    → IsNextText (joined separator spell (xs ++ x ∷ [])) (joined separator spell (xs ++ y ∷ []))
next_joined separator spell [] x y some is = rw (append-nil (spell x), append-nil (spell y)) is
next_joined separator spell (z ∷ xs) x y some is =
    rw (joined_push separator spell z xs x, joined_push separator spell z xs y) (next_after (spell z ++ (flat_map (λ v. separator ++ spell v) xs ++ separator)) (spell x) (spell y) some is)
