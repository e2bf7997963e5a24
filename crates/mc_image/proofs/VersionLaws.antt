-- A text that is read is in the form, and a text in the form is read: as its numbers, each at most 2 ^ 32.
use Rattle.std.proofs.Common.{◌≡◌, ℕ, ◌+◌, ◌-◌, ◌*◌, ◌^◌, ◌<◌, true, false, cond, List, [], ◌∷◌, ◌++◌, length, Option, Some, None, refl, sym, ap, subst, ◌∙◌, arith, eq-eqb}
use Rattle.std.proofs.{lemmas.Bool.Decides.{nat_tests}, lemmas.Bool.{eqb-true, and_parts}, lemmas.List.{nil_from_length}, lemmas.Option.{cond_some}}
use Rattle.std.specs.{Prelude.{min, ◌==◌, option_and_then}, Option.{option_map}, Char.{is_ascii_digit}, List.{list_all}}
use Rattle.mc_image.specs.VersionText.{value_after, IsNumeral, Follows, IsForm}
use Rattle.mc_image.specs.inner.VersionReading.{number_from, numeral_at, part_at, parts_after, numbers_in}
use Rattle.mc_image.proofs.EntryLaws.{map_some}

-- no digit comes next
abbrev pub Stops : List ℕ → Type 0
Stops [] = Unit {0}
Stops (c ∷ cs) = is_ascii_digit c ≡ false

capped : (m d : ℕ) → min (10 * min m (2 ^ 32) + d) (2 ^ 32) ≡ min (10 * m + d) (2 ^ 32)
capped m d = omega arith

-- digits that are followed by none are read whole
pub number_again : (ds : List ℕ) (m : ℕ) (rest : List ℕ) → list_all is_ascii_digit ds ≡ true → Stops rest → number_from (min m (2 ^ 32)) (ds ++ rest) ≡ (min (value_after m ds) (2 ^ 32), rest)
unfolding number_from
number_again [] m [] all stops = refl
number_again [] m (c ∷ rest) all stops = rw stops refl
number_again (c ∷ ds) m rest all stops =
    let parts = and_parts (is_ascii_digit c) (list_all is_ascii_digit ds) all in
    rw parts.0 (ap (λ (n : ℕ). number_from n (ds ++ rest)) (capped m (c - 48)) ∙ number_again ds (10 * m + (c - 48)) rest parts.1 stops)

-- what is read is digits, and none follows
pub record ReadsDigits (m : ℕ) (t : List ℕ) (x : ℕ × List ℕ) : Type 0 where
  pub ds : List ℕ
  pub digits : list_all is_ascii_digit ds ≡ true
  pub split : t ≡ ds ++ x.1
  pub stops : Stops x.1
  pub value : x.0 ≡ min (value_after m ds) (2 ^ 32)

pub number_takes : (t : List ℕ) (m : ℕ) → ReadsDigits m t (number_from (min m (2 ^ 32)) t)
unfolding number_from
number_takes [] m = record { ds = []; digits = refl; split = refl; stops = tt; value = refl }
number_takes (c ∷ t) m =
    elim (is_ascii_digit c) as (λ b. is_ascii_digit c ≡ b → ReadsDigits m (c ∷ t) (cond b (number_from (min (10 * min m (2 ^ 32) + (c - 48)) (2 ^ 32)) t) (min m (2 ^ 32), c ∷ t))) [
      | true ↦ λ e.
          let r = number_takes t (10 * m + (c - 48)) in
          subst (λ (n : ℕ). ReadsDigits m (c ∷ t) (number_from n t)) (sym (capped m (c - 48)))
          (record { ds = c ∷ r.ds; digits = rw e r.digits; split = ap (λ (x : List ℕ). c ∷ x) r.split; stops = r.stops; value = r.value })
      | false ↦ λ e. record { ds = []; digits = refl; split = refl; stops = e; value = refl }
    ] refl

small : (c : ℕ) → is_ascii_digit c ≡ true → c - 48 ≡ min (c - 48) (2 ^ 32)
small c e = let h : c < 58 = grind (arith, nat_tests) in omega arith

abbrev pub capped_number : ℕ → ℕ
capped_number n = min n (2 ^ 32)

zero_alone : (c n : ℕ) (cs : List ℕ) → c ≡ 48 → IsNumeral (c ∷ cs) n → (cs ≡ []) × (n ≡ 0)
zero_alone c n cs e is =
    let l : length (c ∷ cs) ≡ 1 = is.plain e in
    let nil : cs ≡ [] = nil_from_length cs (omega arith) in
    let v : n ≡ value_after (10 * 0 + (c - 48)) [] = is.value ∙ ap (λ (x : List ℕ). value_after (10 * 0 + (c - 48)) x) nil in
    (nil, omega (arith, v, e))

-- a numeral is read where no digit follows
pub numeral_again : (ds : List ℕ) (n : ℕ) (rest : List ℕ) → IsNumeral ds n → Stops rest → numeral_at (ds ++ rest) ≡ Some (capped_number n, rest)
unfolding numeral_at
numeral_again [] n rest is stops = let s = is.some in absurd (omega arith)
numeral_again (c ∷ cs) n rest is stops =
    elim (c == 48) as (λ b. (c == 48) ≡ b → cond b (Some (0, cs ++ rest)) (cond (is_ascii_digit c) (Some (number_from (c - 48) (cs ++ rest))) None) ≡ Some (capped_number n, rest)) [
      | true ↦ λ e.
          let z = zero_alone c n cs (eqb-true _ _ e) is in
          let none : capped_number n ≡ 0 = omega (arith, z.1) in
          ap (λ (x : List ℕ). Some (0, x ++ rest)) z.0 ∙ ap (λ (x : ℕ). Some (x, rest)) (sym none)
      | false ↦ λ e.
          let parts = and_parts (is_ascii_digit c) (list_all is_ascii_digit cs) is.digits in
          let start : 10 * 0 + (c - 48) ≡ c - 48 = omega arith in
          let v : n ≡ value_after (c - 48) cs = is.value ∙ ap (λ (x : ℕ). value_after x cs) start in
          rw parts.0 (ap (λ (x : ℕ). Some (number_from x (cs ++ rest))) (small c parts.0) ∙ ap (λ (x : ℕ × List ℕ). Some x) (number_again cs (c - 48) rest parts.1 stops) ∙ ap
          (λ (x : ℕ). Some (capped_number x, rest)) (sym v))
    ] refl

-- what is read is a numeral
pub record ReadsNumeral (t : List ℕ) (x : ℕ × List ℕ) : Type 0 where
  pub ds : List ℕ
  pub number : ℕ
  pub numeral : IsNumeral ds number
  pub value : x.0 ≡ capped_number number
  pub split : t ≡ ds ++ x.1

zero_numeral : (c : ℕ) → c ≡ 48 → IsNumeral (c ∷ []) 0
zero_numeral c is = record { digits = rw is refl; some = omega arith; plain = λ h. refl; value = omega (arith, is) }

more_numeral : (c : ℕ) (ds : List ℕ) → (c == 48) ≡ false → is_ascii_digit c ≡ true → list_all is_ascii_digit ds ≡ true → IsNumeral (c ∷ ds) (value_after (c - 48) ds)
more_numeral c ds t d all = grind arith

pub numeral_takes : (t : List ℕ) (x : ℕ × List ℕ) → numeral_at t ≡ Some x → ReadsNumeral t x
unfolding numeral_at
numeral_takes [] x e = absurd cc
numeral_takes (c ∷ cs) x e =
    elim (c == 48) as (λ b. (c == 48) ≡ b → cond b (Some (0, cs)) (cond (is_ascii_digit c) (Some (number_from (c - 48) cs)) None) ≡ Some x → ReadsNumeral (c ∷ cs) x) [
      | true ↦ λ t f.
          let at : (0, cs) ≡ x = cc in
          subst (λ (y : ℕ × List ℕ). ReadsNumeral (c ∷ cs) y) at (record { ds = c ∷ []; number = 0; numeral = zero_numeral c (eqb-true _ _ t); value = refl; split = refl })
      | false ↦ λ t f.
          elim (is_ascii_digit c) as (λ b. is_ascii_digit c ≡ b → cond b (Some (number_from (c - 48) cs)) None ≡ Some x → ReadsNumeral (c ∷ cs) x) [
            | true ↦ λ d g.
                let r = number_takes cs (c - 48) in
                let at : number_from (min (c - 48) (2 ^ 32)) cs ≡ x = ap (λ (n : ℕ). number_from n cs) (sym (small c d)) ∙ (let q : number_from (c - 48) cs ≡ x = cc in q) in
                subst (λ (y : ℕ × List ℕ). ReadsNumeral (c ∷ cs) y) at
                (record { ds = c ∷ r.ds; number = value_after (c - 48) r.ds; numeral = more_numeral c r.ds t d r.digits; value = r.value; split = ap (λ (y : List ℕ). c ∷ y) r.split })
            | false ↦ λ d g. absurd cc
          ] refl f
    ] refl e

-- ---- the parts

-- separators that are no digits
abbrev pub AreSeparators : List ℕ → Type 0
AreSeparators [] = Unit {0}
AreSeparators (s ∷ ss) = (is_ascii_digit s ≡ false) × AreSeparators ss

-- one number for each separator, missing ones 0
abbrev pub padded : List ℕ → List ℕ → List ℕ
padded [] ns = []
padded (s ∷ ss) [] = 0 ∷ padded ss []
padded (s ∷ ss) (n ∷ ns) = capped_number n ∷ padded ss ns

-- no digit follows a number
follows_stops : (ss rest ns : List ℕ) → AreSeparators ss → Follows ss rest ns → Stops rest
follows_stops ss rest [] sep f = subst (λ (x : List ℕ). Stops x) (sym f) tt
follows_stops [] rest (n ∷ ns) sep f = absurd f
follows_stops (s ∷ ss) rest (n ∷ ns) sep f = subst (λ (x : List ℕ). Stops x) (sym f.2) sep.0

-- at the end of a text no number follows
nothing_follows : (ss ns : List ℕ) → Follows ss [] ns → ns ≡ []
nothing_follows ss [] f = refl
nothing_follows [] (n ∷ ns) f = absurd f
nothing_follows (s ∷ ss) (n ∷ ns) f = let e = f.2 in absurd cc

then_some : {A B : Type 0} (f : A → Option B) (o : Option A) (y : B) → option_and_then f o ≡ Some y → (x : A) × (o ≡ Some x) × (f x ≡ Some y)
then_some f it y e = grind arith

-- the separator stands in front
in_prefix : {A : Type 0} (c s : ℕ) (o : Option A) (y : A) → cond (c == s) o None ≡ Some y → (c ≡ s) × (o ≡ Some y)
in_prefix c s o y e = grind arith

-- what is read after a number
pub record Takes (ss rest xs : List ℕ) : Type 0 where
  pub numbers : List ℕ
  pub follows : Follows ss rest numbers
  pub same : xs ≡ padded ss numbers

takes_end : (ss xs zs : List ℕ) → Takes ss [] zs → 0 ∷ zs ≡ xs → (s : ℕ) → Takes (s ∷ ss) [] xs
takes_end ss xs zs t e s = record { numbers = []; follows = refl; same = sym e ∙ ap (λ (l : List ℕ). 0 ∷ l) (t.same ∙ ap (padded ss) (nothing_follows ss t.numbers t.follows)) }

takes_more : (ss xs zs cs : List ℕ) (x : ℕ × List ℕ) (s c : ℕ) → c ≡ s → ReadsNumeral cs x → Takes ss x.1 zs → x.0 ∷ zs ≡ xs → Takes (s ∷ ss) (c ∷ cs) xs
takes_more ss xs zs cs x s c at r t e = record {
  numbers = r.number ∷ t.numbers;
  follows = (r.ds, x.1, ap (λ (l : List ℕ). c ∷ l) r.split ∙ ap (λ (n : ℕ). n ∷ (r.ds ++ x.1)) at, r.numeral, t.follows);
  same = sym e ∙ ap (λ (l : List ℕ). x.0 ∷ l) t.same ∙ ap (λ (n : ℕ). n ∷ padded ss t.numbers) r.value;
}

-- what is read after a number follows it in the form
pub parts_take : (ss rest xs : List ℕ) → parts_after ss rest ≡ Some xs → Takes ss rest xs
unfolding parts_after part_at
parts_take [] rest xs e = let p = cond_some (length rest == 0) [] xs e in record { numbers = []; follows = nil_from_length rest (eqb-true _ _ p.0); same = sym p.1 }
parts_take (s ∷ ss) [] xs e =
    let x = then_some (λ x. option_map (λ ns. x.0 ∷ ns) (parts_after ss x.1)) (part_at s []) xs e in
    let zs = map_some (λ ns. x.0.0 ∷ ns) (parts_after ss x.0.1) xs x.2 in
    let at : (0, []) ≡ x.0 = cc (x.1) in
    let here : parts_after ss [] ≡ Some zs.0 = ap (λ (y : ℕ × List ℕ). parts_after ss y.1) at ∙ zs.1 in
    takes_end ss xs zs.0 (parts_take ss [] zs.0 here) (ap (λ (y : ℕ × List ℕ). y.0 ∷ zs.0) at ∙ zs.2) s
parts_take (s ∷ ss) (c ∷ cs) xs e =
    let x = then_some (λ x. option_map (λ ns. x.0 ∷ ns) (parts_after ss x.1)) (part_at s (c ∷ cs)) xs e in
    let zs = map_some (λ ns. x.0.0 ∷ ns) (parts_after ss x.0.1) xs x.2 in
    let at = in_prefix c s (numeral_at cs) x.0 x.1 in
    takes_more ss xs zs.0 cs x.0 s c at.0 (numeral_takes cs x.0 at.1) (parts_take ss x.0.1 zs.0 zs.1) zs.2

-- what follows a number in the form is read
pub parts_again : (ss rest ns : List ℕ) → AreSeparators ss → Follows ss rest ns → parts_after ss rest ≡ Some (padded ss ns)
unfolding parts_after part_at
parts_again [] rest [] sep f = ap (parts_after []) f
parts_again [] rest (n ∷ ns) sep f = absurd f
parts_again (s ∷ ss) rest [] sep f =
    subst (λ (x : List ℕ). parts_after (s ∷ ss) x ≡ Some (padded (s ∷ ss) [])) (sym f) (ap (λ o. option_map (λ ns. 0 ∷ ns) o) (parts_again ss [] [] sep.1 refl))
parts_again (s ∷ ss) rest (n ∷ ns) sep f =
    let read : part_at s (s ∷ (f.0 ++ f.1)) ≡ Some (capped_number n, f.1) =
    let same : (s == s) ≡ true = eq-eqb s s refl in rw same (numeral_again f.0 n f.1 f.3 (follows_stops ss f.1 ns sep.1 f.4)) in
    subst (λ (x : List ℕ). parts_after (s ∷ ss) x ≡ Some (padded (s ∷ ss) (n ∷ ns))) (sym f.2) (ap (λ o. option_and_then (λ x. option_map (λ ns. x.0 ∷ ns) (parts_after ss x.1)) o) read
    ∙ ap (λ o. option_map (λ ns. capped_number n ∷ ns) o) (parts_again ss f.1 ns sep.1 f.4))

-- ---- the whole text

abbrev pub separators : List ℕ
separators = 46 ∷ 46 ∷ 43 ∷ []

-- the first number, and the others
abbrev pub all_padded : List ℕ → List ℕ
all_padded [] = []
all_padded (n ∷ ns) = capped_number n ∷ padded separators ns

-- what is read is in the form
pub form_takes : (t xs : List ℕ) → numbers_in t ≡ Some xs → (ns : List ℕ) × IsForm t ns × (xs ≡ all_padded ns)
unfolding numbers_in
form_takes t xs e =
    let x = then_some (λ x. option_map (λ ns. x.0 ∷ ns) (parts_after separators x.1)) (numeral_at t) xs e in
    let zs = map_some (λ ns. x.0.0 ∷ ns) (parts_after separators x.0.1) xs x.2 in
    let r = numeral_takes t x.0 x.1 in
    let s = parts_take separators x.0.1 zs.0 zs.1 in
    (r.number ∷ s.numbers, (r.ds, x.0.1, r.split, r.numeral, s.follows), sym zs.2 ∙ ap (λ (l : List ℕ). x.0.0 ∷ l) s.same ∙ ap (λ (n : ℕ). n ∷ padded separators s.numbers) r.value)

-- a text in the form is read
pub form_again : (t ns : List ℕ) → IsForm t ns → numbers_in t ≡ Some (all_padded ns)
unfolding numbers_in
form_again t it f = grind (arith, numeral_again, follows_stops, parts_again)
