-- Numbers and names as they are written.
use Rattle.std.specs.Prelude.{◌≡◌, ◌≢◌, ℕ, ◌<◌, ◌≤◌, ◌==◌, ◌^◌, Bool, true, false, List, [], ◌∷◌, ◌++◌, length, codes, decimal, MatchOption, Option, Some, None, refl}
use Rattle.std.specs.{Char.{digit_value}, Str.Parse.{AllDigits, IsNumeral, digits_value}}
use Rattle.std.proofs.Common.{arith, inl, inr, sym, ap, subst, append_assoc, append-nil, ◌∙◌}
use Rattle.std.proofs.lemmas.Bool.Decides.{nat_tests}
use Rattle.mc_output.specs.facts.Parting.{AreParts, Lacks, lacks_decimal, no_part, one_part}
use Rattle.mc_life.specs.Script.{BeginsWith, IsBare, Spells, Writes, WritesBoth, WritesTear, line_of}
use Rattle.mc_tear.specs.{Readings.{reading_of, reading_text}, declared.reading.Reading.{Reading}}

-- ---- numbers

no_x : (c : ℕ) → c ≡ 120 → 48 ≤ c → c ≤ 57 → ⊥
no_x c is low high = omega (arith, is, high)

no_space : (c : ℕ) → c ≡ 32 → 48 ≤ c → c ≤ 57 → ⊥
no_space c is low high = omega (arith, is, low)

not_decimal : (n : ℕ) (digits : List ℕ) → n < 2 ^ 32 → codes "0x" ++ digits ≡ decimal n → ⊥
not_decimal n digits small is = let lacks : Lacks 120 (48 ∷ 120 ∷ digits) = subst (Lacks 120) (sym is) (lacks_decimal 120 no_x n small) in lacks.1.0 refl

-- No number is written after `0x`.
hexadecimal_alone : (text digits : List ℕ) → text ≡ codes "0x" ++ digits → (IsNumeral 16 digits → length digits ≤ 8 → digits_value 16 digits < 2 ^ 32 → ⊥)
    → (n : ℕ) → Writes n text → ⊥
hexadecimal_alone text digits is none n (small, inl e) = not_decimal n digits small (sym is ∙ e)
hexadecimal_alone text digits is none n (small, inr h) =
    let same : h.digits ≡ digits = cc (sym h.text_is ∙ is) in
    none (subst (IsNumeral 16) same h.are_digits) (subst (λ (ds : List ℕ). length ds ≤ 8) same h.at_most) (omega (arith, small, sym (ap (digits_value 16) same) ∙ h.value))

lacks_hexadecimal : (ds : List ℕ) → AllDigits 16 ds → Lacks 32 ds
lacks_hexadecimal [] digits = tt
lacks_hexadecimal (d ∷ ds) digits = ((λ e. space_no_digit (subst (λ (c : ℕ). digit_value c < 16) e digits.0)), lacks_hexadecimal ds digits.1)
  where
    space_no_digit : 36 < 16 → ⊥
    space_no_digit lt = omega (arith, lt)

writes_one_word : (n : ℕ) (text : List ℕ) → Writes n text → Lacks 32 text
writes_one_word n text (small, inl e) = subst (Lacks 32) (sym e) (lacks_decimal 32 no_space n small)
writes_one_word n text (small, inr h) = subst (Lacks 32) (sym h.text_is) ((λ e. omega (arith, e)), ((λ e. omega (arith, e)), lacks_hexadecimal h.digits h.are_digits.1))

pub hexadecimal_read : (text digits : List ℕ) → text ≡ codes "0x" ++ digits → (o : Option ℕ)
    → MatchOption o (IsNumeral 16 digits → length digits ≤ 8 → digits_value 16 digits < 2 ^ 32 → ⊥)
    (λ n. (n < 2 ^ 32) × IsNumeral 16 digits × (length digits ≤ 8) × (digits_value 16 digits ≡ n))
    → MatchOption o ((n : ℕ) → Writes n text → ⊥) (λ n. Writes n text)
hexadecimal_read text digits is None none = hexadecimal_alone text digits is none
hexadecimal_read text digits is (Some n) (small, numeral, at_most, value) =
    (small, inr (record { digits = digits; text_is = is; are_digits = numeral; at_most = at_most; value = value }))

-- ---- two numbers

module _ (text first second : List ℕ) (p : AreParts 32 text first second) where
  both_are : (m n : ℕ) → WritesBoth m n text → Writes m first × Writes n second
  both_are m n w =
      let e = one_part 32 first w.first second w.second p.lacks (writes_one_word m w.first w.first_is) (sym p.parts ∙ w.text_is) in
      (subst (Writes m) (sym e.0) w.first_is, subst (Writes n) (sym e.1) w.second_is)

  pub no_first : ((n : ℕ) → Writes n first → ⊥) → (m n : ℕ) → WritesBoth m n text → ⊥
  no_first none m n w = none m (both_are m n w).0

  pub no_second : ((n : ℕ) → Writes n second → ⊥) → (m n : ℕ) → WritesBoth m n text → ⊥
  no_second none m n w = none n (both_are m n w).1

pub no_both : (text : List ℕ) → Lacks 32 text → (m n : ℕ) → WritesBoth m n text → ⊥
no_both text lacks m n w = no_part 32 text w.first w.second lacks w.text_is

-- ---- a number and a reading

module _ (text first second : List ℕ) (p : AreParts 32 text first second) where
  tear_is : (n : ℕ) (r : Reading) → WritesTear n r text → Writes n first × (second ≡ reading_text r)
  tear_is n r w =
      let e = one_part 32 first w.first second (reading_text r) p.lacks (writes_one_word n w.first w.first_is) (sym p.parts ∙ w.text_is) in
      (subst (Writes n) (sym e.0) w.first_is, e.1)

  pub no_number : ((n : ℕ) → Writes n first → ⊥) → (n : ℕ) (r : Reading) → WritesTear n r text → ⊥
  no_number none n r w = none n (tear_is n r w).0

  pub no_reading : ((k : ℕ) → k < 192 → second ≡ reading_text (reading_of k) → ⊥) → (n : ℕ) (r : Reading) → WritesTear n r text → ⊥
  no_reading none n r w = none w.number w.few ((tear_is n r w).1 ∙ ap reading_text w.reading_is)

pub no_tear : (text : List ℕ) → Lacks 32 text → (n : ℕ) (r : Reading) → WritesTear n r text → ⊥
no_tear text lacks n r w = no_part 32 text w.first (reading_text r) lacks w.text_is

-- ---- names

abbrev tail_of : Option (List ℕ) → List ℕ
tail_of None = []
tail_of (Some rest) = 32 ∷ rest

quoted_line : (name : List ℕ) (more : Option (List ℕ)) → line_of (34 ∷ name ++ 34 ∷ []) more ≡ 34 ∷ name ++ 34 ∷ tail_of more
quoted_line name None = refl
quoted_line name (Some rest) = ap (λ (z : List ℕ). 34 ∷ z) (append_assoc name (34 ∷ []) (32 ∷ rest))

same_tail : (m n : Option (List ℕ)) → tail_of m ≡ tail_of n → m ≡ n
same_tail None None e = refl
same_tail None (Some y) e = absurd cc
same_tail (Some x) None e = absurd cc
same_tail (Some x) (Some y) e = cc

bare_one_word : (name : List ℕ) → IsBare name → Lacks 32 name
bare_one_word [] bare = tt
bare_one_word (c ∷ cs) bare = bare.1

-- A first word, and what stands after it, are read in one way.
one_line : (a b : List ℕ) (m n : Option (List ℕ)) → Lacks 32 a → Lacks 32 b → line_of a m ≡ line_of b n → (a ≡ b) × (m ≡ n)
one_line a b None None la lb e = (e, refl)
one_line a b None (Some y) la lb e = absurd (no_part 32 a b y la e)
one_line a b (Some x) None la lb e = absurd (no_part 32 b a x lb (sym e))
one_line a b (Some x) (Some y) la lb e = let both = one_part 32 a b x y la lb e in (both.0, ap (λ (z : List ℕ). Some z) both.1)

-- No name without double quotes begins with one.
bare_quoted : (a rest : List ℕ) (m : Option (List ℕ)) → IsBare a → line_of a m ≡ 34 ∷ rest → ⊥
bare_quoted [] rest None bare e = absurd cc
bare_quoted [] rest (Some x) bare e = let heads : ◌≡◌ {A = ℕ} 32 34 = cc in omega (arith, heads)
bare_quoted (c ∷ cs) rest None bare e = bare.0 cc
bare_quoted (c ∷ cs) rest (Some x) bare e = bare.0 cc

-- A text begins with one name.
pub one_name : (text a b : List ℕ) (m n : Option (List ℕ)) → BeginsWith text a m → BeginsWith text b n → (a ≡ b) × (m ≡ n)
one_name text a b m n p q = go p.spells q.spells
  where
    same : line_of p.spelled m ≡ line_of q.spelled n
    same = sym p.text_is ∙ q.text_is

    go : Spells a p.spelled → Spells b q.spelled → (a ≡ b) × (m ≡ n)
    go (inl x) (inl y) =
        one_line a b m n (bare_one_word a x.0) (bare_one_word b y.0) (ap (λ (z : List ℕ). line_of z m) (sym x.1) ∙ same ∙ ap (λ (z : List ℕ). line_of z n) y.1)
    go (inl x) (inr y) =
        absurd (bare_quoted a _ m x.0 (ap (λ (z : List ℕ). line_of z m) (sym x.1) ∙ same ∙ ap (λ (z : List ℕ). line_of z n) y.1 ∙ quoted_line b n))
    go (inr x) (inl y) =
        absurd (bare_quoted b _ n y.0 (ap (λ (z : List ℕ). line_of z n) (sym y.1) ∙ sym same ∙ ap (λ (z : List ℕ). line_of z m) x.1 ∙ quoted_line a m))
    go (inr x) (inr y) =
        let e : 34 ∷ a ++ 34 ∷ tail_of m ≡ 34 ∷ b ++ 34 ∷ tail_of n =
        sym (quoted_line a m) ∙ ap (λ (z : List ℕ). line_of z m) (sym x.1) ∙ same ∙ ap (λ (z : List ℕ). line_of z n) y.1 ∙ quoted_line b n in
        let rest : a ++ 34 ∷ tail_of m ≡ b ++ 34 ∷ tail_of n = cc in
        let both = one_part 34 a b (tail_of m) (tail_of n) x.0 y.0 rest in
        (both.0, same_tail m n both.1)

pub empty_by : (xs : List ℕ) (b : Bool) → b ≡ (length xs == 0) → b ≡ true → xs ≡ []
empty_by [] b is empty = refl
empty_by (x ∷ xs) b is empty = grind (arith, nat_tests)

pub some_by : (xs : List ℕ) (b : Bool) → b ≡ (length xs == 0) → b ≡ false → xs ≡ [] → ⊥
some_by [] b is some e = (let both : true ≡ false = sym is ∙ some in absurd cc)
some_by (x ∷ xs) b is some e = absurd cc

-- ---- a name without double quotes

is_bare : (text name tail : List ℕ) → text ≡ name ++ tail → Lacks 32 name → ((rest : List ℕ) → text ≡ 34 ∷ rest → ⊥) → IsBare name
is_bare text [] tail e lacks other = tt
is_bare text (c ∷ cs) tail e lacks other = ((λ is. other (cs ++ tail) (e ∙ ap (λ (x : ℕ). x ∷ (cs ++ tail)) is)), lacks)

pub bare_begins : (text first after : List ℕ) → AreParts 32 text first after → ((rest : List ℕ) → text ≡ 34 ∷ rest → ⊥) → BeginsWith text first (Some after)
bare_begins text first after p other = record { spelled = first; spells = inl (is_bare text first (32 ∷ after) p.parts p.lacks other, refl); text_is = p.parts }

pub bare_alone : (text : List ℕ) → Lacks 32 text → ((rest : List ℕ) → text ≡ 34 ∷ rest → ⊥) → BeginsWith text text None
bare_alone text lacks other = record { spelled = text; spells = inl (is_bare text text [] (sym (append-nil text)) lacks other, refl); text_is = refl }

-- ---- a name in double quotes

-- What begins with a double quote begins with a name in double quotes.
quoted_is : (text name : List ℕ) (more : Option (List ℕ)) → BeginsWith (34 ∷ text) name more → Lacks 34 name × (text ≡ name ++ 34 ∷ tail_of more)
quoted_is text name more p = go p.spells
  where
    go : Spells name p.spelled → Lacks 34 name × (text ≡ name ++ 34 ∷ tail_of more)
    go (inl x) = absurd (bare_quoted name text more x.0 (ap (λ (z : List ℕ). line_of z more) (sym x.1) ∙ sym p.text_is))
    go (inr y) = let e = p.text_is ∙ ap (λ (z : List ℕ). line_of z more) y.1 ∙ quoted_line name more in (y.0, cc e)

quoted_begins : (text name : List ℕ) (more : Option (List ℕ)) → Lacks 34 name → text ≡ name ++ 34 ∷ tail_of more → BeginsWith (34 ∷ text) name more
quoted_begins text name more lacks e = record {
  spelled = 34 ∷ name ++ 34 ∷ [];
  spells = inr (lacks, refl);
  text_is = ap (λ (z : List ℕ). 34 ∷ z) e ∙ sym (quoted_line name more);
}

pub no_quote : (text : List ℕ) → Lacks 34 text → (name : List ℕ) (more : Option (List ℕ)) → BeginsWith (34 ∷ text) name more → ⊥
no_quote text lacks name more p = no_part 34 text name (tail_of more) lacks (quoted_is text name more p).1

module _ (text name after : List ℕ) (p : AreParts 34 text name after) where
  pub quoted_more : (more : List ℕ) → after ≡ 32 ∷ more → BeginsWith (34 ∷ text) name (Some more)
  quoted_more more is = quoted_begins text name (Some more) p.lacks (p.parts ∙ ap (λ (z : List ℕ). name ++ 34 ∷ z) is)

  pub quoted_alone : after ≡ [] → BeginsWith (34 ∷ text) name None
  quoted_alone is = quoted_begins text name None p.lacks (p.parts ∙ ap (λ (z : List ℕ). name ++ 34 ∷ z) is)

  pub quoted_none : ((rest : List ℕ) → after ≢ 32 ∷ rest) → (after ≡ [] → ⊥) → (other : List ℕ) (more : Option (List ℕ)) → BeginsWith (34 ∷ text) other more → ⊥
  quoted_none no_more not_empty other more q =
      let is = quoted_is text other more q in
      let e = one_part 34 name other after (tail_of more) p.lacks is.0 (sym p.parts ∙ is.1) in
      by_tail more e.1
    where
      by_tail : (more : Option (List ℕ)) → after ≡ tail_of more → ⊥
      by_tail None e = not_empty e
      by_tail (Some rest) e = no_more rest e
