-- What reading gives for a text, by the form alone.
use Rattle.std.proofs.Common.{◌≡◌, ℕ, ◌^◌, ◌<◌, true, List, [], ◌∷◌, ◌++◌, length, get_or, Some, None, Result, Ok, Err, refl, sym, ap, subst, ◌∙◌, arith, rules, append_assoc}
use Rattle.std.proofs.{lemmas.List.{append-nil}, lemmas.Str.Parse.{IsNumeralModel, numerals_by_fold}}
use Rattle.std.proofs.lemmas.Fmt.{digits_decimal, digits_value-decimal, decimal_nonempty, first_decimal, decimal_digit}
use Rattle.std.specs.{Prelude.{◌⊎◌, MatchResult, decimal, codes}, Char.{is_ascii_digit}, List.{list_all}}
use Rattle.mc_image.specs.VersionText.{value_after, IsNumeral, IsForm, AreInRange, version_of, Names, IsRefused, IsVersion, version_line}
use Rattle.mc_image.specs.{inner.VersionReading.{numbers_in, fitted, judged, version_read}, declared.version.Version.{Version}}
use Rattle.mc_image.specs.{declared.error.VersionError.{VersionError}, declared.error.VersionError.TheVariants.{Range}}
use Rattle.mc_image.proofs.VersionLaws.{capped_number, all_padded, form_takes, form_again}

-- four numbers, each at most 2 ^ 32
abbrev pub four : List ℕ → List ℕ
four ns = capped_number (get_or ns 0 0) ∷ capped_number (get_or ns 1 0) ∷ capped_number (get_or ns 2 0) ∷ capped_number (get_or ns 3 0) ∷ []

padded_four : (t ns : List ℕ) → IsForm t ns → all_padded ns ≡ four ns
padded_four t it f = grind arith

pub fitted_in : (ns : List ℕ) → AreInRange ns → fitted (four ns) ≡ Ok (version_of ns)
unfolding fitted
fitted_in ns h = grind arith

pub fitted_out : (ns : List ℕ) → (AreInRange ns → ⊥) → fitted (four ns) ≡ Err Range
unfolding fitted
fitted_out ns h = grind arith

-- a text in the form is judged by its numbers
pub read_form : (t ns : List ℕ) → IsForm t ns → version_read t ≡ fitted (four ns)
unfolding version_read
read_form t ns f = ap judged (form_again t ns f) ∙ ap fitted (padded_four t ns f)

pub read_only : (t : List ℕ) (v : Version) → Names t v → version_read t ≡ Ok v
read_only t v n = read_form t n.numbers n.form ∙ fitted_in n.numbers n.fits ∙ ap (λ (x : Version). Ok x) (sym n.same)

pub read_range : (t ns : List ℕ) → IsForm t ns → (AreInRange ns → ⊥) → version_read t ≡ Err Range
read_range t ns f out = read_form t ns f ∙ fitted_out ns out

in_range_or_not : (ns : List ℕ) → AreInRange ns ⊎ (AreInRange ns → ⊥)
in_range_or_not ns = grind arith

-- the three outcomes
abbrev pub Judges : List ℕ → Result Version VersionError → Type 0
Judges t r = MatchResult r (Names t) (IsRefused t)

judged_form : (t ns : List ℕ) → IsForm t ns → AreInRange ns ⊎ (AreInRange ns → ⊥) → Judges t (version_read t)
judged_form t ns f it = grind (arith, read_form, fitted_in, read_range)

judged_none : (t : List ℕ) → numbers_in t ≡ None → Judges t (version_read t)
unfolding version_read
judged_none t e = subst (Judges t) (sym (ap judged e)) (λ ns f. let s = form_again t ns f in absurd cc)

pub read_exact : (t : List ℕ) → Judges t (version_read t)
read_exact t =
    elim (numbers_in t) as (λ o. numbers_in t ≡ o → Judges t (version_read t)) [
      | None ↦ λ e. judged_none t e
      | Some xs ↦ λ e. let f = form_takes t xs e in judged_form t f.0 f.1 (in_range_or_not f.0)
    ] refl

-- ---- what is printed

own : IsNumeralModel (λ ds. list_all is_ascii_digit ds ≡ true) (value_after 0)
own = numerals_by_fold _ (search rules) value_after (search rules)

zero_alone : length (decimal 0) ≡ 1
zero_alone = ap length (decimal_digit 0 (omega arith))

plain_decimal : (n : ℕ) → n < 2 ^ 64 → get_or (decimal n) 0 0 ≡ 48 → length (decimal n) ≡ 1
plain_decimal it lt e = grind (arith, zero_alone, first_decimal)

numeral_printed : (n : ℕ) → n < 2 ^ 64 → IsNumeral (decimal n) n
numeral_printed n lt = grind (arith, digits_decimal, own, decimal_nonempty, plain_decimal, digits_value-decimal)

regrouped : (a b c d : List ℕ) → a ++ codes "." ++ b ++ codes "." ++ c ++ codes "+" ++ d ≡ a ++ (46 ∷ (b ++ (46 ∷ (c ++ (43 ∷ (d ++ []))))))
regrouped a b c d = simp (append_assoc, append-nil)

pub names_printed : (v : Version) → IsVersion v → Names (version_line v) v
names_printed v h = record {
  numbers = v.major ∷ v.minor ∷ v.revision ∷ v.build ∷ [];
  form = (
    decimal v.major,
    _,
    regrouped (decimal v.major) (decimal v.minor) (decimal v.revision) (decimal v.build),
    numeral_printed v.major (omega (arith, h.major)),
    (
      decimal v.minor,
      _,
      refl,
      numeral_printed v.minor (omega (arith, h.minor)),
      (decimal v.revision, _, refl, numeral_printed v.revision (omega (arith, h.revision)), (decimal v.build, [], refl, numeral_printed v.build (omega (arith, h.build)), refl)),
    ),
  );
  fits = record { major = h.major; minor = h.minor; revision = h.revision; build = h.build };
  same = refl;
}

pub read_printed : (t : List ℕ) (v : Version) → IsVersion v → t ≡ version_line v → version_read t ≡ Ok v
read_printed t v h e = subst (λ (x : List ℕ). version_read x ≡ Ok v) (sym e) (read_only (version_line v) v (names_printed v h))
