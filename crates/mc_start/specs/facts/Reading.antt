-- The text of a schedule, for a reader that goes cut by cut.
use Rattle.std.specs.Prelude.{◌≡◌, ℕ, ◌<◌, ◌≤◌, ◌^◌, List, [], ◌∷◌, ◌++◌, length, flat_map, bytes_eq, codes, decimal, false, All, Result, Ok}
use Rattle.std.specs.Str.Parse.{ParsesUnsigned}
use Rattle.std.proofs.{Common.{arith, subst, length-append}, lemmas.Fmt.{parse-decimal, decimal_injective}, lemmas.Slice.Eq.{bytes_eq-Decides}}
use Rattle.std.proofs.{Math.Seq.{drop-append_seam}, lemmas.List.Elements.{All-head, All-drop, All-push}}
use Rattle.mc_output.specs.{facts.Parting.{lacks_decimal, no_dash}, facts.Reading.{IsSpelling}}
use Rattle.mc_start.specs.Start.{IsSchedule, FitsCut}

-- A text that writes a number is read as that number.
pub read_back : {E : Type 0} (n : ℕ) (text : List ℕ) (r : Result ℕ E) → n < 2 ^ 32 → text ≡ decimal n → ParsesUnsigned 32 10 text r → r ≡ Ok n
read_back n text r small is parses = parse-decimal 32 n text r small (omega (arith, small)) is parses

-- Which is written again as that text.
pub other_text : {E : Type 0} {n m : ℕ} {text again : List ℕ} {r : Result ℕ E} → r ≡ Ok n → r ≡ Ok m → text ≡ decimal n → again ≡ decimal m → false ≡ bytes_eq again text → ⊥
other_text {n = n} {m = m} {text = text} {again = again} read is given written other = grind (arith, bytes_eq-Decides)

abbrev pub points : List ℕ → List ℕ
points cs = flat_map (λ d. codes "." ++ decimal d) cs

pub point_no_digit : (c : ℕ) → c ≡ 46 → 48 ≤ c → c ≤ 57 → ⊥
point_no_digit c is low high = omega (arith, is, low)

fits : (l : List ℕ) (c : ℕ) (n : List ℕ) → IsSchedule (l ++ c ∷ n) → FitsCut l c
fits l c n ok = record {
  room = omega (arith, ok.at_most, length-append l (c ∷ n));
  small = All-head (λ d. d < 2 ^ 32) c n (subst (All (λ d. d < 2 ^ 32)) (drop-append_seam l (c ∷ n)) (All-drop (λ d. d < 2 ^ 32) (length l) (l ++ c ∷ n) ok.small));
}

pub spelling : IsSpelling 46 decimal FitsCut IsSchedule
spelling = record {
  lacks = λ l c f. lacks_decimal 46 point_no_digit c f.small;
  no_dash = λ l c rest f is. no_dash c rest f.small is;
  same = λ l m n at_m at_n is. decimal_injective m n (omega (arith, at_m.small)) (omega (arith, at_n.small)) is;
  fits = fits;
  grows = λ l c ok f. record {
    at_most = omega (arith, f.room, length-append l (c ∷ []));
    small = All-push (λ d. d < 2 ^ 32) l c ok.small f.small;
  };
}
