-- What a line says: no carriage return and no spaces at its end.
use Rattle.std.specs.Prelude.{◌≡◌, ◌≢◌, ℕ, ◌-◌, ◌==◌, false, if◌then◌else◌, List, [], ◌∷◌, ◌++◌, length, take, drop, Option, Some, None, IfSome, MatchOption, refl}
use Rattle.std.specs.{Borrow.{Bor}, Option.{unwrap_or}}
use Rattle.std.specs.Str.Pattern.{CutsSuffixes, FindsCharSuffix, IsTrimEndMatches}
use Rattle.std.proofs.{Common.{arith, sym, ap, take-append-drop, ◌∙◌}, lemmas.Bool.Decides.{nat_tests}}
use Rattle.std.proofs.{lemmas.Str.{len_utf8_ascii}, lemmas.Str.Pattern.{drop_at_char}}
use Rattle.mc_life.specs.Script.{unless_last, without_return, without_spaces}

other_byte : (c k : ℕ) → (c ≡ k → ⊥) → (c == k) ≡ false
other_byte c k other = grind (arith, nat_tests)

-- ---- a carriage return

pub return_cut : (xs : List ℕ) → without_return (xs ++ 13 ∷ []) ≡ xs
return_cut [] = refl
return_cut (x ∷ []) = refl
return_cut (x ∷ y ∷ xs) = ap (λ (z : List ℕ). x ∷ z) (return_cut (y ∷ xs))

pub return_kept : (xs : List ℕ) → ((front : List ℕ) → xs ≢ front ++ (13 ∷ [])) → without_return xs ≡ xs
return_kept [] none = refl
return_kept (c ∷ []) none = ap (λ b. if b then [] else c ∷ []) (other_byte c 13 (λ e. none [] (ap (λ (x : ℕ). x ∷ []) e)))
return_kept (c ∷ d ∷ cs) none = ap (λ (z : List ℕ). c ∷ z) (return_kept (d ∷ cs) (λ front e. none (c ∷ front) (ap (λ (z : List ℕ). c ∷ z) e)))

pub returned : (text x : Bor (List ℕ)) (r : Option (Bor (List ℕ))) → x ≡ unwrap_or r text
    → MatchOption r ((front : List ℕ) → text.now ≢ front ++ (13 ∷ [])) (λ y. text.now ≡ y.now ++ (13 ∷ [])) → x.now ≡ without_return text.now
returned text x None is none = ap (λ (b : Bor (List ℕ)). b.now) is ∙ sym (return_kept text.now none)
returned text x (Some y) is strips = ap (λ (b : Bor (List ℕ)). b.now) is ∙ sym (ap without_return strips ∙ return_cut y.now)

-- ---- spaces

spaces_cut : (xs : List ℕ) → without_spaces (xs ++ 32 ∷ []) ≡ without_spaces xs
spaces_cut [] = refl
spaces_cut (x ∷ xs) = ap (unless_last x) (spaces_cut xs)

spaces_kept : (xs : List ℕ) → ((front : List ℕ) → xs ≢ front ++ (32 ∷ [])) → without_spaces xs ≡ xs
spaces_kept [] none = refl
spaces_kept (c ∷ []) none = ap (λ b. if b then [] else c ∷ []) (other_byte c 32 (λ e. none [] (ap (λ (x : ℕ). x ∷ []) e)))
spaces_kept (c ∷ d ∷ cs) none = ap (unless_last c) (spaces_kept (d ∷ cs) (λ front e. none (c ∷ front) (ap (λ (z : List ℕ). c ∷ z) e)))

drop_all : (xs : List ℕ) → drop (length xs) xs ≡ []
drop_all [] = refl
drop_all (x ∷ xs) = drop_all xs

one_off : (s : List ℕ) (n : ℕ) → FindsCharSuffix 32 s (Some n) → s ≡ take (length s - n) s ++ 32 ∷ []
one_off s n found =
    let k = length s - n in
    sym (take-append-drop k s) ∙ ap (λ (l : List ℕ). take k s ++ l) (drop_at_char 32 s k (length s) found.1 (omega arith) ∙ ap (λ (l : List ℕ). 32 ∷ l) (drop_all s))

all_off : (ns s r : List ℕ) → CutsSuffixes (FindsCharSuffix 32) s ns r → without_spaces s ≡ without_spaces r
all_off [] s r cut = ap without_spaces (sym cut)
all_off (n ∷ ns) s r cut =
    let m = cut.0 in
    all_off ns s m cut.1 ∙ ap without_spaces (one_off m n cut.2) ∙ spaces_cut (take (length m - n) m) ∙ ap without_spaces (sym cut.3)

none_left : (r : List ℕ) (o : Option ℕ) → FindsCharSuffix 32 r o → IfSome o (λ n. n ≡ 0) → without_spaces r ≡ r
unfolding lib.Utf8.encode
none_left r None none empty = spaces_kept r none
none_left r (Some n) found empty = absurd (omega (arith, found.0, empty, len_utf8_ascii 32 (omega arith)))

pub trimmed : (s r : List ℕ) → IsTrimEndMatches (FindsCharSuffix 32) s r → r ≡ without_spaces s
trimmed s r is = sym (all_off is.0.0 s r is.0.1 ∙ none_left r is.1.0 is.1.1 is.1.2)
