-- What a line of a layout's file says.
use Rattle.std.proofs.Common.{Bor, List, None, Option, Some, [], add-one, ap, arith, codes, drop, get_or, inl, inr, length, refl, subst, suc, sym, take, zero, ℕ, ◌++◌, ◌+◌, ◌<◌, ◌∙◌, ◌∷◌, ◌≡◌}
use Rattle.std.proofs.lemmas.List.{append_assoc, append-nil, append_cancel_left}
use Rattle.std.proofs.Math.Seq.{take-suc}
use Rattle.std.specs.{Prelude.{MatchOption}, Str.Pattern.{FindsTextPrefix}}
use Rattle.mc_options.specs.LayoutFiles.{AddsWord, AddsWords, AreWords, GivesOption, HasValue, LacksOption, SaysOption, option_word, said_in}
use Rattle.mc_options.specs.Numbers.{option_name}
use Rattle.mc_options.specs.declared.numbers.NumberOption.{NumberOption}

-- A text from which a prefix is stripped.
pub stripped : (first s x : List ℕ) → (n : ℕ) × FindsTextPrefix first s (Some n) × (x ≡ drop n s) × (length x + n ≡ length s) → s ≡ first ++ x
stripped first s x h = h.1.1 ∙ ap (λ z. first ++ z) (sym h.2)

pub said_by : (said after rest : List ℕ) (option : NumberOption) (found : Option (Bor (List ℕ))) → said ≡ codes "--" ++ after → after ≡ option_name option ++ rest
    → MatchOption found ((value : List ℕ) → HasValue rest value → ⊥) (λ value. HasValue rest value.now)
    → MatchOption found ((value : List ℕ) → SaysOption said option value → ⊥) (λ value. SaysOption said option value.now)
said_by said after rest option None is named none =
    let whole = is ∙ ap (λ z. codes "--" ++ z) named ∙ sym (append_assoc (codes "--") (option_name option) rest) in
    λ value says. none value (subst (λ z. HasValue z value) (append_cancel_left (option_word option) says.0 rest (sym says.1 ∙ whole)) says.2)
said_by said after rest option (Some value) is named some =
    (rest, is ∙ ap (λ z. codes "--" ++ z) named ∙ sym (append_assoc (codes "--") (option_name option) rest), some)

-- The words of a text are those of its parts.
joined : (lines more words later : List (List ℕ)) → AreWords lines words → AreWords more later → AreWords (lines ++ more) (words ++ later)
joined [] more words later is are = subst (AreWords more) (ap (λ z. z ++ later) (sym is)) are
joined (l ∷ ls) more words later (inl h) are = inl (h.0, joined ls more words later h.1 are)
joined (l ∷ ls) more words later (inr h) are = inr (h.0, h.1 ++ later, h.2, joined ls more h.1 later h.3 are, ap (λ z. z ++ later) h.4)

one_line : (line : List ℕ) (old new : List (List ℕ)) → AddsWord line old new → AddsWords (line ∷ []) old new
one_line line old new (inl h) = ([], inl (h.0, refl), h.1 ∙ sym (append-nil old))
one_line line old new (inr h) = (h.0 ∷ [], inr (h.0, [], h.1, refl, refl), h.2)

pub one_more : (lines : List (List ℕ)) (i : ℕ) (line : List ℕ) (old mid new : List (List ℕ)) → i < length lines → line ≡ get_or lines i line
    → AddsWords (take i lines) old mid → AddsWord line mid new → AddsWords (take (i + 1) lines) old new
one_more lines i line old mid new within is before adds =
    let here = one_line line mid new adds in
    let whole : take (i + 1) lines ≡ take i lines ++ line ∷ [] = rw add-one (take-suc lines i line within ∙ ap (λ z. take i lines ++ z ∷ []) (sym is)) in
    subst (λ z. AddsWords z old new) (sym whole) (
      before.0 ++ here.0,
      joined (take i lines) (line ∷ []) before.0 here.0 before.1 here.1,
      here.2 ∙ ap (λ z. z ++ here.0) before.2 ∙ append_assoc old before.0 here.0,
    )

-- Where a line gives no option, there are none.
pub lacks_words : (lines : List (List ℕ)) (i : ℕ) (line : List ℕ) (words : List (List ℕ)) → i < length lines → line ≡ get_or lines i line → LacksOption line → AreWords lines words → ⊥
lacks_words [] i line words within is lacks are = absurd (omega arith)
lacks_words (l ∷ ls) zero line words within is lacks (inl h) = lacks.0 (ap said_in is ∙ h.0)
lacks_words (l ∷ ls) zero line words within is lacks (inr h) = lacks.1 h.2.option h.2.value (subst (λ z. GivesOption z h.2.option h.2.value) (sym is) h.2.gives)
lacks_words (l ∷ ls) (suc i) line words within is lacks (inl h) = lacks_words ls i line words (omega arith) is lacks h.1
lacks_words (l ∷ ls) (suc i) line words within is lacks (inr h) = lacks_words ls i line h.1 (omega arith) is lacks h.3
