-- The line of a row out of that of the row before.
use Rattle.std.proofs.Common.{◌∙◌, ap, append_assoc, arith, inl, inr, length-append, subst, sym}
use Rattle.std.proofs.{Math.ListN.{get_or}, lemmas.List.{length-take-le}, lemmas.Option.{same_Some}}
use Rattle.std.specs.Prelude.{List, Option, Some, [], length, take, ℕ, ◌++◌, ◌+◌, ◌-◌, ◌∷◌, ◌≡◌}
use Rattle.mc_start.specs.facts.Counting.{parted}
use Rattle.mc_explore.specs.{Subject.{Subject}, declared.boot_row.BootRow.{BootRow}, inner.BootRows.{counted_up}}
use Rattle.mc_explore.specs.{inner.Exploring.{AreNextTexts, Edge, IsCountedUp, IsFamily}, inner.Lines.{IsLine, IsLineOf, IsNextLine}}

module _ {C K R U : Type 0} (x : Subject C K R U) where
  -- Of two rows with such texts.
  next_line : (old new : R) (text : List ℕ) (key : ℕ) (text' : List ℕ) (key' : ℕ) → AreNextTexts x old new → IsLine x old text key → IsNextLine key text text' → key' ≡ key → IsLine x new text' key'
  next_line old new text key text' key' texts (text_is, key_is) (some, within, next) same =
      let name : List ℕ = x.key_text (x.key old) in
      let front : List ℕ = take (length name - 1) name in
      let digit : ℕ = get_or name (length name - 1) 0 in
      let ends = parted name 0 (omega (arith, some, key_is)) in
      let back : List ℕ = texts.rest ++ 10 ∷ [] in
      let split : text ≡ front ++ digit ∷ back =
      text_is ∙ ap (λ l. l ++ 10 ∷ []) texts.old_is ∙ append_assoc name texts.rest (10 ∷ []) ∙ ap (λ l. l ++ back) ends ∙ append_assoc front (digit ∷ []) back in
      let few : length front ≡ length name - 1 = length-take-le (length name - 1) name (omega arith) in
      let one = next front back digit split (omega (arith, few, key_is, some)) in
      let name_is = texts.key front digit ends one.0 one.1 in
      let whole : x.row_text new ++ 10 ∷ [] ≡ front ++ (digit + 1) ∷ back =
      ap (λ l. l ++ 10 ∷ []) texts.new_is ∙ append_assoc (x.key_text (x.key new)) texts.rest (10 ∷ []) ∙ ap (λ l. l ++ back) name_is ∙ append_assoc front ((digit + 1) ∷ []) back in
      let long : length (x.key_text (x.key new)) ≡ length name =
      ap length name_is ∙ length-append front ((digit + 1) ∷ []) ∙ sym (length-append front (digit ∷ [])) ∙ ap length (sym ends) in
      (one.2 ∙ sym whole, same ∙ key_is ∙ sym long)

  pub line_on : (edge : Edge C K R) → IsFamily x edge → (before : Option BootRow) (row : BootRow) (old : List ℕ) (key : ℕ) (new : List ℕ) (key' : ℕ) → IsCountedUp before (Some row)
      → IsLineOf x edge before old key → IsNextLine key old new → key' ≡ key → IsLine x (edge.shown_of row) new key'
  line_on edge family before row old key new key' counted (inl none) (some, within, next) same = absurd (omega (arith, some, within, ap length none))
  line_on edge family before row old key new key' counted (inr (r, is, line)) next same =
      let before_is : counted.before ≡ r = same_Some _ _ (sym counted.was ∙ is) in
      let row_is : counted_up 1 counted.before ≡ row = same_Some _ _ (sym counted.is) in
      let T : BootRow → BootRow → Type 0 = λ a b. AreNextTexts x (edge.shown_of a) (edge.shown_of b) in
      next_line (edge.shown_of r) (edge.shown_of row) old key new key' (subst (λ a. T a row) before_is (subst (T counted.before) row_is (family.texts counted.before counted.can))) line next same
