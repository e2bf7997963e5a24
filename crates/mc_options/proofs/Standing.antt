-- The words of a line with what its files give.
use Rattle.std.proofs.Common.{List, [], ap, arith, codes, length, map, refl, subst, sym, ℕ, ◌++◌, ◌∙◌, ◌∷◌, ◌≡◌, ◌≢◌}
use Rattle.std.proofs.lemmas.List.{append_assoc}
use Rattle.mc_options.specs.LayoutFiles.{FileGives, Follow, NamesFile, StandsFor}
use Rattle.mc_cli.specs.Files.{Holds}

module _ (holds : Holds) (words rest after : List (List ℕ)) where
  -- What the words become, where that is known of the rest.
  abbrev pub Becomes : List (List ℕ) → Type 0
  Becomes whole = (later : List (List ℕ)) → StandsFor holds rest later → StandsFor holds words (whole ++ later)

  pub file_more : (old new given : List (List ℕ)) (path : List ℕ) → Becomes old → NamesFile rest path after → FileGives holds path given → new ≡ old ++ given
      → (later : List (List ℕ)) → StandsFor holds after later → StandsFor holds words (new ++ later)
  file_more old new given path so names gives is later stands =
      subst (StandsFor holds words) (sym (ap (λ z. z ++ later) is ∙ append_assoc old given later)) (so (given ++ later) (StandsFor.file rest path after given later names gives stands))

  pub word_more : (old new : List (List ℕ)) (word : List ℕ) → Becomes old → rest ≡ word ∷ after
      → ((path : List ℕ) (more : List (List ℕ)) → NamesFile rest path more → ⊥) → word ≢ codes "--" → new ≡ old ++ word ∷ []
      → (later : List (List ℕ)) → StandsFor holds after later → StandsFor holds words (new ++ later)
  word_more old new word so begins none differs is later stands =
      let plain = subst (λ z. (path : List ℕ) (more : List (List ℕ)) → NamesFile z path more → ⊥) begins none in
      let here = subst (λ z. StandsFor holds z (word ∷ later)) (sym begins) (StandsFor.word word after later plain differs stands) in
      subst (StandsFor holds words) (sym (ap (λ z. z ++ later) is ∙ append_assoc old (word ∷ []) later)) (so (word ∷ later) here)

  pub follow_word : (word : List ℕ) → Follow words rest → rest ≡ word ∷ after → word ≢ codes "--" → Follow words after
  follow_word word before begins differs = Follow.word word after differs (subst (Follow words) begins before)

  pub stand_over : (old new : List (List ℕ)) (word : List ℕ) → Becomes old → rest ≡ word ∷ after → word ≡ codes "--" → new ≡ old ++ rest → StandsFor holds words new
  stand_over old new word so begins end is =
      let over = begins ∙ ap (λ z. z ∷ after) end in
      subst (StandsFor holds words) (sym is) (so rest (subst (λ z. StandsFor holds z z) (sym over) (StandsFor.over after)))

pub none_left : {A B : Type 0} (f : A → B) (xs : List A) → length xs ≡ 0 → map f xs ≡ []
none_left f [] none = refl
none_left f (x ∷ xs) none = absurd (omega (arith, none))

pub stand_none : (holds : Holds) (words rest old new : List (List ℕ)) → Becomes holds words rest rest old → rest ≡ [] → new ≡ old ++ rest → StandsFor holds words new
stand_none holds words rest old new so none is = subst (StandsFor holds words) (sym is) (so rest (subst (λ z. StandsFor holds z z) (sym none) StandsFor.none))
