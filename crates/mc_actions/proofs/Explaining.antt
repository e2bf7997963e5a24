-- What is said of the parts of a table is said of the whole; and whether anything is said.
use Rattle.std.specs.Prelude.{List, [], false, flat_map, length, map, refl, true, ℕ, ◌++◌, ◌==◌, ◌∷◌, ◌≡◌, ◌≢◌}
use Rattle.std.proofs.{Common.{Bor, ap, arith, sym, ◌∙◌}, lemmas.Bool.Decides.{nat_tests}, lemmas.Grind.{flat_map-append}, lemmas.List.{map-append}}

module _ {A B : Type 0} where
  pub parts_mapped : (f : A → B) (parts : List (Bor (List A))) → flat_map (λ part. map f part.now) parts ≡ map f (flat_map (λ part. part.now) parts)
  parts_mapped f [] = refl
  parts_mapped f (part ∷ parts) = ap (λ z. map f part.now ++ z) (parts_mapped f parts) ∙ sym (map-append f part.now (flat_map (λ p. p.now) parts))

  pub parts_said : (f : A → List B) (parts : List (Bor (List A))) → flat_map (λ part. flat_map f part.now) parts ≡ flat_map f (flat_map (λ part. part.now) parts)
  parts_said f [] = refl
  parts_said f (part ∷ parts) = ap (λ z. flat_map f part.now ++ z) (parts_said f parts) ∙ sym (flat_map-append f part.now (flat_map (λ p. p.now) parts))

pub none_said : (text : List ℕ) → true ≡ (length text == 0) → text ≡ []
none_said [] none = refl
none_said (c ∷ cs) none = absurd (grind (arith, nat_tests))

pub some_said : (text : List ℕ) → false ≡ (length text == 0) → text ≢ []
some_said [] some = λ none. cc
some_said (c ∷ cs) some = λ none. cc
