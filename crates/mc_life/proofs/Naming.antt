-- The files that a script names, line by line.
use Rattle.std.specs.Prelude.{◌≡◌, ℕ, List, [], ◌∷◌, ◌++◌, Option, Some, None, option_and_then, refl}
use Rattle.std.proofs.Common.{sym, ap, append_assoc, ◌∙◌}
use Rattle.mc_life.specs.{declared.event.Event.{Event}, Script.{Names, ReadsEvent, before, file_named, sayings, sayings_left}}

-- One line more.
names_more : (lines : List (List ℕ)) (line : List ℕ) (names : List (List ℕ)) (e : Option Event) → ReadsEvent line e → Names lines names
    → Names (lines ++ line ∷ []) (names ++ before (option_and_then file_named e) [])
names_more [] line names e reads none = (e, [], reads, refl, ap (λ (z : List (List ℕ)). z ++ before (option_and_then file_named e) []) none)
names_more (l ∷ lines) line names e reads named = (
  named.0,
  named.1 ++ before (option_and_then file_named e) [],
  named.2,
  names_more lines line named.1 e reads named.3,
  ap (λ (z : List (List ℕ)). z ++ before (option_and_then file_named e) []) named.4 ∙ put_before (option_and_then file_named named.0) named.1 (before (option_and_then file_named e) []),
)
  where
    put_before : (o : Option (List ℕ)) (a b : List (List ℕ)) → before o a ++ b ≡ before o (a ++ b)
    put_before None a b = refl
    put_before (Some n) a b = refl

-- What the lines so far name; the others are left.
pub record AreNamed (script : List ℕ) (rest : Option (List ℕ)) (names : List (List ℕ)) : Type 0 where
  pub replayed : List (List ℕ)
  pub are : sayings script ≡ replayed ++ sayings_left rest
  pub named : Names replayed names

pub names_line : (script text : List ℕ) (names : List (List ℕ)) → AreNamed script (Some text) names → (line : List ℕ) (after : Option (List ℕ)) → sayings text ≡ line ∷ sayings_left after
    → (found : Option (List ℕ)) → (e : Option Event) × ReadsEvent line e × (found ≡ option_and_then file_named e) → AreNamed script after (names ++ before found [])
names_line script text names at line after lines found (e, reads, is) = record {
  replayed = at.replayed ++ line ∷ [];
  are = at.are ∙ ap (λ (z : List (List ℕ)). at.replayed ++ z) lines ∙ sym (append_assoc at.replayed (line ∷ []) (sayings_left after));
  named = rw is (names_more at.replayed line names e reads at.named);
}
