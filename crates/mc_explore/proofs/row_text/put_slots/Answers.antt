use Rattle.std.proofs.Common.{◌≡◌, ℕ, List, [], ◌∷◌, ◌++◌, append_assoc, ap, ◌∙◌}
use Rattle.mc_explore.proofs.row_text.put_slots.Goals as goal

-- What is put one after the other.
put_on : (old a b c d e p s n t : List ℕ) → a ≡ old ++ p → b ≡ a ++ 32 ∷ [] → c ≡ b ++ s → d ≡ c ++ 32 ∷ [] → e ≡ d ++ n → n ≡ t → e ≡ old ++ (p ++ (32 ∷ (s ++ (32 ∷ t))))
put_on old a b c d e p s n t primary space secondary then next is =
    let before : d ≡ (((old ++ p) ++ 32 ∷ []) ++ s) ++ 32 ∷ [] = then ∙ ap (λ x. x ++ 32 ∷ []) (secondary ∙ ap (λ x. x ++ s) (space ∙ ap (λ x. x ++ 32 ∷ []) primary)) in
    next ∙ ap (λ x. d ++ x) is ∙ ap (λ x. x ++ t) before ∙ simp append_assoc

pub returns-clause-text : goal.returns-clause-text
returns-clause-text c =
    put_on _ _ _ _ _ _ _ _ _ _ c.put_slot.ensures.text c.put.ensures.text c.put_slot-2.ensures.text c.put-2.ensures.text c.put-3.ensures.text c.name.ensures.text
