-- The order of schedules by their lengths.
use Rattle.std.proofs.Common.{List, [], ap, arith, inl, inr, length, length-append, refl, subst, sym, ℕ, ◌++◌, ◌<◌, ◌∙◌, ◌∷◌, ◌≡◌, ◌≤◌}
use Rattle.mc_tree.specs.{Tree.{Precedes}, facts.Order.{paths_in_order}}
use Rattle.mc_vectors.specs.Cases.{ComesBefore, IsNoLater}

-- Of two as long, what follows changes nothing.
precedes_on : (l m xs ys : List ℕ) → length l ≡ length m → Precedes l m → Precedes (l ++ xs) (m ++ ys)
precedes_on [] [] xs ys e p = absurd p
precedes_on [] (y ∷ m) xs ys e p = absurd (omega (arith, e))
precedes_on (x ∷ l) [] xs ys e p = absurd p
precedes_on (x ∷ l) (y ∷ m) xs ys e (inl lt) = inl lt
precedes_on (x ∷ l) (y ∷ m) xs ys e (inr p) = inr (p.0, precedes_on l m xs ys (omega (arith, e)) p.1)

pub before_on : (l m xs ys : List ℕ) → length xs ≡ length ys → ComesBefore l m → ComesBefore (l ++ xs) (m ++ ys)
before_on l m xs ys e (inl lt) = inl (omega (arith, length-append l xs, length-append m ys, e, lt))
before_on l m xs ys e (inr p) = inr (omega (arith, length-append l xs, length-append m ys, e, p.0), precedes_on l m xs ys p.0 p.1)

pub before_trans : (l m n : List ℕ) → ComesBefore l m → ComesBefore m n → ComesBefore l n
before_trans l m n (inl p) (inl q) = inl (omega (arith, p, q))
before_trans l m n (inl p) (inr q) = inl (omega (arith, p, q.0))
before_trans l m n (inr p) (inl q) = inl (omega (arith, p.0, q))
before_trans l m n (inr p) (inr q) = inr (p.0 ∙ q.0, paths_in_order.trans l m n p.1 q.1)

pub no_later_on : (l m xs : List ℕ) → IsNoLater l m → IsNoLater (l ++ xs) (m ++ xs)
no_later_on l m xs (inl e) = inl (ap (λ (k : List ℕ). k ++ xs) e)
no_later_on l m xs (inr p) = inr (before_on l m xs xs refl p)

pub no_later_trans : (l m n : List ℕ) → IsNoLater l m → IsNoLater m n → IsNoLater l n
no_later_trans l m n (inl e) q = subst (λ (k : List ℕ). IsNoLater k n) (sym e) q
no_later_trans l m n (inr p) (inl e) = inr (subst (ComesBefore l) e p)
no_later_trans l m n (inr p) (inr q) = inr (before_trans l m n p q)

pub no_longer : (l m : List ℕ) → IsNoLater l m → length l ≤ length m
no_longer l m (inl e) = omega (arith, ap (λ (k : List ℕ). length k) e)
no_longer l m (inr (inl lt)) = omega (arith, lt)
no_longer l m (inr (inr p)) = omega (arith, p.0)

number_precedes : (l : List ℕ) (i j : ℕ) → i < j → Precedes (l ++ i ∷ []) (l ++ j ∷ [])
number_precedes [] i j lt = inl lt
number_precedes (x ∷ l) i j lt = inr (refl, number_precedes l i j lt)

pub number_before : (l : List ℕ) (i j : ℕ) → i < j → ComesBefore (l ++ i ∷ []) (l ++ j ∷ [])
number_before l i j lt = inr (omega (arith, length-append l (i ∷ []), length-append l (j ∷ [])), number_precedes l i j lt)
