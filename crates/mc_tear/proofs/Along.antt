-- Lists of operations, with what holds of each where it is done.
use Rattle.std.proofs.Common.{ap, sym, ◌∙◌}
use Rattle.std.specs.List.{AllByRecursion}
use Rattle.std.specs.Prelude.{List, None, Option, Some, [], option_and_then, refl, slice_get, suc, take, zero, ℕ, ◌++◌, ◌∷◌, ◌≡◌}
use Rattle.mc_boot.proofs.Keeps.{Keeps}
use Rattle.mc_boot.specs.Outcome.{applied, first_then, happening}
use Rattle.mc_flash.specs.{Flash.{Content, apply}, Geometry.{Geometry}, declared.op.Op.{Op}}

-- R holds of each operation and what stands before it, as far as they can be done; and Q at the end.
abbrev pub Along : Geometry → (Content → Op → Type 0) → (Content → Type 0) → List Op → Content → Type 0
Along g R Q [] s = Q s
Along g R Q (op ∷ ops) s = R s op × ((t : Content) → apply g op s ≡ Some t → Along g R Q ops t)

module _ (g : Geometry) (R : Content → Op → Type 0) where
  pub along_append : (Q Z : Content → Type 0) (xs ys : List Op) (s : Content) → Along g R Q xs s → ((t : Content) → Q t → Along g R Z ys t) → Along g R Z (xs ++ ys) s
  along_append Q Z [] ys s first more = more s first
  along_append Q Z (x ∷ xs) ys s first more = (first.0, λ t is. along_append Q Z xs ys t (first.1 t is) more)

  -- What each operation keeps.
  pub along_kept : (I : Content → Type 0) (ops : List Op) → AllByRecursion (λ op. (s : Content) → I s → R s op × ((t : Content) → apply g op s ≡ Some t → I t)) ops
      → (s : Content) → I s → Along g R I ops s
  along_kept I [] all s so = so
  along_kept I (op ∷ ops) all s so = let one = all.0 s so in (one.0, λ t is. along_kept I ops all.1 t (one.1 t is))

  -- What is known of the end in another way.
  pub along_keeps : (P Q Z : Content → Type 0) (ops : List Op) (s : Content) → Along g R Q ops s → Keeps g P ops s Z → Along g R (λ t. Q t × Z t) ops s
  along_keeps P Q Z [] s first more = (first, more)
  along_keeps P Q Z (op ∷ ops) s first more = (
    first.0,
    λ t is.
        let same : Some more.1.0 ≡ Some t = sym more.1.1 ∙ is in
        let one : more.1.0 ≡ t = cc in
        along_keeps P Q Z ops t (first.1 t is) (rw (← one) more.1.2),
  )

  pub along_more : (Q Z : Content → Type 0) (ops : List Op) (s : Content) → Along g R Q ops s → ((t : Content) → Q t → Z t) → Along g R Z ops s
  along_more Q Z [] s first more = more s first
  along_more Q Z (op ∷ ops) s first more = (first.0, λ t is. along_more Q Z ops t (first.1 t is) more)

  -- So it holds of each that is done.
  pub along_at : (Q : Content → Type 0) (ops : List Op) (s : Content) → Along g R Q ops s → (n : ℕ) (op : Op) (t : Content)
      → slice_get (happening g ops s) n ≡ Some op → applied g (take n (happening g ops s)) s ≡ Some t → R t op
  along_at Q [] s along n op t next reached = absurd cc
  along_at Q (x ∷ ops) s along n op t next reached = by n (apply g x s) refl (λ m y is here there. along_at Q ops y (along.1 y is) m op t here there) next reached
    where
      by : (n : ℕ) (o : Option Content) → apply g x s ≡ o
          → ((m : ℕ) (y : Content) → apply g x s ≡ Some y → slice_get (happening g ops y) m ≡ Some op → applied g (take m (happening g ops y)) y ≡ Some t → R t op)
          → slice_get (first_then x (λ u. happening g ops u) o) n ≡ Some op → applied g (take n (first_then x (λ u. happening g ops u) o)) s ≡ Some t → R t op
      by n None is later next reached = absurd cc
      by zero (Some y) is later next reached =
          let one : x ≡ op = cc in
          let two : s ≡ t = cc in
          rw (← one, ← two) along.0
      by (suc m) (Some y) is later next reached = later m y is next (ap (option_and_then (λ u. applied g (take m (happening g ops y)) u)) (sym is) ∙ reached)
