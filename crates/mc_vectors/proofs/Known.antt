-- The digests of the cases, as a set that grows.
use Rattle.std.specs.{BTreeSet.{BTreeSet, Updates, contains}, Cmp.Lexicographic.{slice_cmp}, Ordering.{nat_cmp}}
use Rattle.std.specs.Prelude.{Bool, Contains, bytes_eq, cond, false, not, true}
use Rattle.std.proofs.Common.{List, [], ap, inl, inr, refl, subst, sym, true≢false, ℕ, ◌++◌, ◌∙◌, ◌∷◌, ◌≡◌, ◌≢◌}
use Rattle.std.proofs.{lemmas.List.Elements.{Contains-append_left, Contains-push, Contains-push_cases}, lemmas.Map.Text.{is_eq-slice_cmp}}
use Rattle.std.proofs.lemmas.Slice.Eq.{bytes_eq-Decides}
use Rattle.mc_tree.specs.facts.Lists.{no_element}
use Rattle.mc_vectors.specs.{declared.case.Case.{Case}, inner.Searching.{AreKnown}}

-- None is known where there is no case.
pub known_none : (known : BTreeSet (List ℕ)) → known.keys ≡ [] → AreKnown known []
known_none known none d = (
  λ is. absurd (true≢false (sym is ∙ ap (λ (keys : List (List ℕ)). contains (slice_cmp nat_cmp) (record { keys = keys }) d) none)),
  λ is c inside. absurd (no_element c inside),
)

-- One more, with its case.
pub known_put : (old new : BTreeSet (List ℕ)) (cases : List Case) (n : Case) → Updates (slice_cmp nat_cmp) old new n.digest true → AreKnown old cases → AreKnown new (cases ++ n ∷ [])
known_put old new cases n put known d = by (bytes_eq n.digest d) refl
  where
    after : contains (slice_cmp nat_cmp) new d ≡ cond (bytes_eq n.digest d) true (contains (slice_cmp nat_cmp) old d)
    after = put.0 d ∙ ap (λ b. cond b true (contains (slice_cmp nat_cmp) old d)) (is_eq-slice_cmp n.digest d)

    by : (b : Bool) → bytes_eq n.digest d ≡ b
        → (contains (slice_cmp nat_cmp) new d ≡ true → (c : Case) × Contains (cases ++ n ∷ []) c × (c.digest ≡ d))
        × (contains (slice_cmp nat_cmp) new d ≡ false → (c : Case) → Contains (cases ++ n ∷ []) c → c.digest ≢ d)
    by true same = (
      λ is. (n, Contains-push cases n, (bytes_eq-Decides n.digest d).0 same),
      λ is. absurd (true≢false (sym (after ∙ ap (λ b. cond b true (contains (slice_cmp nat_cmp) old d)) same) ∙ is)),
    )
    by false other =
        let kept : contains (slice_cmp nat_cmp) new d ≡ contains (slice_cmp nat_cmp) old d = after ∙ ap (λ b. cond b true (contains (slice_cmp nat_cmp) old d)) other in (
          λ is. let c = (known d).0 (sym kept ∙ is) in (c.0, Contains-append_left cases (n ∷ []) c.0 c.1, c.2),
          λ is c inside. elim (Contains-push_cases cases n c inside) [
            | inl i ↦ (known d).1 (sym kept ∙ is) c i
            | inr e ↦ λ at. absurd (true≢false (sym ((bytes_eq-Decides n.digest d).1 (ap (λ (m : Case). m.digest) e ∙ at)) ∙ other))
          ],
        )

-- The same keys serve.
pub known_kept : (old new : BTreeSet (List ℕ)) (cases : List Case) → new.keys ≡ old.keys → AreKnown old cases → AreKnown new cases
known_kept old new cases same known =
    subst (λ (keys : List (List ℕ)). AreKnown (record { keys = keys }) cases) (sym same) known

-- A digest that is put anew, or again.
pub was_known : (known : BTreeSet (List ℕ)) (cases : List Case) (d : List ℕ) → AreKnown known cases → (added : Bool) → added ≡ not (contains (slice_cmp nat_cmp) known d) → added ≡ false
    → (c : Case) × Contains cases c × (c.digest ≡ d)
was_known known cases d are added is none = by (contains (slice_cmp nat_cmp) known d) refl
  where
    by : (b : Bool) → contains (slice_cmp nat_cmp) known d ≡ b → (c : Case) × Contains cases c × (c.digest ≡ d)
    by true at = (are d).0 at
    by false at = absurd (true≢false (sym (is ∙ ap (λ b. not b) at) ∙ none))

pub was_new : (known : BTreeSet (List ℕ)) (cases : List Case) (d : List ℕ) → AreKnown known cases → (added : Bool) → added ≡ not (contains (slice_cmp nat_cmp) known d) → added ≡ true
    → (c : Case) → Contains cases c → c.digest ≢ d
was_new known cases d are added is some = by (contains (slice_cmp nat_cmp) known d) refl
  where
    by : (b : Bool) → contains (slice_cmp nat_cmp) known d ≡ b → (c : Case) → Contains cases c → c.digest ≢ d
    by true at c inside = absurd (true≢false (sym some ∙ is ∙ ap (λ b. not b) at))
    by false at c inside = (are d).1 at c inside
