-- The nearest of the cases that were gone through.
use Rattle.std.specs.Prelude.{AllPairs, Contains, Option, Some, None, drop, get_or, is_some, min, take, true}
use Rattle.std.proofs.{Common.{List, [], ap, arith, inl, inr, length, refl, subst, sym, ℕ, ◌++◌, ◌+◌, ◌<◌, ◌∙◌, ◌∷◌, ◌≡◌, ◌≤◌, ◌⊎◌}, lemmas.Bool.{cases_lt}}
use Rattle.std.proofs.lemmas.List.{get_or-take, get_or_default, length-take, take-append-drop, take_all, take_more}
use Rattle.std.proofs.lemmas.List.Elements.{Contains-append_left, Contains-push, Contains-push_cases}
use Rattle.mc_boot.specs.{Outcome.{after}, Plan.{PowerOn}}
use Rattle.mc_explore.specs.{Schedules.{CanOccur, CannotOccurAt}, facts.Occurring.{allowed_occurs, occurs_allowed}}
use Rattle.mc_explore.specs.Boots.{boots}
use Rattle.mc_flash.specs.Flash.{Content}
use Rattle.mc_tree.specs.{facts.Lists.{no_element}, facts.Order.{allowed_prefix}}
use Rattle.mc_vectors.specs.{Cases.{AreCases, ComesBefore, IsNoLater}, Locating.{IsNearest, IsNoFarther, distance}, declared.case.Case.{Case}}
use Rattle.mc_vectors.specs.inner.Locating.{IsNearestCase}
use Rattle.mc_vectors.proofs.{Differing.{distance_few}, Orders.{no_later_trans}}

pub some_of : {A : Type 0} (o : Option A) → is_some o ≡ true → (a : A) × (o ≡ Some a)
some_of None is = absurd cc
some_of (Some a) is = (a, refl)

-- A schedule that can occur is not refused.
pub not_refused : (x : PowerOn) (l : List ℕ) (index : ℕ) → CanOccur x l → CannotOccurAt x l index → ⊥
not_refused x l index occurs at =
    let there = allowed_occurs x (take (index + 1) l) (allowed_prefix boots x l (index + 1) (occurs_allowed x l occurs)) in
    cc (there, at.not_there)

same_some : {A : Type 0} (o : Option A) (a b : A) → o ≡ Some a → o ≡ Some b → a ≡ b
same_some o a b p q = cc

none_before : (l : List ℕ) → IsNoLater [] l
none_before [] = inl refl
none_before (x ∷ l) = inr (inl (omega arith))

-- Of the first so many cases this one's schedule is the nearest, and so far away.
pub record IsNearestYet (x : PowerOn) (s : Content) (cases : List Case) (i : ℕ) (best : List ℕ) (least : ℕ) : Type 0 where
  pub near : IsNearestCase x s (take i cases) best
  pub more : i ≡ 0 → x.geometry.primary + x.geometry.secondary < least
  pub least_is : 0 < i → distance x.geometry near.flash s ≡ least
  pub before : (k : ℕ) (d : Case) → i ≤ k → k < length cases → IsNoLater best (get_or cases k d).schedule

pub none_yet : (x : PowerOn) (s : Content) (cases : List Case) (least : ℕ) → x.geometry.primary + x.geometry.secondary < least → IsNearestYet x s cases 0 [] least
none_yet x s cases least more = record {
  near = record { from = inl refl; flash = x.content; leaves = refl; nearest = λ c v inside. absurd (no_element c inside) };
  more = λ e. more;
  least_is = λ some. absurd (omega arith);
  before = λ k d from inside. none_before (get_or cases k d).schedule;
}

module _ (x : PowerOn) (s : Content) (cases : List Case) (i : ℕ) (best : List ℕ) (least : ℕ) (y : IsNearestYet x s cases i best least) where
  abbrev flash : Content
  flash = y.near.flash

  abbrev far : Content → ℕ
  far v = distance x.geometry v s

  some : (d : Case) → Contains (take i cases) d → 0 < i
  some d at = omega (arith, at.1, length-take i cases)

  at_most : (d : Case) (v : Content) → Contains (take i cases) d → after x d.schedule ≡ Some v → least ≤ far v
  at_most d v at is = elim (y.near.nearest d v at is) [
    | inl lt ↦ omega (arith, lt, y.least_is (some d at))
    | inr same ↦ omega (arith, same.0, y.least_is (some d at))
  ]

  no_farther : (l : List ℕ) (v : Content) → far flash ≤ far v → IsNoLater best l → IsNoFarther x.geometry s best flash l v
  no_farther l v le before = grind arith

  in_all : (d : Case) → Contains (take i cases) d → Contains cases d
  in_all d at = subst (λ (l : List Case). Contains l d) (take-append-drop i cases) (Contains-append_left (take i cases) (drop i cases) d at)

  from_more : (more : List Case) → ((d : Case) → Contains (take i cases) d → Contains more d) → (best ≡ []) ⊎ ((d : Case) × Contains more d × (d.schedule ≡ best))
  from_more more on = grind arith

  -- No case comes nearer than one that is not away.
  pub at_zero : least ≡ 0 → IsNearestCase x s cases best
  at_zero none = record { from = from_more cases in_all; flash = flash; leaves = y.near.leaves; nearest = λ d v at is. by d v at is (cases_lt at.0 i) }
    where
      away : far flash ≡ 0
      away = elim (cases_lt 0 i) [
        | inl some ↦ y.least_is some ∙ none
        | inr le ↦ absurd (omega (arith, y.more (omega (arith, le)), none))
      ]

      by : (d : Case) (v : Content) (at : Contains cases d) → after x d.schedule ≡ Some v → (at.0 < i) ⊎ (i ≤ at.0) → IsNoFarther x.geometry s best flash d.schedule v
      by d v at is (inl lt) = y.near.nearest d v (at.0, omega (arith, at.1, length-take i cases), get_or-take i cases at.0 d lt ∙ at.2) is
      by d v at is (inr le) = no_farther d.schedule v (omega (arith, away)) (subst (λ (e : Case). IsNoLater best e.schedule) at.2 (y.before at.0 d le at.1))

  pub at_end : length cases ≤ i → IsNearestCase x s cases best
  at_end all = subst (λ (l : List Case). IsNearestCase x s l best) (take_all i cases all) y.near

  -- The next case, which is so far away.
  module _ (sorted : AllPairs (λ c d. ComesBefore c.schedule d.schedule) cases) (c : Case) (inside : i < length cases) (here : c ≡ get_or cases i c) (u : Content)
      (leaves : after x c.schedule ≡ Some u) (count : ℕ) (counted : count ≡ min least (far u)) where
    one_more : take (i + 1) cases ≡ take i cases ++ c ∷ []
    one_more = take_more cases i c inside ∙ ap (λ (d : Case). take i cases ++ d ∷ []) (sym here)

    old_or_here : (d : Case) → Contains (take (i + 1) cases) d → Contains (take i cases) d ⊎ (c ≡ d)
    old_or_here d at = Contains-push_cases (take i cases) c d (subst (λ (l : List Case). Contains l d) one_more at)

    same_flash : (d : Case) (v : Content) → c ≡ d → after x d.schedule ≡ Some v → u ≡ v
    same_flash d v same is = same_some (after x d.schedule) u v (ap (λ (e : Case). after x e.schedule) (sym same) ∙ leaves) is

    pub nearer : count < least → IsNearestYet x s cases (i + 1) c.schedule count
    nearer lt = record {
      near = record {
        from = inr (c, subst (λ (l : List Case). Contains l c) (sym one_more) (Contains-push (take i cases) c), refl);
        flash = u;
        leaves = leaves;
        nearest = λ d v at is. elim (old_or_here d at) [
          | inl old ↦ inl (omega (arith, counted, lt, at_most d v old is))
          | inr same ↦ inr (ap far (same_flash d v same is), inl (ap (λ (e : Case). e.schedule) same))
        ];
      };
      more = λ e. absurd (omega (arith, e));
      least_is = λ some. omega (arith, counted, lt);
      before = λ k d from within.
          let first : get_or cases i d ≡ c = get_or_default cases i d c inside ∙ sym here in
          inr (subst (λ (e : Case). ComesBefore e.schedule (get_or cases k d).schedule) first (sorted i k d (omega (arith, from)) within));
    }

    pub no_nearer : least ≤ count → IsNearestYet x s cases (i + 1) best least
    no_nearer le = record {
      near = record {
        from = from_more (take (i + 1) cases) (λ d at. subst (λ (l : List Case). Contains l d) (sym one_more) (Contains-append_left (take i cases) (c ∷ []) d at));
        flash = flash;
        leaves = y.near.leaves;
        nearest = λ d v at is. elim (old_or_here d at) [
          | inl old ↦ y.near.nearest d v old is
          | inr same ↦ no_farther d.schedule v (omega (arith, y.least_is seen, counted, le, ap far (same_flash d v same is)))
              (subst (λ (e : Case). IsNoLater best e.schedule) (sym here ∙ same) (y.before i c (omega arith) inside))
        ];
      };
      more = λ e. absurd (omega (arith, e));
      least_is = λ some. y.least_is seen;
      before = λ k d from within. y.before k d (omega (arith, from)) within;
    }
      where
        seen : 0 < i
        seen = elim (cases_lt 0 i) [
          | inl lt ↦ lt
          | inr none ↦ absurd (omega (arith, y.more (omega (arith, none)), counted, le, distance_few x.geometry u s))
        ]

-- The nearest of all cases is the nearest of all flashes.
pub nearest_of_all : (x : PowerOn) (IsAsked : List ℕ → Type 0) (s : Content) (cases : List Case) (l : List ℕ) → IsAsked [] → AreCases x IsAsked cases
    → IsNearestCase x s cases l → IsNearest x IsAsked s l
nearest_of_all x IsAsked s cases l none all n = grind (arith, no_later_trans)
