-- Where each case is done, all flashes are found.
use Rattle.std.specs.Prelude.{All, Contains, Some, is_some, false, true, Bool}
use Rattle.std.proofs.Common.{List, [], append-nil, ap, arith, inl, inr, length, length-append, refl, subst, sym, ℕ, ◌++◌, ◌+◌, ◌<◌, ◌∙◌, ◌∷◌, ◌≡◌, ◌≤◌, ◌⊎◌, append_assoc}
use Rattle.std.proofs.{lemmas.List.{take_all}, lemmas.List.Elements.{All-contains}}
use Rattle.mc_boot.specs.{Outcome.{after, ops_of}, Plan.{PowerOn, again}}
use Rattle.mc_explore.specs.facts.Occurring.{allowed_after, landed_again, occurs_allowed}
use Rattle.mc_explore.specs.Boots.{at_cut, boots}
use Rattle.mc_flash.specs.Flash.{Content}
use Rattle.mc_tree.specs.{Tree.{Allowed, landed}, facts.Order.{allowed-push, landed-push}}
use Rattle.mc_vectors.specs.{Cases.{AnyCuts, AreCases, AtMost, ComesBefore, HasNoCollision, IsNoLater}, declared.case.Case.{Case}}
use Rattle.mc_vectors.specs.inner.Searching.{IsDone, IsSearch}
use Rattle.mc_vectors.proofs.Orders.{no_later_on, no_later_trans, no_longer}

-- A schedule lands where the tree says.
pub lands : (x : PowerOn) (l : List ℕ) (u : Content) → after x l ≡ Some u → landed boots x l ≡ again x u
lands x l u is = cc (landed_again x l, allowed_after x l (occurs_allowed x l (ap is_some is)))

-- The flash at one cut more.
pub after_push : (x : PowerOn) (l : List ℕ) (u : Content) (i : ℕ) → after x l ≡ Some u → i < length (ops_of (again x u)) → after x (l ++ i ∷ []) ≡ Some (at_cut (again x u) i)
after_push x l u i is some = grind (arith, lands, occurs_allowed, allowed_after, allowed-push, landed-push)

module _ (x : PowerOn) (bound : ℕ) (cases : List Case) (index : ℕ) (s : IsSearch x bound cases index) (all : length cases ≤ index) where
  done_all : (c : Case) → Contains cases c → IsDone x cases bound c
  done_all c inside = All-contains (IsDone x cases bound) cases c (subst (All (IsDone x cases bound)) (take_all index cases all) s.done) inside

  -- No case that goes its own way has too many cuts to be gone through.
  abbrev IsWhole : Type 0
  IsWhole = (c : Case) → Contains cases c → c.joins ≡ false → length c.schedule < bound

  -- The flash that such a cut of the boot from a case leaves has a case.
  abbrev HasChildCase : Case → Content → ℕ → Type 0
  HasChildCase c u i = (v : Case) × Contains cases v × (after x v.schedule ≡ Some (at_cut (again x u) i)) × IsNoLater v.schedule (c.schedule ++ i ∷ [])

  -- Where no two flashes have one digest.
  module _ (safe : HasNoCollision x) where
    own_child : (c : Case) → Contains cases c → c.joins ≡ false → length c.schedule < bound
        → (u : Content) → after x c.schedule ≡ Some u → (i : ℕ) → i < length (ops_of (again x u)) → HasChildCase c u i
    own_child c inside own few u is i some =
        let v = done_all c inside few own (i + 1) u is i (omega arith) some in
        let has = (s.each v.0 v.1).0 in
        let same : has.flash ≡ at_cut (again x u) i =
        safe v.0.schedule (c.schedule ++ i ∷ []) has.flash (at_cut (again x u) i) has.leaves (after_push x c.schedule u i is some) (sym has.digest_is ∙ v.2) in
        (v.0, v.1, has.leaves ∙ ap (λ (z : Content). Some z) same, v.3)

    child : (c : Case) → Contains cases c → (length c.schedule < bound) ⊎ IsWhole
        → (u : Content) → after x c.schedule ≡ Some u → (i : ℕ) → i < length (ops_of (again x u)) → HasChildCase c u i
    child c inside few u is i some = by c.joins refl
      where
        enough : (p : Case) → Contains cases p → p.joins ≡ false → length p.schedule ≤ length c.schedule → (length c.schedule < bound) ⊎ IsWhole → length p.schedule < bound
        enough p within own le (inl lt) = omega (arith, le, lt)
        enough p within own le (inr whole) = whole p within own

        by : (b : Bool) → c.joins ≡ b → HasChildCase c u i
        by false own = own_child c inside own (enough c inside own (omega arith) few) u is i some
        by true joins =
            let j = s.joined c inside joins in
            let parent = (s.each j.parent j.inside).0 in
            let at = j.within u parent.flash is parent.leaves i some in
            let v = own_child j.parent j.inside j.goes_its_way (enough j.parent j.inside j.goes_its_way (omega (arith, j.shorter)) few) parent.flash parent.leaves at.0 at.1 in
            let shorter : ComesBefore (j.parent.schedule ++ at.0 ∷ []) (c.schedule ++ i ∷ []) =
            inl (omega (arith, j.shorter, length-append j.parent.schedule (at.0 ∷ []), length-append c.schedule (i ∷ []))) in
            (v.0, v.1, v.2 ∙ ap (λ (z : Content). Some z) (sym at.2), no_later_trans v.0.schedule (j.parent.schedule ++ at.0 ∷ []) (c.schedule ++ i ∷ []) v.3 (inr shorter))

    -- So has each flash that cuts leave from the flash of a case.
    reach : (l : List ℕ) (c : Case) → Contains cases c → (length c.schedule + length l ≤ bound) ⊎ IsWhole → (u : Content) → after x c.schedule ≡ Some u
        → Allowed boots (again x u) l → (w : Case) × Contains cases w × (after x w.schedule ≡ Some (landed boots (again x u) l).content) × IsNoLater w.schedule (c.schedule ++ l)
    reach [] c inside few u is allowed = (c, inside, is, inl (sym (append-nil c.schedule)))
    reach (i ∷ l) c inside few u is allowed =
        let v = child c inside (elim few [
          | inl le ↦ inl (omega (arith, le))
          | inr whole ↦ inr whole
        ]) u is i allowed.0 in
        let w = reach l v.0 v.1 (elim few [
          | inl le ↦ inl (omega (arith, le, no_longer v.0.schedule (c.schedule ++ i ∷ []) v.3, length-append c.schedule (i ∷ [])))
          | inr whole ↦ inr whole
        ]) (at_cut (again x u) i) v.2 allowed.1 in
        let on : IsNoLater (v.0.schedule ++ l) ((c.schedule ++ i ∷ []) ++ l) = no_later_on v.0.schedule (c.schedule ++ i ∷ []) l v.3 in
        let regroup : (c.schedule ++ i ∷ []) ++ l ≡ c.schedule ++ i ∷ l = simp append_assoc in
        (w.0, w.1, w.2, no_later_trans w.0.schedule (v.0.schedule ++ l) (c.schedule ++ i ∷ l) w.3 (subst (IsNoLater (v.0.schedule ++ l)) regroup on))

    from_root : (l : List ℕ) (u : Content) → (length l ≤ bound) ⊎ IsWhole → after x l ≡ Some u → (c : Case) × Contains cases c × (after x c.schedule ≡ Some u) × IsNoLater c.schedule l
    from_root l u few is =
        let r = s.root in
        let allowed = occurs_allowed x l (ap is_some is) in
        let begins : after x r.0.schedule ≡ Some x.content = ap (after x) r.2 in
        let w = reach l r.0 r.1 (elim few [
          | inl le ↦ inl (omega (arith, le, ap (λ (k : List ℕ). length k) r.2))
          | inr whole ↦ inr whole
        ]) x.content begins allowed in
        let same : Some (landed boots x l).content ≡ Some u = sym (allowed_after x l allowed) ∙ is in
        (w.0, w.1, w.2 ∙ same, subst (λ (k : List ℕ). IsNoLater w.0.schedule (k ++ l)) r.2 w.3)

  pub are_cases : AreCases x (AtMost bound) cases
  are_cases = record { each = s.each; sorted = s.sorted; distinct = s.distinct; all = λ safe l u few is. from_root safe l u (inl few) is }

  pub are_all : IsWhole → AreCases x AnyCuts cases
  are_all whole = grind (arith, from_root)
