-- A search with one case more, and with one more of them done.
use Rattle.std.specs.{BTreeSet.{BTreeSet, Updates, contains}, Cmp.Lexicographic.{slice_cmp}, Ordering.{nat_cmp}}
use Rattle.std.specs.Prelude.{All, AllPairs, Bool, Contains, bytes_eq, cond, false, get_or, not, take, true}
use Rattle.std.proofs.Common.{List, [], ap, arith, inl, inr, length, length-append, refl, subst, sym, true≢false, ℕ, ◌++◌, ◌+◌, ◌<◌, ◌∙◌, ◌∷◌, ◌≡◌, ◌≢◌, ◌≤◌}
use Rattle.std.proofs.{lemmas.Bool.{cases_lt}, lemmas.List.{get_or_append_left, get_or_default, take-append-le}, lemmas.Map.Text.{is_eq-slice_cmp}, lemmas.Slice.Eq.{bytes_eq-Decides}}
use Rattle.std.proofs.lemmas.List.Elements.{All-more, All-weaker, Contains-append_left, Contains-get_or, Contains-push, Contains-push_cases}
use Rattle.std.proofs.lemmas.List.Quantifiers.{all_pairs_push}
use Rattle.mc_flash.specs.Flash.{Content}
use Rattle.mc_tree.specs.facts.Lists.{no_element}
use Rattle.mc_vectors.specs.{Cases.{ComesBefore, flash_digest}, inner.Searches.{AreKnown, HasFound, IsBelow, IsDone, IsExpanding, IsFound, IsSearch, Searched}}
use Rattle.mc_vectors.proofs.Orders.{before_on, before_trans, number_before}

module _ {C : Type 0} (digest : C → List ℕ) where
  -- ---- the digests of the cases, as a set that grows

  -- None is known where there is no case.
  pub known_none : (known : BTreeSet (List ℕ)) → known.keys ≡ [] → AreKnown digest known []
  known_none known none d = (
    λ is. absurd (true≢false (sym is ∙ ap (λ (keys : List (List ℕ)). contains (slice_cmp nat_cmp) (record { keys = keys }) d) none)),
    λ is c inside. absurd (no_element c inside),
  )

  -- One more, with its case.
  pub known_put : (old new : BTreeSet (List ℕ)) (cases : List C) (n : C) → Updates (slice_cmp nat_cmp) old new (digest n) true → AreKnown digest old cases
      → AreKnown digest new (cases ++ n ∷ [])
  known_put old new cases n put known d = by (bytes_eq (digest n) d) refl
    where
      after : contains (slice_cmp nat_cmp) new d ≡ cond (bytes_eq (digest n) d) true (contains (slice_cmp nat_cmp) old d)
      after = put.0 d ∙ ap (λ b. cond b true (contains (slice_cmp nat_cmp) old d)) (is_eq-slice_cmp (digest n) d)

      by : (b : Bool) → bytes_eq (digest n) d ≡ b
          → (contains (slice_cmp nat_cmp) new d ≡ true → (c : C) × Contains (cases ++ n ∷ []) c × (digest c ≡ d))
          × (contains (slice_cmp nat_cmp) new d ≡ false → (c : C) → Contains (cases ++ n ∷ []) c → digest c ≢ d)
      by true same = (
        λ is. (n, Contains-push cases n, (bytes_eq-Decides (digest n) d).0 same),
        λ is. absurd (true≢false (sym (after ∙ ap (λ b. cond b true (contains (slice_cmp nat_cmp) old d)) same) ∙ is)),
      )
      by false other =
          let kept : contains (slice_cmp nat_cmp) new d ≡ contains (slice_cmp nat_cmp) old d = after ∙ ap (λ b. cond b true (contains (slice_cmp nat_cmp) old d)) other in (
            λ is. let c = (known d).0 (sym kept ∙ is) in (c.0, Contains-append_left cases (n ∷ []) c.0 c.1, c.2),
            λ is c inside. elim (Contains-push_cases cases n c inside) [
              | inl i ↦ (known d).1 (sym kept ∙ is) c i
              | inr e ↦ λ at. absurd (true≢false (sym ((bytes_eq-Decides (digest n) d).1 (ap digest e ∙ at)) ∙ other))
            ],
          )

  -- The same keys serve.
  pub known_kept : (old new : BTreeSet (List ℕ)) (cases : List C) → new.keys ≡ old.keys → AreKnown digest old cases → AreKnown digest new cases
  known_kept old new cases same known = subst (λ (keys : List (List ℕ)). AreKnown digest (record { keys = keys }) cases) (sym same) known

  -- A digest that is put anew, or again.
  pub was_known : (known : BTreeSet (List ℕ)) (cases : List C) (d : List ℕ) → AreKnown digest known cases → (added : Bool) → added ≡ not (contains (slice_cmp nat_cmp) known d)
      → added ≡ false → (c : C) × Contains cases c × (digest c ≡ d)
  was_known known cases d are added is none = by (contains (slice_cmp nat_cmp) known d) refl
    where
      by : (b : Bool) → contains (slice_cmp nat_cmp) known d ≡ b → (c : C) × Contains cases c × (digest c ≡ d)
      by true at = (are d).0 at
      by false at = absurd (true≢false (sym (is ∙ ap (λ b. not b) at) ∙ none))

  pub was_new : (known : BTreeSet (List ℕ)) (cases : List C) (d : List ℕ) → AreKnown digest known cases → (added : Bool) → added ≡ not (contains (slice_cmp nat_cmp) known d)
      → added ≡ true → (c : C) → Contains cases c → digest c ≢ d
  was_new known cases d are added is some = by (contains (slice_cmp nat_cmp) known d) refl
    where
      by : (b : Bool) → contains (slice_cmp nat_cmp) known d ≡ b → (c : C) → Contains cases c → digest c ≢ d
      by true at c inside = absurd (true≢false (sym some ∙ is ∙ ap (λ b. not b) at))
      by false at c inside = (are d).1 at c inside

module _ (s : Searched) where
  -- ---- what was found stays found where there are more cases

  module _ (cases : List s.Case) (n : s.Case) where
    abbrev more : List s.Case
    more = cases ++ n ∷ []

    has_more : (c : s.Case) (count : ℕ) → HasFound s cases c count → HasFound s more c count
    has_more c count has i u lt leaves = let v = has i u lt leaves in (v.0, Contains-append_left cases (n ∷ []) v.0 v.1, v.2, v.3)

    done_more : (c : s.Case) → IsDone s cases c → IsDone s more c
    done_more c done asked count = has_more c count (done asked count)

  -- ---- one step of a case

  module _ (cases : List s.Case) (index number : ℕ) (p : s.Case) (e : IsExpanding s cases index number p) where
    below_next : (c : s.Case) → Contains cases c → ComesBefore (s.path c) (s.path p ++ (number + 1) ∷ [])
    below_next c inside =
        before_trans (s.path c) (s.path p ++ number ∷ []) (s.path p ++ (number + 1) ∷ []) (e.below c inside) (number_before (s.path p) number (number + 1) (omega arith))

    found_next : (all : List s.Case) → HasFound s all p number → ((u : Content) → s.Leaves p number u → IsFound s all (s.path p ++ number ∷ []) u) → HasFound s all p (number + 1)
    found_next all has next i u lt leaves = elim (cases_lt i number) [
      | inl below ↦ has i u below leaves
      | inr le ↦
          let same : i ≡ number = omega (arith, lt, le) in
          subst (λ k. s.Leaves p k u → IsFound s all (s.path p ++ k ∷ []) u) (sym same) (next u) leaves
    ]

    -- It leaves no flash.
    pub none_left : ((u : Content) → s.Leaves p number u → ⊥) → IsExpanding s cases index (number + 1) p
    none_left none = record {
      search = e.search;
      inside = e.inside;
      here = e.here;
      asked = e.asked;
      below = below_next;
      found = found_next cases e.found (λ u leaves. absurd (none u leaves));
    }

    -- All flashes that it leaves have this digest.
    abbrev pub IsNext : List ℕ → Type 0
    IsNext digest = (u : Content) → s.Leaves p number u → digest ≡ flash_digest s.geometry u

    -- That was met before.
    pub known : (v : s.Case) → Contains cases v → IsNext (s.digest v) → IsExpanding s cases index (number + 1) p
    known v inside is = record {
      search = e.search;
      inside = e.inside;
      here = e.here;
      asked = e.asked;
      below = below_next;
      found = found_next cases e.found (λ u leaves. (v, inside, is u leaves, inr (e.below v inside)));
    }

    -- It is a new one.
    module _ (n : s.Case) (good : s.IsGood n) (path : s.path n ≡ s.path p ++ number ∷ []) (is : IsNext (s.digest n)) (new : (c : s.Case) → Contains cases c → s.digest c ≢ s.digest n) where
      abbrev all : List s.Case
      all = cases ++ n ∷ []

      old_or_new : (P : s.Case → Type 0) → ((c : s.Case) → Contains cases c → P c) → P n → (c : s.Case) → Contains all c → P c
      old_or_new P old last c inside = elim (Contains-push_cases cases n c inside) [
        | inl i ↦ old c i
        | inr same ↦ subst P same last
      ]

      take_same : take index all ≡ take index cases
      take_same = take-append-le index cases (n ∷ []) (omega (arith, e.inside))

      search : IsSearch s all index
      search =
          let old = e.search in
          record {
            each = old_or_new s.IsGood old.each good;
            sorted = all_pairs_push (λ c d. ComesBefore (s.path c) (s.path d)) cases n old.sorted (λ k d lt.
                subst (ComesBefore (s.path (get_or cases k d))) (sym path) (e.below (get_or cases k d) (Contains-get_or cases k d lt)));
            distinct = all_pairs_push (λ c d. s.digest c ≢ s.digest d) cases n old.distinct (λ k d lt. new (get_or cases k d) (Contains-get_or cases k d lt));
            root = (old.root.0, Contains-append_left cases (n ∷ []) old.root.0 old.root.1, old.root.2);
            done = subst (All (IsDone s all)) (sym take_same) (All-weaker (IsDone s cases) (IsDone s all) (done_more cases n) (take index cases) old.done);
          }

      pub fresh : IsExpanding s all index (number + 1) p
      fresh = record {
        search = search;
        inside = omega (arith, e.inside, length-append cases (n ∷ []));
        here = e.here ∙ sym (get_or_append_left cases (n ∷ []) p index e.inside);
        asked = e.asked;
        below = old_or_new (λ c. ComesBefore (s.path c) (s.path p ++ (number + 1) ∷ [])) below_next
            (subst (λ (l : List ℕ). ComesBefore l (s.path p ++ (number + 1) ∷ [])) (sym path) (number_before (s.path p) number (number + 1) (omega arith)));
        found = found_next all (has_more cases n p number e.found) (λ u leaves. (n, Contains-push cases n, is u leaves, inl path));
      }

  -- ---- one case

  module _ (cases : List s.Case) (index : ℕ) (p : s.Case) (inside : index < length cases) (here : p ≡ get_or cases index p) where
    -- It is begun with.
    pub begin : IsSearch s cases index → IsBelow s cases index → s.IsAsked p → IsExpanding s cases index 0 p
    begin search below asked = record {
      search = search;
      inside = inside;
      here = here;
      asked = asked;
      below = λ c there. below.before p c inside here there;
      found = λ i u lt leaves. absurd (omega (arith, lt));
    }

    one_done : IsSearch s cases index → IsDone s cases p → IsSearch s cases (index + 1)
    one_done search done = record {
      each = search.each;
      sorted = search.sorted;
      distinct = search.distinct;
      root = search.root;
      done = All-more (IsDone s cases) cases index p inside search.done (subst (IsDone s cases) here done);
    }

    below_one : (number : ℕ) → AllPairs (λ c d. ComesBefore (s.path c) (s.path d)) cases
        → ((c : s.Case) → Contains cases c → ComesBefore (s.path c) (s.path p ++ number ∷ [])) → IsBelow s cases (index + 1)
    below_one number sorted below = record {
      before = λ q c within is there.
          let first : get_or cases index q ≡ p = get_or_default cases index q p inside ∙ sym here in
          let later : ComesBefore (s.path p) (s.path q) =
          subst (λ (d : s.Case). ComesBefore (s.path d) (s.path q)) first (subst (λ (d : s.Case). ComesBefore (s.path (get_or cases index q)) (s.path d)) (sym is)
          (sorted index (index + 1) q (omega arith) within)) in
          before_trans (s.path c) (s.path p ++ number ∷ []) (s.path q ++ 0 ∷ []) (below c there) (before_on (s.path p) (s.path q) (number ∷ []) (0 ∷ []) refl later);
    }

    -- It is passed over, or done.
    pub passed : IsSearch s cases index → IsBelow s cases index → (s.IsAsked p → ⊥) → IsSearch s cases (index + 1) × IsBelow s cases (index + 1)
    passed search below over = (one_done search (λ asked. absurd (over asked)), below_one 0 search.sorted (λ c there. below.before p c inside here there))

    pub finished : (number : ℕ) → IsExpanding s cases index number p → ((i : ℕ) (u : Content) → s.Leaves p i u → i < number)
        → IsSearch s cases (index + 1) × IsBelow s cases (index + 1)
    finished number e end = (one_done e.search (λ asked count i u lt leaves. e.found i u (end i u leaves) leaves), below_one number e.search.sorted e.below)

  -- The case of the start is the first.
  pub first : (n : s.Case) → s.IsGood n → s.path n ≡ [] → IsSearch s (n ∷ []) 0 × IsBelow s (n ∷ []) 0
  first n good none = (
    record {
      each = λ c inside. subst s.IsGood (only c inside) good;
      sorted = λ i j d lt within. absurd (omega (arith, lt, within));
      distinct = λ i j d lt within. absurd (omega (arith, lt, within));
      root = (n, Contains-push [] n, none);
      done = λ k d lt. absurd (omega (arith, lt));
    },
    record {
      before = λ p c within here inside.
          inl (omega (arith, ap (λ (m : s.Case). length (s.path m)) (only c inside), ap (λ (l : List ℕ). length l) none, length-append (s.path p) (0 ∷ [])));
    },
  )
    where
      only : (c : s.Case) → Contains (n ∷ []) c → n ≡ c
      only c inside = elim (Contains-push_cases [] n c inside) [
        | inl i ↦ absurd (omega (arith, i.1))
        | inr same ↦ same
      ]
