-- The cases with one more, and one more of them done.
use Rattle.std.specs.Prelude.{All, AllPairs, Contains, Some, get_or, take, false, true}
use Rattle.std.proofs.Common.{List, [], ap, arith, inl, inr, length, length-append, refl, subst, sym, true≢false, ℕ, ◌++◌, ◌+◌, ◌<◌, ◌∙◌, ◌∷◌, ◌≡◌, ◌≢◌, ◌≤◌, ◌⊎◌}
use Rattle.std.proofs.{lemmas.Bool.{cases_lt}, lemmas.List.{get_or_append_left, get_or_default, take-append-le}}
use Rattle.std.proofs.lemmas.List.Elements.{All-more, All-weaker, Contains-append_left, Contains-get_or, Contains-push, Contains-push_cases}
use Rattle.std.proofs.lemmas.List.Quantifiers.{all_pairs_push}
use Rattle.mc_boot.specs.{Outcome.{after, ops_of}, Plan.{PowerOn, again}}
use Rattle.mc_explore.specs.Boots.{at_cut}
use Rattle.mc_flash.specs.Flash.{Content}
use Rattle.mc_vectors.specs.{Cases.{ComesBefore, IsCase, flash_digest}, declared.case.Case.{Case}}
use Rattle.mc_vectors.specs.inner.Searching.{HasFound, IsBelow, IsDone, IsExpanding, IsFound, IsJoined, IsSearch}
use Rattle.mc_vectors.proofs.Orders.{before_on, before_trans, number_before}

-- What was found stays found where there are more cases.
module _ (x : PowerOn) (cases : List Case) (n : Case) where
  abbrev more : List Case
  more = cases ++ n ∷ []

  found_more : (l : List ℕ) (u : Content) → IsFound x cases l u → IsFound x more l u
  found_more l u v = (v.0, Contains-append_left cases (n ∷ []) v.0 v.1, v.2, v.3)

  has_more : (c : Case) (count : ℕ) → HasFound x cases c count → HasFound x more c count
  has_more c count has u is i lt some = found_more (c.schedule ++ i ∷ []) (at_cut (again x u) i) (has u is i lt some)

  done_more : (bound : ℕ) (c : Case) → IsDone x cases bound c → IsDone x more bound c
  done_more bound c done few own count = has_more c count (done few own count)

  joined_more : (c : Case) → IsJoined x cases c → IsJoined x more c
  joined_more c j = record { parent = j.parent; inside = Contains-append_left cases (n ∷ []) j.parent j.inside; goes_its_way = j.goes_its_way; shorter = j.shorter; within = j.within }

module _ (x : PowerOn) (bound : ℕ) (cases : List Case) (index number : ℕ) (p : Case) (e : IsExpanding x bound cases index number p) where
  pub p_inside : Contains cases p
  p_inside = subst (Contains cases) (sym e.here) (Contains-get_or cases index p e.inside)

  below_next : (c : Case) → Contains cases c → ComesBefore c.schedule (p.schedule ++ (number + 1) ∷ [])
  below_next c inside = before_trans c.schedule (p.schedule ++ number ∷ []) (p.schedule ++ (number + 1) ∷ []) (e.below c inside) (number_before p.schedule number (number + 1) (omega arith))

  -- That the flash at the next cut has this digest.
  abbrev pub IsNext : List ℕ → Type 0
  IsNext digest = (u : Content) → after x p.schedule ≡ Some u → digest ≡ flash_digest x.geometry (at_cut (again x u) number)

  found_next : (all : List Case) → HasFound x all p number
      → ((u : Content) → after x p.schedule ≡ Some u → IsFound x all (p.schedule ++ number ∷ []) (at_cut (again x u) number)) → HasFound x all p (number + 1)
  found_next all has next u is i lt some = elim (cases_lt i number) [
    | inl below ↦ has u is i below some
    | inr le ↦ let same : number ≡ i = omega (arith, lt, le) in subst (λ k. IsFound x all (p.schedule ++ k ∷ []) (at_cut (again x u) k)) same (next u is)
  ]

  -- It is a flash that was met before.
  pub known : (v : Case) → Contains cases v → IsNext v.digest → IsExpanding x bound cases index (number + 1) p
  known v inside is = grind (arith, below_next, found_next)

  -- It is a new one.
  module _ (n : Case) (case : IsCase x n) (path : n.schedule ≡ p.schedule ++ number ∷ []) (is : IsNext n.digest) (new : (c : Case) → Contains cases c → c.digest ≢ n.digest)
      (joined : n.joins ≡ true → IsJoined x cases n) where
    abbrev all : List Case
    all = cases ++ n ∷ []

    old_or_new : (P : Case → Type 0) → ((c : Case) → Contains cases c → P c) → P n → (c : Case) → Contains all c → P c
    old_or_new P old last c inside = elim (Contains-push_cases cases n c inside) [
      | inl i ↦ old c i
      | inr same ↦ subst P same last
    ]

    take_same : take index all ≡ take index cases
    take_same = take-append-le index cases (n ∷ []) (omega (arith, e.inside))

    search : IsSearch x bound all index
    search =
        let s = e.search in
        let few : length n.schedule ≤ bound = omega (arith, ap (λ (l : List ℕ). length l) path, length-append p.schedule (number ∷ []), e.deep) in
        record {
          each = old_or_new (λ c. IsCase x c × (length c.schedule ≤ bound)) s.each (case, few);
          sorted = all_pairs_push (λ c d. ComesBefore c.schedule d.schedule) cases n s.sorted (λ k d lt.
              subst (ComesBefore (get_or cases k d).schedule) (sym path) (e.below (get_or cases k d) (Contains-get_or cases k d lt)));
          distinct = all_pairs_push (λ c d. c.digest ≢ d.digest) cases n s.distinct (λ k d lt. new (get_or cases k d) (Contains-get_or cases k d lt));
          root = (s.root.0, Contains-append_left cases (n ∷ []) s.root.0 s.root.1, s.root.2);
          joined = old_or_new (λ c. c.joins ≡ true → IsJoined x all c) (λ c i b. joined_more x cases n c (s.joined c i b)) (λ b. joined_more x cases n n (joined b));
          done = subst (All (IsDone x all bound)) (sym take_same) (All-weaker (IsDone x cases bound) (IsDone x all bound) (done_more x cases n bound) (take index cases) s.done);
        }

    pub fresh : IsExpanding x bound all index (number + 1) p
    fresh = record {
      search = search;
      inside = omega (arith, e.inside, length-append cases (n ∷ []));
      here = e.here ∙ sym (get_or_append_left cases (n ∷ []) p index e.inside);
      goes_its_way = e.goes_its_way;
      deep = e.deep;
      below = old_or_new (λ c. ComesBefore c.schedule (p.schedule ++ (number + 1) ∷ [])) below_next
          (subst (λ (l : List ℕ). ComesBefore l (p.schedule ++ (number + 1) ∷ [])) (sym path) (number_before p.schedule number (number + 1) (omega arith)));
      found = found_next all (has_more x cases n p number e.found) (λ u at. (n, Contains-push cases n, is u at, inl path));
    }

module _ (x : PowerOn) (bound : ℕ) (cases : List Case) (index : ℕ) (p : Case) (inside : index < length cases) (here : p ≡ get_or cases index p) where
  -- A case is begun with.
  pub begin : IsSearch x bound cases index → IsBelow cases index → p.joins ≡ false → length p.schedule < bound → IsExpanding x bound cases index 0 p
  begin s below own few = grind arith

  one_done : IsSearch x bound cases index → IsDone x cases bound p → IsSearch x bound cases (index + 1)
  one_done s done = record {
    each = s.each;
    sorted = s.sorted;
    distinct = s.distinct;
    root = s.root;
    joined = s.joined;
    done = All-more (IsDone x cases bound) cases index p inside s.done (subst (IsDone x cases bound) here done);
  }

  below_one : (number : ℕ) → AllPairs (λ c d. ComesBefore c.schedule d.schedule) cases
      → ((c : Case) → Contains cases c → ComesBefore c.schedule (p.schedule ++ number ∷ [])) → IsBelow cases (index + 1)
  below_one number sorted below = record {
    before = λ q c within is there.
        let first : get_or cases index q ≡ p = get_or_default cases index q p inside ∙ sym here in
        let later : ComesBefore p.schedule q.schedule =
        subst (λ (d : Case). ComesBefore d.schedule q.schedule) first (subst (λ (d : Case). ComesBefore (get_or cases index q).schedule d.schedule) (sym is)
        (sorted index (index + 1) q (omega arith) within)) in
        before_trans c.schedule (p.schedule ++ number ∷ []) (q.schedule ++ 0 ∷ []) (below c there) (before_on p.schedule q.schedule (number ∷ []) (0 ∷ []) refl later);
  }

  -- It is passed over, or done.
  pub passed : IsSearch x bound cases index → IsBelow cases index → (p.joins ≡ true) ⊎ (bound ≤ length p.schedule) → IsSearch x bound cases (index + 1) × IsBelow cases (index + 1)
  passed s below why = (one_done s (skip why), below_one 0 s.sorted (λ c there. below.before p c inside here there))
    where
      skip : (p.joins ≡ true) ⊎ (bound ≤ length p.schedule) → IsDone x cases bound p
      skip (inl joins) few own count = absurd cc
      skip (inr le) few own count = absurd (omega (arith, le, few))

  pub finished : (number : ℕ) → IsExpanding x bound cases index number p → ((u : Content) → after x p.schedule ≡ Some u → length (ops_of (again x u)) ≤ number)
      → IsSearch x bound cases (index + 1) × IsBelow cases (index + 1)
  finished number e end = grind (arith, one_done, below_one)

-- The case of the start is the first.
pub first : (x : PowerOn) (bound : ℕ) (n : Case) → IsCase x n → n.schedule ≡ [] → n.joins ≡ false → IsSearch x bound (n ∷ []) 0 × IsBelow (n ∷ []) 0
first x bound n case none own = (
  record {
    each = λ c inside. let is = only c inside in (subst (IsCase x) is case, omega (arith, ap (λ (m : Case). length m.schedule) is, ap (λ (l : List ℕ). length l) none));
    sorted = λ i j d lt within. absurd (omega (arith, lt, within));
    distinct = λ i j d lt within. absurd (omega (arith, lt, within));
    root = (n, Contains-push [] n, none);
    joined = λ c inside joins. absurd (true≢false (sym joins ∙ ap (λ (m : Case). m.joins) (sym (only c inside)) ∙ own));
    done = λ k d lt. absurd (omega (arith, lt));
  },
  record { before = λ p c within here inside. inl (omega (arith, ap (λ (m : Case). length m.schedule) (only c inside), ap (λ (l : List ℕ). length l) none, length-append p.schedule (0 ∷ []))) },
)
  where
    only : (c : Case) → Contains (n ∷ []) c → n ≡ c
    only c inside = elim (Contains-push_cases [] n c inside) [
      | inl i ↦ absurd (omega (arith, i.1))
      | inr same ↦ same
    ]
