-- A walk that visits the flashes at the cuts of a boot.
use Rattle.std.specs.Prelude.{Contains, Err, IfOk, Ok, Result, Some, is_some, true}
use Rattle.std.proofs.{Common.{List, [], ap, arith, length, length-append, subst, sym, ℕ, ◌++◌, ◌+◌, ◌<◌, ◌∙◌, ◌∷◌, ◌≡◌, ◌≢◌}, lemmas.List.{same_from_push}}
use Rattle.mc_boot.specs.{Outcome.{after, left_by, ops_of, outcome_of, shown}, Plan.{PowerOn, again}, SharedTail.{index_in_parent}}
use Rattle.mc_explore.specs.{facts.Occurring.{allowed_after, occurs_allowed}, facts.Tails.{placed_at}}
use Rattle.mc_explore.specs.{inner.OneRound.{GoesOnIn, begun_of, one_round, one_round_is, round_model}, declared.one_round.OneRound.{OneRound}}
use Rattle.mc_explore.specs.Boots.{at_cut, boots}
use Rattle.mc_explore.specs.declared.one_round.Summary.{Summary}
use Rattle.mc_flash.specs.Flash.{Content}
use Rattle.mc_tree.specs.{facts.Order.{allowed-last, landed-push}}
use Rattle.mc_walk.specs.Walks.{IsThere, Walked}
use Rattle.mc_vectors.specs.{Cases.{IsCase, flash_digest}, declared.case.Case.{Case}}
use Rattle.mc_vectors.specs.inner.Searching.{GoesOnAt, IsAt, IsCaseHere, IsExpanding, IsJoined, IsOwnCase}
use Rattle.mc_vectors.proofs.{Covered.{lands}, Extended.{IsNext, fresh, known, p_inside}}

-- The last cut of a schedule, of the boot from what the others leave.
pub pushed : (x : PowerOn) (l : List ℕ) (u z : Content) (i : ℕ) → after x l ≡ Some u → after x (l ++ i ∷ []) ≡ Some z → (i < length (ops_of (again x u))) × (z ≡ at_cut (again x u) i)
pushed x l u z i is one =
    let here = lands x l u is in
    let some = allowed-last boots x l i (occurs_allowed x (l ++ i ∷ []) (ap is_some one)) in (
      subst (λ (y : PowerOn). i < length (ops_of y)) here some,
      ap (λ (y : PowerOn). y.content) (sym (lands x (l ++ i ∷ []) z one) ∙ landed-push boots x l i ∙ ap (λ (y : PowerOn). boots.child y i) here),
    )

-- What a walk stands at.
module _ (x : PowerOn) (path : List ℕ) (w : Walked OneRound) (at : IsAt x path w) (summary : Summary) (here : IsThere (one_round (begun_of w)) w summary) where
  there : IsThere (round_model (begun_of w)) w summary
  there = rw (one_round_is (begun_of w)) at here

  pub stands_at : after x w.path ≡ Some w.seen.content
  stands_at = grind (arith, allowed_after, there, rw (one_round_is (begun_of w)) at at.listed)

  pub ends_with : outcome_of (again x w.seen.content) ≡ Some (shown summary.outcome)
  ends_with = grind (arith, there)

  pub geometry_is : w.seen.geometry ≡ x.geometry
  geometry_is = there.layout_is ∙ ap (λ (y : PowerOn). y.geometry) at.begun_is

-- At a cut of the boot from a case that is gone through.
module _ (x : PowerOn) (bound : ℕ) (cases : List Case) (index number : ℕ) (p : Case) (e : IsExpanding x bound cases index number p) (l : List ℕ) (z : Content)
    (path : l ≡ p.schedule ++ number ∷ []) (is : after x l ≡ Some z) where
  one_more : after x (p.schedule ++ number ∷ []) ≡ Some z
  one_more = subst (λ (k : List ℕ). after x k ≡ Some z) path is

  pub next_is : (digest : List ℕ) → digest ≡ flash_digest x.geometry z → IsNext x bound cases index number p e digest
  next_is digest of u at = of ∙ ap (flash_digest x.geometry) (pushed x p.schedule u z number at one_more).1

  -- Its boot goes on with that one.
  module _ (w : Walked OneRound) (here : w.path ≡ l) (goes : GoesOnAt x w) where
    pub parent : IsCase x p
    parent = (e.search.each p (p_inside x bound cases index number p e)).0

    same : (goes.0 ≡ p.schedule) × (goes.1 ≡ number)
    same = same_from_push goes.0 p.schedule goes.1 number (sym goes.3 ∙ here ∙ path)

    goes_on : (s : Content) → after x p.schedule ≡ Some s → GoesOnIn (again x s) number goes.2
    goes_on s at = subst (λ n. GoesOnIn (again x s) n goes.2) same.1 (goes.4 s (ap (after x) same.0 ∙ at))

    cut_is : z ≡ at_cut (again x parent.flash) number
    cut_is = (pushed x p.schedule parent.flash z number parent.leaves one_more).1

    pub left_is : left_by (again x z) ≡ Some parent.left
    left_is = ap (λ (s : Content). left_by (again x s)) cut_is ∙ (goes_on parent.flash parent.leaves).left ∙ parent.left_is

    pub joined : (n : Case) → n.schedule ≡ l → IsJoined x cases n
    joined n at = record {
      parent = p;
      inside = p_inside x bound cases index number p e;
      goes_its_way = e.goes_its_way;
      shorter = omega (arith, ap (λ (k : List ℕ). length k) (at ∙ path), length-append p.schedule (number ∷ []));
      within = λ u s leaves from i some.
          let cut = (pushed x p.schedule s u number from (subst (λ (k : List ℕ). after x k ≡ Some u) (at ∙ path) leaves)).1 in
          let on = goes_on s from in
          let few = subst (λ (v : Content). i < length (ops_of (again x v))) cut some in (
            index_in_parent goes.2 i,
            on.within i few,
            ap (λ (v : Content). at_cut (again x v) i) cut ∙ ap (λ (y : PowerOn). y.content) (placed_at (again x s) (at_cut (again x s) number) goes.2 on i few),
          );
    }

    pub joined_case : (n : Case) → n.schedule ≡ l → n.digest ≡ flash_digest x.geometry z → outcome_of (again x z) ≡ Some (shown n.outcome) → n.left ≡ p.left → IsCase x n
    joined_case n at digest outcome left = grind (arith, left_is)

  -- The walk was there.
  pub known_here : (digest : List ℕ) → digest ≡ flash_digest x.geometry z → (v : Case) → Contains cases v → v.digest ≡ digest → IsExpanding x bound cases index (number + 1) p
  known_here digest of v inside same = known x bound cases index number p e v inside (next_is v.digest (same ∙ of))

  -- Or it was not.
  pub fresh_here : (n : Case) → IsCase x n → n.schedule ≡ l → n.digest ≡ flash_digest x.geometry z → (n.joins ≡ true → IsJoined x cases n) → ((c : Case) → Contains cases c → c.digest ≢ n.digest)
      → IsExpanding x bound (cases ++ n ∷ []) index (number + 1) p
  fresh_here n case at of joins new = fresh x bound cases index number p e n case (at ∙ path) (next_is n.digest of) new joins

-- A case that goes its own way is one of the flash where the walk stands.
pub own_here : {E : Type 0} (x : PowerOn) (w : Walked OneRound) (p : Case) (l digest : List ℕ) → l ≡ w.path → after x w.path ≡ Some w.seen.content → (r : Result Case E)
    → IfOk r (IsOwnCase x l digest) → IfOk r (IsCaseHere x w p digest)
own_here x w p l digest same is (Err e) own = tt
own_here x w p l digest same is (Ok c) own = grind arith
