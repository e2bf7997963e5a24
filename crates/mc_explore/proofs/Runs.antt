-- Runs of numbers: where each begins, and how they are added to; and of children that have the same totals, what they come to.
use Rattle.std.proofs.Common.{List, None, Option, Some, [], ap, arith, false, inl, inr, leb, length, length-append, min, option_map, refl, replicate, subst, suc, sym, take, true, zero, ℕ, ◌*◌, ◌++◌, ◌+◌, ◌-◌, ◌<◌, ◌^◌, ◌∙◌, ◌∷◌, ◌≡◌, ◌≤◌, ◌⊎◌}
use Rattle.std.proofs.{lemmas.Bool.{cases_lt, leb-true, leb-false}, lemmas.List.Sorted.{IsPartitionedBy-leb}}
use Rattle.std.proofs.lemmas.Option.{same_Some}
use Rattle.std.specs.{List.Sorted.{IsNonDecreasingBy, IsPartitionedBy, IsPartitionPoint}, List.{slice_get, slice_index_or}, Option.{option_or}}
use Rattle.mc_boot.specs.{Outcome.{shown}, SharedTail.{index_in_parent}, declared.outcome.Outcome.{Outcome}, declared.shared_tail.SharedTail.{SharedTail}}
use Rattle.mc_explore.proofs.Counting.{Census, each_more, same_numbers}
use Rattle.mc_explore.specs.{Census.{cut_number}, declared.run.Run.{Run}, declared.table.Child.{Child}, facts.Totals.{same_totals as all_same, totals_weigh}}
use Rattle.mc_explore.specs.inner.{Runs.{AreOf, Begins, IsIn, IsSplit, begin_of}, Table.{AreAlike, AreCutOff, AreRuns, AreSums, IsChild, IsJoined, IsLevel, rest_from}}
use Rattle.mc_explore.specs.inner.Totals.{Totals, merged, cut_off, no_totals, report_totals, totals}
use Rattle.mc_tree.specs.{facts.Weighed.{from_alike, from_parts}, inner.Weights.{from, shared_below}}

-- Where runs begin.

begin_end : {T : Type 0} (runs : List (Run T)) (n : ℕ) → begin_of runs n (length runs) ≡ n
begin_end [] n = refl
begin_end (run ∷ runs) n = begin_end runs n

-- Of a run it does not matter how many numbers there are.
begin_same : {T : Type 0} (runs : List (Run T)) (n m r : ℕ) → r < length runs → begin_of runs n r ≡ begin_of runs m r
begin_same [] n m r lt = absurd (omega (arith, lt))
begin_same (run ∷ runs) n m zero lt = refl
begin_same (run ∷ runs) n m (suc r) lt = begin_same runs n m r (omega (arith, lt))

-- One run more.
begin_more : {T : Type 0} (runs : List (Run T)) (run : Run T) (n r : ℕ) → r ≤ length runs → begin_of (runs ++ run ∷ []) n r ≡ begin_of runs run.first r
begin_more [] run n zero le = refl
begin_more [] run n (suc r) le = absurd (omega (arith, le))
begin_more (x ∷ runs) run n zero le = refl
begin_more (x ∷ runs) run n (suc r) le = begin_more runs run n r (omega (arith, le))

-- It is what the list says.
pub begin_is : {T : Type 0} (runs : List (Run T)) (n r : ℕ) (run : Run T) → slice_get runs r ≡ Some run → begin_of runs n r ≡ run.first
begin_is [] n r run is = absurd cc
begin_is (x ∷ runs) n zero run is = cc
begin_is (x ∷ runs) n (suc r) run is = begin_is runs n r run is

pub begin_past : {T : Type 0} (runs : List (Run T)) (n r : ℕ) → length runs ≤ r → begin_of runs n r ≡ n
begin_past [] n r past = refl
begin_past (x ∷ runs) n zero past = absurd (omega (arith, past))
begin_past (x ∷ runs) n (suc r) past = begin_past runs n r (omega (arith, past))

-- The first numbers of the runs.

some_run : {T : Type 0} (runs : List (Run T)) → 1 ≤ length runs → Run T
some_run [] some = absurd (omega (arith, some))
some_run (run ∷ runs) some = run

pub first_is : {T : Type 0} (runs : List (Run T)) (n r : ℕ) (d : Run T) → r < length runs → (slice_index_or runs r d).first ≡ begin_of runs n r
first_is [] n r d lt = absurd (omega (arith, lt))
first_is (run ∷ runs) n zero d lt = refl
first_is (run ∷ runs) n (suc r) d lt = first_is runs n r d (omega (arith, lt))

-- A run that is there.
pub run_at : {T : Type 0} (runs : List (Run T)) (r : ℕ) → r < length runs → (run : Run T) × (slice_get runs r ≡ Some run)
run_at [] r lt = absurd (omega (arith, lt))
run_at (run ∷ runs) zero lt = (run, refl)
run_at (run ∷ runs) (suc r) lt = run_at runs r (omega (arith, lt))

within_there : {T : Type 0} (runs : List (Run T)) (r : ℕ) (run : Run T) → slice_get runs r ≡ Some run → r < length runs
within_there [] r run is = absurd cc
within_there (x ∷ runs) zero run is = omega arith
within_there (x ∷ runs) (suc r) run is = omega (arith, within_there runs r run is)

module _ {T : Type 0} (runs : List (Run T)) (n : ℕ) (split : IsSplit runs n) where
  -- They rise.
  rises : (k r : ℕ) → r + k ≤ length runs → begin_of runs n r ≤ begin_of runs n (r + k)
  rises zero r le = let e : r + 0 ≡ r = omega arith in subst (λ s. begin_of runs n r ≤ begin_of runs n s) (sym e) (omega arith)
  rises (suc k) r le =
      let before = rises k r (omega (arith, le)) in
      let last = split.rising (r + k) (omega (arith, le)) in
      let e : r + suc k ≡ suc (r + k) = omega arith in
      subst (λ s. begin_of runs n r ≤ begin_of runs n s) (sym e) (omega (arith, before, last))

  pub begin_at_most : (r s : ℕ) → r ≤ s → s ≤ length runs → begin_of runs n r ≤ begin_of runs n s
  begin_at_most r s le within =
      let e : r + (s - r) ≡ s = omega (arith, le) in
      subst (λ t. begin_of runs n r ≤ begin_of runs n t) e (rises (s - r) r (omega (arith, le, within)))

  pub begin_within : (r : ℕ) → r ≤ length runs → begin_of runs n r ≤ n
  begin_within r le = subst (λ m. begin_of runs n r ≤ m) (begin_end runs n) (begin_at_most r (length runs) le (omega arith))

  ascend : IsNonDecreasingBy (λ (run : Run T). run.first) runs
  ascend i j d le lt =
      let a = first_is runs n i d (omega (arith, le, lt)) in
      let b = first_is runs n j d lt in
      omega (arith, begin_at_most i j le (omega (arith, lt)), a, b)

  pub parted : (number : ℕ) → IsPartitionedBy (λ (run : Run T). leb run.first number) runs
  parted number = IsPartitionedBy-leb (λ (run : Run T). run.first) runs number ascend

  -- The last run that begins at a number or before.
  pub last_begun : (number after : ℕ) → 1 ≤ length runs → number ≤ n → after ≤ length runs
      → IsPartitionPoint (λ (run : Run T). leb run.first number ≡ true) (λ (run : Run T). leb run.first number ≡ false) runs after
      → Begins runs n number (after - 1)
  last_begun number zero some le within point =
      let d = some_run runs some in
      let first = first_is runs n 0 d (omega (arith, some)) in
      absurd (omega (arith, leb-false (slice_index_or runs 0 d).first number (point.1 0 d (omega arith) (omega (arith, some))), first, split.begin))
  last_begun number (suc r) some le within point =
      let d = some_run runs some in
      let here = first_is runs n r d (omega (arith, within)) in
      let begun = leb-true (slice_index_or runs r d).first number (point.0 r d (omega arith) (omega arith)) in
      let e : suc r - 1 ≡ r = omega arith in
      subst (Begins runs n number) (sym e) (record {
        some = omega (arith, within);
        first = omega (arith, here, begun);
        at_most = by (cases_lt (suc r) (length runs));
        inside = λ below. inside below (cases_lt (suc r) (length runs));
      })
    where
      -- A run after it begins later; the last one ends at the end.
      later : suc r < length runs → number < begin_of runs n (suc r)
      later lt =
          let d = some_run runs some in
          let there = first_is runs n (suc r) d lt in
          omega (arith, there, leb-false (slice_index_or runs (suc r) d).first number (point.1 (suc r) d (omega arith) lt))

      ends : length runs ≤ suc r → begin_of runs n (suc r) ≡ n
      ends past = let e : suc r ≡ length runs = omega (arith, past, within) in ap (begin_of runs n) e ∙ begin_end runs n

      by : (suc r < length runs) ⊎ (length runs ≤ suc r) → number ≤ begin_of runs n (suc r)
      by (inl lt) = omega (arith, later lt)
      by (inr past) = omega (arith, ends past, le)

      inside : number < n → (suc r < length runs) ⊎ (length runs ≤ suc r) → number < begin_of runs n (suc r)
      inside below (inl lt) = later lt
      inside below (inr past) = omega (arith, ends past, below)

  -- There is some run where there is some number.
  pub some_there : (number : ℕ) → number < n → 1 ≤ length runs
  some_there number lt = elim (cases_lt 0 (length runs)) [
    | inl some ↦ omega (arith, some)
    | inr none ↦ absurd (omega (arith, lt, split.begin, begin_past runs n 0 none))
  ]

  -- A number is in the run that is found for it.
  pub is_in : (number r : ℕ) (run : Run T) → number < n → Begins runs n number r → slice_get runs r ≡ Some run → IsIn runs n number run.of
  is_in number r run lt at is = record { run = r; first = run.first; there = is; from = at.first; below = at.inside lt }

-- One number more: in the last run, or in one of its own.
module _ {T : Type 0} (runs : List (Run T)) (number : ℕ) (split : IsSplit runs number) where
  -- Where the runs end of so many numbers, and of one more.
  same_begin : (r : ℕ) → r < length runs → begin_of runs (number + 1) r ≡ begin_of runs number r
  same_begin r lt = begin_same runs (number + 1) number r lt

  last_split : 1 ≤ length runs → IsSplit runs (number + 1)
  last_split some = record {
    begin = same_begin 0 (omega (arith, some)) ∙ split.begin;
    rising = λ r lt. by r lt (cases_lt (suc r) (length runs));
  }
    where
      by : (r : ℕ) → r < length runs → (suc r < length runs) ⊎ (length runs ≤ suc r) → begin_of runs (number + 1) r < begin_of runs (number + 1) (suc r)
      by r lt (inl next) = omega (arith, same_begin r lt, same_begin (suc r) next, split.rising r lt)
      by r lt (inr past) =
          let e : suc r ≡ length runs = omega (arith, past, lt) in
          let end = ap (begin_of runs (number + 1)) e ∙ begin_end runs (number + 1) in
          omega (arith, same_begin r lt, end, begin_within runs number split r (omega (arith, lt)))

  module _ (run : Run T) (first : run.first ≡ number) where
    abbrev more : List (Run T)
    more = runs ++ run ∷ []

    begin_before : (r : ℕ) → r ≤ length runs → begin_of more (number + 1) r ≡ begin_of runs number r
    begin_before r le = begin_more runs run (number + 1) r le ∙ ap (λ n. begin_of runs n r) first

    begin_after : begin_of more (number + 1) (suc (length runs)) ≡ number + 1
    begin_after = let e : suc (length runs) ≡ length more = omega (arith, length-append runs (run ∷ [])) in ap (begin_of more (number + 1)) e ∙ begin_end more (number + 1)

    more_split : IsSplit more (number + 1)
    more_split = record {
      begin = begin_before 0 (omega arith) ∙ split.begin;
      rising = λ r lt. by r (cases_lt r (length runs)) lt;
    }
      where
        by : (r : ℕ) → (r < length runs) ⊎ (length runs ≤ r) → r < length more → begin_of more (number + 1) r < begin_of more (number + 1) (suc r)
        by r (inl before) lt = omega (arith, begin_before r (omega (arith, before)), begin_before (suc r) (omega (arith, before)), split.rising r before)
        by r (inr past) lt =
            let e : r ≡ length runs = omega (arith, past, lt, length-append runs (run ∷ [])) in
            let here : begin_of more (number + 1) r ≡ number = ap (begin_of more (number + 1)) e ∙ begin_before (length runs) (omega arith) ∙ begin_end runs number in
            let after = ap (λ k. begin_of more (number + 1) (suc k)) e ∙ begin_after in
            omega (arith, here, after)

-- What holds of each number holds of one more.
module _ {T : Type 0} (P : ℕ → Run T → Type 0) (number : ℕ) (runs : List (Run T)) (are : AreOf P number runs) where
  -- In the last run.
  pub of_last : (run : Run T) → slice_get runs (length runs - 1) ≡ Some run → P number run → AreOf P (number + 1) runs
  of_last run last here = record {
    split = last_split runs number are.split (omega (arith, within_there runs (length runs - 1) run last));
    each = λ r i x is le below. let lt = within_there runs r x is in by r i x is lt (cases_lt (suc r) (length runs)) le below;
  }
    where
      by : (r i : ℕ) (x : Run T) → slice_get runs r ≡ Some x → r < length runs → (suc r < length runs) ⊎ (length runs ≤ suc r) → begin_of runs (number + 1) r ≤ i
          → i < begin_of runs (number + 1) (suc r) → P i x
      by r i x is lt (inl nearer) le below =
          are.each r i x is (omega (arith, same_begin runs number are.split r lt, le)) (omega (arith, same_begin runs number are.split (suc r) nearer, below))
      by r i x is lt (inr past) le below =
          let e : suc r ≡ length runs = omega (arith, past, lt) in
          let end = ap (begin_of runs (number + 1)) e ∙ begin_end runs (number + 1) in
          let old_end = ap (begin_of runs number) e ∙ begin_end runs number in
          let at : length runs - 1 ≡ r = omega (arith, e) in
          let x_is : x ≡ run = same_Some x run (sym is ∙ ap (slice_get runs) (sym at) ∙ last) in
          elim (cases_lt i number) [
            | inl before ↦ are.each r i x is (omega (arith, same_begin runs number are.split r lt, le)) (omega (arith, old_end, before))
            | inr after ↦ let i_is : number ≡ i = omega (arith, after, below, end) in subst (λ j. P j x) i_is (subst (P number) (sym x_is) here)
          ]

  -- In a run of its own.
  pub of_more : (run : Run T) → run.first ≡ number → P number run → AreOf P (number + 1) (runs ++ run ∷ [])
  of_more run first here = record {
    split = more_split runs number are.split run first;
    each = λ r i x is le below. by r i x is (cases_lt r (length runs)) le below;
  }
    where
      before : (r : ℕ) (x : Run T) → slice_get runs r ≡ Some x → (i : ℕ) → begin_of (runs ++ run ∷ []) (number + 1) r ≤ i → i < begin_of (runs ++ run ∷ []) (number + 1) (suc r) → P i x
      before r x is i le below =
          let lt = within_there runs r x is in
          are.each r i x is (omega (arith, begin_before runs number are.split run first r (omega (arith, lt)), le))
          (omega (arith, begin_before runs number are.split run first (suc r) (omega (arith, lt)), below))

      own : (i : ℕ) → begin_of (runs ++ run ∷ []) (number + 1) (length runs) ≤ i → i < begin_of (runs ++ run ∷ []) (number + 1) (suc (length runs)) → P i run
      own i le below =
          let at = begin_before runs number are.split run first (length runs) (omega arith) ∙ begin_end runs number in
          let i_is : number ≡ i = omega (arith, at, begin_after runs number are.split run first, le, below) in
          subst (λ j. P j run) i_is here

      by : (r i : ℕ) (x : Run T) → slice_get (runs ++ run ∷ []) r ≡ Some x → (r < length runs) ⊎ (length runs ≤ r) → begin_of (runs ++ run ∷ []) (number + 1) r ≤ i
          → i < begin_of (runs ++ run ∷ []) (number + 1) (suc r) → P i x
      by r i x is at le below =
          each_more (λ q (y : Run T). (j : ℕ) → begin_of (runs ++ run ∷ []) (number + 1) q ≤ j → j < begin_of (runs ++ run ∷ []) (number + 1) (suc q) → P j y) runs run before own r x is i le below

-- What runs come to.
module _ (under : ℕ → ℕ → Totals) (n most : ℕ) (none : (i : ℕ) → under 0 i ≡ no_totals) where
  -- Two children below which the same lies, or they themselves, and whose own paths end alike, have the same totals.
  pub same_totals : (first number : ℕ) (o p : Outcome) (x y : SharedTail) → report_totals (shown p) ≡ report_totals (shown o) → AreAlike first x number y
      → IsJoined under n most first o x → IsJoined under n most number p y → (d : ℕ) → under d number ≡ under d first
  same_totals first number o p x y ends alike one other zero = none number ∙ sym (none first)
  same_totals first number o p x y ends alike one other (suc d) =
      let before = same_totals first number o p x y ends alike one other d in
      let at : (i : ℕ) → (index_in_parent x i ≡ index_in_parent y i) ⊎ ((index_in_parent x i ≡ first) × (index_in_parent y i ≡ number))
      → under d (index_in_parent y i) ≡ under d (index_in_parent x i) = λ i is. elim is [
        | inl e ↦ ap (under d) (sym e)
        | inr e ↦ ap (under d) e.1 ∙ before ∙ ap (under d) (sym e.0)
      ] in
      let early = from_alike totals totals_weigh (λ i. under d (index_in_parent y i)) (λ i. under d (index_in_parent x i)) x.erases 0
      (λ i le lt. at i (alike.index i (omega (arith, lt)))) in
      let late : Totals = totals.first_lowered x.kept (from totals (under d) (n - (x.kept + x.erases)) (x.kept + x.erases)) in
      other.weighs d
      ∙ ap (λ k. merged (report_totals (shown p)) (shared_below totals (under d) n k y.erases (index_in_parent y))) (sym alike.kept)
      ∙ ap (λ k. merged (report_totals (shown p)) (shared_below totals (under d) n x.kept k (index_in_parent y))) (sym alike.erases)
      ∙ ap (λ a. merged (report_totals (shown p)) (merged a late)) early
      ∙ ap (λ a. merged a (shared_below totals (under d) n x.kept x.erases (index_in_parent x))) ends
      ∙ sym (one.weighs d)

  module _ (number : ℕ) (runs : List (Run Child)) (are : AreRuns under n most number runs) where
    abbrev IsLike : ℕ → Run Child → Type 0
    IsLike i run = (d : ℕ) → under d i ≡ under d run.first

    -- A child more that has the totals of the last run.
    pub last_more : (run : Run Child) → slice_get runs (length runs - 1) ≡ Some run → ((d : ℕ) → under d number ≡ under d run.first) → AreRuns under n most (number + 1) runs
    last_more run last same = record { alike = of_last IsLike number runs are.alike run last same; child = are.child }

    -- A child more that has the totals of the one before.
    pub twin_more : 1 ≤ number → ((d : ℕ) → under d number ≡ under d (number - 1)) → AreRuns under n most (number + 1) runs
    twin_more some same =
        let split = are.alike.split in
        let nonempty = some_there runs number split 0 (omega (arith, some)) in
        let r : ℕ = length runs - 1 in
        let last = run_at runs r (omega (arith, nonempty)) in
        let next : suc r ≡ length runs = omega (arith, nonempty) in
        let rising = split.rising r (omega (arith, nonempty)) in
        let end = ap (begin_of runs number) next ∙ begin_end runs number in
        last_more last.0 last.1 (λ d. same d ∙ are.alike.each r (number - 1) last.0 last.1 (omega (arith, rising, end)) (omega (arith, end, some)) d)

    -- A child more that makes a run of its own.
    pub run_more : (run : Run Child) → run.first ≡ number → IsChild under n most number run.of → AreRuns under n most (number + 1) (runs ++ run ∷ [])
    run_more run first child = record {
      alike = of_more IsLike number runs are.alike run first (λ d. ap (under d) (sym first));
      child = each_more (λ r (x : Run Child). IsChild under n most x.first x.of) runs run are.child (subst (λ c. IsChild under n most c run.of) (sym first) child);
    }

  -- Children more that have the totals of the one before them.
  pub twins_more : (number : ℕ) (runs : List (Run Child)) → AreRuns under n most (number + 1) runs → (count : ℕ)
      → ((j : ℕ) → j ≤ count → (d : ℕ) → under d (number + j) ≡ under d number) → AreRuns under n most (number + 1 + count) runs
  twins_more number runs are zero same = let none : number + 1 ≡ number + 1 + 0 = omega arith in subst (λ m. AreRuns under n most m runs) none are
  twins_more number runs are (suc count) same =
      let before = twins_more number runs are count (λ j le. same j (omega (arith, le))) in
      let here : number + suc count ≡ number + 1 + count = omega arith in
      let last : number + count ≡ number + 1 + count - 1 = omega arith in
      let one : number + 1 + count + 1 ≡ number + 1 + suc count = omega arith in
      let alike : (d : ℕ) → under d (number + 1 + count) ≡ under d (number + 1 + count - 1) = λ d.
      ap (under d) (sym here) ∙ same (suc count) (omega arith) d ∙ sym (same count (omega arith) d) ∙ ap (under d) last in
      subst (λ m. AreRuns under n most m runs) one (twin_more (number + 1 + count) runs before (omega arith) alike)

-- So many children from one on that have the same totals.
pub repeated_is : (a : Totals) (k i : ℕ) → from totals (λ _. a) (suc k) i ≡ record {
  schedules = suc k * a.schedules;
  boot = suc k * a.boot;
  none = suc k * a.none;
  panic = suc k * a.panic;
  fault = suc k * a.fault;
  most = a.most;
  first = option_map (λ l. i ∷ l) a.first;
}
repeated_is a zero i = totals_weigh.right (totals.prefixed i a) ∙ all_same _ _ (omega arith) (omega arith) (omega arith) (omega arith) (omega arith) refl refl
repeated_is a (suc k) i =
    ap (merged (totals.prefixed i a)) (repeated_is a k (i + 1))
    ∙ all_same _ _ (omega arith) (omega arith) (omega arith) (omega arith) (omega arith) (omega arith) (once a.first)
  where
    once : (o : Option (List ℕ)) → option_or (option_map (λ l. i ∷ l) o) (option_map (λ l. (i + 1) ∷ l) o) ≡ option_map (λ l. i ∷ l) o
    once None = refl
    once (Some l) = refl

-- A number that is cut off, so many times, is cut off as it is exactly.
pub cut_times : (top n k : ℕ) → min (min n top * suc k) top ≡ min (suc k * n) top
cut_times top n k = by (cases_lt top n)
  where
    by : (top < n) ⊎ (n ≤ top) → min (min n top * suc k) top ≡ min (suc k * n) top
    by (inl over) =
        let e : min n top ≡ top = omega (arith, over) in
        ap (λ m. min (m * suc k) top) e ∙ omega (arith, over)
    by (inr within) =
        let e : min n top ≡ n = omega (arith, within) in
        ap (λ m. min (m * suc k) top) e ∙ omega (arith)

-- The census of so many children, by one of theirs.
module _ (k i : ℕ) (c p : Census) (a : Totals) (c_is : c ≡ cut_off a) (p_is : p ≡ cut_off (totals.prefixed i a)) where
  abbrev all_of : Totals
  all_of = from totals (λ _. a) (suc k) i

  times_is : (count : ℕ) (of : Census → ℕ) (in_all : Totals → ℕ) (x : ℕ) → count ≡ suc k → of (cut_off a) ≡ cut_number (in_all a) → in_all all_of ≡ suc k * in_all a
      → x ≡ min (of c * count) (2 ^ 128 - 1) → x ≡ cut_number (in_all all_of)
  unfolding cut_number
  times_is count of in_all x many here times is = grind (arith, cut_times)

  repeated_census : (count : ℕ) (r : Census) → count ≡ suc k → r.schedules ≡ min (c.schedules * count) (2 ^ 128 - 1) → r.boot ≡ min (c.boot * count) (2 ^ 128 - 1)
      → r.none ≡ min (c.none * count) (2 ^ 128 - 1) → r.panic ≡ min (c.panic * count) (2 ^ 128 - 1) → r.fault ≡ min (c.fault * count) (2 ^ 128 - 1)
      → r.most_operations ≡ p.most_operations → r.first_not_boot ≡ p.first_not_boot → r ≡ cut_off all_of
  unfolding cut_off
  repeated_census count r many schedules boot none panic fault most first =
      let all = repeated_is a k i in
      same_numbers r (cut_off all_of)
      (times_is count (λ x. x.schedules) (λ x. x.schedules) r.schedules many refl (ap (λ (x : Totals). x.schedules) all) schedules)
      (times_is count (λ x. x.boot) (λ x. x.boot) r.boot many refl (ap (λ (x : Totals). x.boot) all) boot)
      (times_is count (λ x. x.none) (λ x. x.none) r.none many refl (ap (λ (x : Totals). x.none) all) none)
      (times_is count (λ x. x.panic) (λ x. x.panic) r.panic many refl (ap (λ (x : Totals). x.panic) all) panic)
      (times_is count (λ x. x.fault) (λ x. x.fault) r.fault many refl (ap (λ (x : Totals). x.fault) all) fault)
      (most ∙ ap (λ (x : Census). x.most_operations) p_is ∙ sym (ap (λ (x : Totals). x.most) all))
      (first ∙ ap (λ (x : Census). x.first_not_boot) p_is ∙ sym (ap (λ (x : Totals). option_map (take 16) x.first) all))

pub cut_repeated : (times i count : ℕ) (c p r : Census) (a : Totals) → c ≡ cut_off a → p ≡ cut_off (totals.prefixed i a) → 1 ≤ times → count ≡ times
    → r.schedules ≡ min (c.schedules * count) (2 ^ 128 - 1) → r.boot ≡ min (c.boot * count) (2 ^ 128 - 1) → r.none ≡ min (c.none * count) (2 ^ 128 - 1)
    → r.panic ≡ min (c.panic * count) (2 ^ 128 - 1) → r.fault ≡ min (c.fault * count) (2 ^ 128 - 1) → r.most_operations ≡ p.most_operations → r.first_not_boot ≡ p.first_not_boot
    → r ≡ cut_off (from totals (λ _. a) times i)
cut_repeated zero i count c p r a c_is p_is some many = absurd (omega (arith, some))
cut_repeated (suc k) i count c p r a c_is p_is some many = repeated_census k i c p a c_is p_is count r many

-- For one bound, the censuses of children by those of the runs.
module _ (under : ℕ → Totals) (n : ℕ) (runs : List (Run Child)) (level : List Census) (is : IsLevel under n runs level) where
  -- The children of a run have the totals of its first.
  like : (r : ℕ) → r < length runs → (i : ℕ) → begin_of runs n r ≤ i → i < begin_of runs n (suc r) → under i ≡ under (begin_of runs n r)
  like r lt i le below =
      let run = run_at runs r lt in
      is.alike.each r i run.0 run.1 le below ∙ ap under (sym (begin_is runs n r run.0 run.1))

  -- That of one child.
  pub at_child : (number r : ℕ) (c : Census) → number < n → Begins runs n number r → ((u : ℕ → Totals) → AreCutOff u level → r < length level → c ≡ cut_off (u r)) → c ≡ cut_off (under number)
  at_child number r c lt begins there =
      there (λ r. under (begin_of runs n r)) is.cut_offs (omega (arith, begins.some, is.many))
      ∙ ap cut_off (sym (like r begins.some number begins.first (begins.inside lt)))

  -- The sum of all from one on: that of those in its run, and that of the later runs.
  pub rest_parts : (number r : ℕ) → r < length runs → begin_of runs n r ≤ number → number ≤ begin_of runs n (suc r)
      → merged (from totals (λ _. under (begin_of runs n r)) (begin_of runs n (suc r) - number) number) (rest_from under n (begin_of runs n (suc r))) ≡ rest_from under n number
  rest_parts number r some first le =
      let end : ℕ = begin_of runs n (suc r) in
      let within = begin_within runs n is.alike.split (suc r) (omega (arith, some)) in
      let count : (end - number) + (n - end) ≡ n - number = omega (arith, le, within) in
      let last : number + (end - number) ≡ end = omega (arith, le) in
      let same = from_alike totals totals_weigh (λ _. under (begin_of runs n r)) under (end - number) number
      (λ x low lt. sym (like r some x (omega (arith, first, low)) (omega (arith, lt, le)))) in
      ap (λ a. merged a (rest_from under n end)) same
      ∙ ap (λ x. merged (from totals under (end - number) number) (from totals under (n - end) x)) (sym last)
      ∙ sym (from_parts totals totals_weigh under (end - number) (n - end) number)
      ∙ ap (λ m. from totals under m number) count

  -- The sums of the children of no run, and of all.
  pub none_left : rest_from under n (begin_of runs n (length runs - 0)) ≡ no_totals
  none_left =
      let e : length runs - 0 ≡ length runs = omega arith in
      let none : n - n ≡ 0 = omega arith in
      ap (λ r. rest_from under n (begin_of runs n r)) e ∙ ap (rest_from under n) (begin_end runs n) ∙ ap (λ k. from totals under k n) none

  pub all_there : (sums : List Census) → AreSums under n runs sums → (sum : Census) → ((u : ℕ → Totals) → AreCutOff u sums → length runs < length sums → sum ≡ cut_off (u (length runs)))
      → sum ≡ cut_off (from totals under n 0)
  all_there sums are sum last =
      let e : length runs - length runs ≡ 0 = omega arith in
      let all : n - 0 ≡ n = omega arith in
      last (λ k. rest_from under n (begin_of runs n (length runs - k))) are.1 (omega (arith, are.0))
      ∙ ap (λ r. cut_off (rest_from under n (begin_of runs n r))) e
      ∙ ap (λ i. cut_off (rest_from under n i)) is.alike.split.begin
      ∙ ap (λ k. cut_off (from totals under k 0)) all

-- Censuses of no paths.
pub none_cut_off : (n : ℕ) (y : Census) → y ≡ cut_off no_totals → AreCutOff (λ _. no_totals) (replicate n y)
none_cut_off zero y is i lt = absurd (omega (arith, lt))
none_cut_off (suc n) y is zero lt = ap (λ (c : Census). Some c) is
none_cut_off (suc n) y is (suc i) lt = none_cut_off n y is i (omega (arith, lt))
