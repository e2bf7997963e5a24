-- Totals that are cut off, one after another; what the rows of all paths come to is what the tree weighs.
use Rattle.std.proofs.Common.{Bool, List, None, Option, Some, [], ap, arith, cond, false, if◌then◌else◌, length, map, max, not, option_map, refl, subst, suc, sym, take, true, zero, ℕ, ◌++◌, ◌+◌, ◌-◌, ◌∙◌, ◌∷◌, ◌≡◌, ◌≤◌}
use Rattle.std.proofs.{lemmas.List.{length-map, take-take, take_all}, lemmas.List.Recursion.{is_count_by}, lemmas.List.Sums.{sum_by-cons}}
use Rattle.std.proofs.lemmas.Option.{same_Some}
use Rattle.std.specs.{List.{find, fold, slice_get}, Option.{option_or}, Prelude.{Contains}}
use Rattle.mc_boot.specs.{Outcome.{Report, shown}, Plan.{PowerOn}, SharedTail.{index_in_parent}, declared.outcome.BootResult.{BootResult}}
use Rattle.mc_boot.specs.{declared.outcome.Outcome.{Outcome}, declared.shared_tail.SharedTail.{SharedTail}}
use Rattle.mc_explore.specs.{Census.{IsCensusOf, census_by}, Pages.{IsRest}, Right.{judged}, Rows.{ShownRow, report_of}, Subject.{Subject, at_start, rows_of}}
use Rattle.mc_explore.specs.{Survey.{count_if, ending_with, is_boot, is_fault, is_none, is_panic, most_ops}, declared.census.CensusOf.{CensusOf}}
use Rattle.mc_explore.specs.{declared.expectation.Expectation.{Expectation}, facts.Totals.{totals_weigh}}
use Rattle.mc_explore.specs.inner.Table.{AreCutOff, IsJoined, IsTailOf, own_totals, weigh, weigh_below}
use Rattle.mc_explore.specs.inner.Totals.{Totals, merged, cut_off, no_totals, report_totals, row_totals, totals}
use Rattle.mc_start.specs.Start.{lowered}
use Rattle.mc_tree.specs.{Tree.{IsMember, Tree, landed}, facts.Existence.{all_from, all_paths, in_all, landed_path}}
use Rattle.mc_tree.specs.{facts.Weighed.{AreWeighed, from_more, shared_weight, rows_weigh}, inner.Weights.{from, path_tree, shared_below, total}}
use Rattle.mc_tree.specs.facts.Lists as lists

abbrev pub Census : Type 0
Census = CensusOf (List ℕ)

abbrev pub path_of : ShownRow → List ℕ
path_of row = row.schedule

-- Totals that are cut off, one after another.

-- The census with another first schedule.
abbrev pub with_schedule : Census → Option (List ℕ) → Census
with_schedule c first = record c { first_not_boot = first }

-- The first ones of the first ones.
take_prefix : (i : ℕ) (xs : List ℕ) → take 16 (i ∷ take 16 xs) ≡ take 16 (i ∷ xs)
take_prefix i xs = ap (λ (l : List ℕ). i ∷ l) (take-take 15 16 xs (omega arith))

beyond_first : (i : ℕ) (o : Option (List ℕ)) → option_map (λ l. take 16 (i ∷ l)) (option_map (take 16) o) ≡ option_map (take 16) (option_map (λ l. i ∷ l) o)
beyond_first i it = grind (arith, take_prefix)

pub cut_prefixed : (i : ℕ) (c : Census) (a : Totals) → c ≡ cut_off a → with_schedule c (option_map (λ l. take 16 (i ∷ l)) c.first_not_boot) ≡ cut_off (totals.prefixed i a)
unfolding cut_off
cut_prefixed i c a is = grind (arith, beyond_first)

pub cut_lowered : (j : ℕ) (c : Census) (a : Totals) → c ≡ cut_off a → with_schedule c (option_map (lowered j) c.first_not_boot) ≡ cut_off (totals.first_lowered j a)
unfolding cut_off
cut_lowered j c a is = grind arith

-- The totals of rows are weights.

-- Those of no rows.
from_none : (n i : ℕ) → from totals (λ x. no_totals) n i ≡ no_totals
from_none zero i = refl
from_none (suc n) i = ap (merged no_totals) (from_none n (i + 1))

-- The totals of a tree, by the children of a node.
module _ {N : Type 0} (t : Tree N) (ended : N → Report) (e : Expectation) where
  -- All paths from a node: the one of no steps, and those after each first step.
  pub weigh_is : (n : N) (d : ℕ) → merged (own_totals t ended e n) (from totals (weigh_below t ended e n d) (t.width n) 0) ≡ weigh t ended e d n
  weigh_is n zero = ap (merged (own_totals t ended e n)) (from_none (t.width n) 0) ∙ totals_weigh.right (own_totals t ended e n)
  weigh_is n (suc d) = refl

  -- All paths from a child whose boot goes on with that of its parent.
  tail_weighs : (n : N) (c : ℕ) (x : SharedTail) → IsTailOf t ended e n c x → (d : ℕ) → weigh_below t ended e n (suc d) c
      ≡ merged (own_totals t ended e (t.child n c)) (shared_below totals (weigh_below t ended e n d) (t.width n) x.kept x.erases (index_in_parent x))
  tail_weighs n c x is (suc d) = shared_weight totals totals_weigh t (own_totals t ended e) n (t.child n c) x.kept x.erases (index_in_parent x) d is
  tail_weighs n c x is zero =
      let rest : ℕ = t.width n - (x.kept + x.erases) in
      let early = from_none x.erases 0 in
      let late = ap (totals.first_lowered x.kept) (from_none rest (x.kept + x.erases)) in
      sym (ap (λ a. merged (own_totals t ended e (t.child n c)) (merged a (totals.first_lowered x.kept (from totals (λ i. no_totals) rest (x.kept + x.erases))))) early
      ∙ ap (λ a. merged (own_totals t ended e (t.child n c)) (merged no_totals a)) late
      ∙ totals_weigh.right (own_totals t ended e (t.child n c)))

  pub is_joined : (n : N) (most c : ℕ) (outcome : Outcome) (x : SharedTail) → own_totals t ended e (t.child n c) ≡ report_totals (shown outcome) → IsTailOf t ended e n c x
      → IsJoined (weigh_below t ended e n) (t.width n) most c outcome x
  is_joined n most c outcome x own_is is = grind (arith, tail_weighs)

-- Lists of totals that are cut off.

-- What holds of each element of a list, and of one more after them, holds of each of those.
pub each_more : {X : Type 0} (P : ℕ → X → Type 0) (xs : List X) (x : X) → ((i : ℕ) (y : X) → slice_get xs i ≡ Some y → P i y) → P (length xs) x
    → (i : ℕ) (y : X) → slice_get (xs ++ x ∷ []) i ≡ Some y → P i y
each_more P [] x are last zero y is = subst (P 0) (same_Some x y is) last
each_more P [] x are last (suc i) y is = absurd cc
each_more P (z ∷ xs) x are last zero y is = are 0 y is
each_more P (z ∷ xs) x are last (suc i) y is = each_more (λ i. P (suc i)) xs x (λ i. are (suc i)) last i y is

-- One more.
one_cut_off : (under : ℕ → Totals) (xs : List Census) (y : Census) → AreCutOff under xs → y ≡ cut_off (under (length xs)) → AreCutOff under (xs ++ y ∷ [])
one_cut_off under [] y are is zero lt = ap (λ (c : Census). Some c) is
one_cut_off under [] y are is (suc i) lt = absurd (omega (arith, lt))
one_cut_off under (x ∷ xs) y are is zero lt = are 0 (omega arith)
one_cut_off under (x ∷ xs) y are is (suc i) lt = one_cut_off (λ i. under (suc i)) xs y (λ i lt. are (suc i) (omega (arith, lt))) is i (omega (arith, lt))

pub more_cut_off : (under : ℕ → Totals) (xs all : List Census) (y : Census) (n : ℕ) → all ≡ xs ++ y ∷ [] → length xs ≡ n → AreCutOff under xs → y ≡ cut_off (under n) → AreCutOff under all
more_cut_off under xs all y n pushed many are is = subst (AreCutOff under) (sym pushed) (one_cut_off under xs y are (is ∙ ap (λ k. cut_off (under k)) (sym many)))

-- The sums of one more of the first ones.
pub more_first : (under : ℕ → Totals) (n : ℕ) → merged (from totals under n 0) (totals.prefixed n (under n)) ≡ from totals under (n + 1) 0
more_first under n =
    let at : 0 + n ≡ n = omega arith in
    let one : n + 1 ≡ suc n = omega arith in
    sym (ap (λ k. from totals under k 0) one ∙ from_more totals totals_weigh under n 0 ∙ ap (λ i. merged (from totals under n 0) (totals.prefixed i (under i))) at)

-- What the one list of rows comes to is what the tree of boots does.

-- ---- the rows of a list

abbrev sum_of : List ShownRow → Totals
sum_of = total totals row_totals

count_more : (b : Bool) (n : ℕ) → count_if b + n ≡ (if b then 1 + n else n)
count_more true n = refl
count_more false n = omega arith

many_are : (rows : List ShownRow) → (sum_of rows).schedules ≡ length rows
many_are [] = refl
many_are (row ∷ rows) = let e = many_are rows in omega (arith, e)

-- How many there are of one result.
boots_are : (rows : List ShownRow) → (sum_of rows).boot ≡ ending_with report_of is_boot rows
boots_are = is_count_by (λ rows. (sum_of rows).boot) (λ row. is_boot row.outcome.result) refl (λ row rows. count_more (is_boot row.outcome.result) (sum_of rows).boot)

nones_are : (rows : List ShownRow) → (sum_of rows).none ≡ ending_with report_of is_none rows
nones_are = is_count_by (λ rows. (sum_of rows).none) (λ row. is_none row.outcome.result) refl (λ row rows. count_more (is_none row.outcome.result) (sum_of rows).none)

panics_are : (rows : List ShownRow) → (sum_of rows).panic ≡ ending_with report_of is_panic rows
panics_are = is_count_by (λ rows. (sum_of rows).panic) (λ row. is_panic row.outcome.result) refl (λ row rows. count_more (is_panic row.outcome.result) (sum_of rows).panic)

faults_are : (rows : List ShownRow) → (sum_of rows).fault ≡ ending_with report_of is_fault rows
faults_are = is_count_by (λ rows. (sum_of rows).fault) (λ row. is_fault row.outcome.result) refl (λ row rows. count_more (is_fault row.outcome.result) (sum_of rows).fault)

most_from : (n : ℕ) (rows : List ShownRow) → max n (sum_of rows).most ≡ fold (λ most row. max most row.outcome.ops) n rows
most_from n [] = omega arith
most_from n (row ∷ rows) =
    let rest : ℕ = (sum_of rows).most in
    let e : max n (max row.outcome.ops rest) ≡ max (max n row.outcome.ops) rest = omega arith in
    e ∙ most_from (max n row.outcome.ops) rows

most_is : (rows : List ShownRow) → (sum_of rows).most ≡ most_ops report_of rows
most_is rows = let e : (sum_of rows).most ≡ max 0 (sum_of rows).most = omega arith in e ∙ most_from 0 rows

first_more : (b : Bool) (row : ShownRow) (o : Option (List ℕ)) (found : Option ShownRow) → length row.schedule ≤ 16 → option_map (take 16) o ≡ option_map path_of found
    → option_map (take 16) (option_or (if b then None else Some row.schedule) o) ≡ option_map path_of (if not b then Some row else found)
first_more true row o found at_most is = is
first_more false row o found at_most is = ap (λ (l : List ℕ). Some l) (take_all 16 row.schedule at_most)

first_is : (rows : List ShownRow) → ((row : ShownRow) → Contains rows row → length row.schedule ≤ 16) → option_map (take 16) (sum_of rows).first ≡ (census_by report_of path_of rows).first_not_boot
first_is [] at_most = refl
first_is (row ∷ rows) at_most =
    first_more (is_boot row.outcome.result) row (sum_of rows).first (find (λ row. not (is_boot row.outcome.result)) rows) (at_most row (lists.at_head row rows))
    (first_is rows (λ x i. at_most x (lists.in_rest row x rows i)))

pub same_numbers : (x y : Census) → x.schedules ≡ y.schedules → x.boot ≡ y.boot → x.none ≡ y.none → x.panic ≡ y.panic → x.fault ≡ y.fault → x.most_operations ≡ y.most_operations
    → x.first_not_boot ≡ y.first_not_boot → x ≡ y
same_numbers x y a b c d e f h = grind arith

-- The rows' totals, cut off, are their census.
rows_census : (rows : List ShownRow) → ((row : ShownRow) → Contains rows row → length row.schedule ≤ 16) → cut_off (sum_of rows) ≡ census_by report_of path_of rows
unfolding cut_off
rows_census rows at_most = grind (arith, many_are, boots_are, nones_are, panics_are, faults_are, most_is, first_is)

-- ---- the tree

module _ {N : Type 0} (t : Tree N) (ended : N → Report) (e : Expectation) where
  -- The row of a path from a node, as it counts.
  abbrev counted_row : N → List ℕ → ShownRow
  counted_row n l = record { schedule = l; outcome = judged e (ended (landed t n l)) }

  rows_are_weighed : AreWeighed totals totals_weigh t (own_totals t ended e) row_totals counted_row
  rows_are_weighed = grind arith

  -- The rows of all paths are what the tree weighs.
  all_weigh : (bound : ℕ) (n : N) → total totals row_totals (map (counted_row n) (all_from t bound n)) ≡ weigh t ended e bound n
  all_weigh = rows_weigh totals totals_weigh t (own_totals t ended e) row_totals counted_row rows_are_weighed

-- And so it is in the tree of paths from a root.
module _ {N : Type 0} (t : Tree N) (root : N) (ended : List ℕ → Report) (e : Expectation) where
  abbrev pub path_row : List ℕ → ShownRow
  path_row l = record { schedule = l; outcome = judged e (ended l) }

  same_rows : (ls : List (List ℕ)) → map (counted_row (path_tree t root) ended e []) ls ≡ map path_row ls
  same_rows it = grind (arith, landed_path)

  pub paths_census : (bound : ℕ) → bound ≤ 16 → cut_off (weigh (path_tree t root) ended e bound []) ≡ census_by report_of path_of (map path_row (all_from t bound root))
  paths_census bound at_most =
      ap cut_off (sym (all_weigh (path_tree t root) ended e bound []) ∙ ap (λ ls. total totals row_totals (map (counted_row (path_tree t root) ended e []) ls)) (all_paths t root bound [])
      ∙ ap (total totals row_totals) (same_rows (all_from t bound root)))
      ∙ rows_census (map path_row (all_from t bound root)) short
    where
      short : (row : ShownRow) → Contains (map path_row (all_from t bound root)) row → length row.schedule ≤ 16
      short row there =
          let from = lists.in_map path_row row (all_from t bound root) there in
          omega (arith, at_most, (in_all t bound root from.0 from.2).0, ap (λ (r : ShownRow). length r.schedule) from.1)

-- Rows of whatever is counted, each of a path, have the census of these.
module _ {R K : Type 0} (ends : R → Report) (key : R → K) (row_of : List ℕ → R) (o : List ℕ → Report) (key_of : List ℕ → K) (end_is : (l : List ℕ) → ends (row_of l) ≡ o l)
    (key_is : (l : List ℕ) → key (row_of l) ≡ key_of l) where
  abbrev of_path : List ℕ → ShownRow
  of_path l = record { schedule = l; outcome = o l }

  same_count : (test : BootResult → Bool) (ls : List (List ℕ)) → ending_with ends test (map row_of ls) ≡ ending_with report_of test (map of_path ls)
  same_count test [] = refl
  same_count test (l ∷ ls) =
      sum_by-cons (λ (r : R). cond (test (ends r).result) 1 0) (row_of l) (map row_of ls)
      ∙ ap (λ (x : Report). cond (test x.result) 1 0 + ending_with ends test (map row_of ls)) (end_is l)
      ∙ ap (λ n. cond (test (o l).result) 1 0 + n) (same_count test ls)
      ∙ sym (sum_by-cons (λ (r : ShownRow). cond (test r.outcome.result) 1 0) (of_path l) (map of_path ls))

  same_most : (n : ℕ) (ls : List (List ℕ)) → fold (λ most row. max most (ends row).ops) n (map row_of ls) ≡ fold (λ most (row : ShownRow). max most row.outcome.ops) n (map of_path ls)
  same_most n [] = refl
  same_most n (l ∷ ls) =
      ap (λ (x : Report). fold (λ most row. max most (ends row).ops) (max n x.ops) (map row_of ls)) (end_is l) ∙ same_most (max n (o l).ops) ls

  abbrev fails : R → Bool
  fails row = not (is_boot (ends row).result)

  abbrev first_key : List (List ℕ) → Option K
  first_key ls = option_map key_of (option_map path_of (find (λ (row : ShownRow). not (is_boot row.outcome.result)) (map of_path ls)))

  same_first : (ls : List (List ℕ)) → option_map key (find fails (map row_of ls)) ≡ first_key ls
  same_first [] = refl
  same_first (l ∷ ls) =
      ap (λ (x : Report). option_map key (if not (is_boot x.result) then Some (row_of l) else find fails (map row_of ls))) (end_is l) ∙ by (is_boot (o l).result) (same_first ls)
    where
      by : (b : Bool) → option_map key (find fails (map row_of ls)) ≡ first_key ls → option_map key (if not b then Some (row_of l) else find fails (map row_of ls))
          ≡ option_map key_of (option_map path_of (if not b then Some (of_path l) else find (λ (row : ShownRow). not (is_boot row.outcome.result)) (map of_path ls)))
      by true rest = rest
      by false rest = ap (λ (k : K). Some k) (key_is l)

  pub same_census : (ls : List (List ℕ)) (paths : Census) (census : CensusOf K) → paths ≡ census_by report_of path_of (map of_path ls)
      → census ≡ record {
        schedules = paths.schedules;
        boot = paths.boot;
        none = paths.none;
        panic = paths.panic;
        fault = paths.fault;
        most_operations = paths.most_operations;
        first_not_boot = option_map key_of paths.first_not_boot;
      } → census ≡ census_by ends key (map row_of ls)
  same_census ls paths census is census_is =
      let many : length (map row_of ls) ≡ length (map of_path ls) = length-map ls row_of ∙ sym (length-map ls of_path) in
      let boot = same_count is_boot ls in
      let none = same_count is_none ls in
      let panic = same_count is_panic ls in
      let fault = same_count is_fault ls in
      let most = same_most 0 ls in
      let first = same_first ls in
      rw is at census_is ∙ cc

-- The census of a subject, whose rows are those of all paths of a tree.
module _ {C K R U N : Type 0} (x : Subject C K R U) (t : Tree N) (root : N) (report : List ℕ → Report) (key_of : List ℕ → K) (row_of : List ℕ → R)
    (ends_are : (l : List ℕ) → x.ends (row_of l) ≡ report l) (keys_are : (l : List ℕ) → x.key (row_of l) ≡ key_of l) (e : Expectation) (bound : ℕ) (at_most : bound ≤ 16) (paths : Census)
    (is : paths ≡ cut_off (weigh (path_tree t root) report e bound [])) where
  found_in : (ls : List (List ℕ)) (l : List ℕ) → option_map path_of (find (λ (row : ShownRow). not (is_boot row.outcome.result)) (map (path_row t root report e) ls)) ≡ Some l → Contains ls l
  found_in [] l found = absurd cc
  found_in (m ∷ ls) l found = by (is_boot (judged e (report m)).result) (found_in ls l) found
    where
      by : (b : Bool) → (option_map path_of (find (λ (row : ShownRow). not (is_boot row.outcome.result)) (map (path_row t root report e) ls)) ≡ Some l → Contains ls l)
          → option_map path_of (if not b then Some (path_row t root report e m) else find (λ (row : ShownRow). not (is_boot row.outcome.result)) (map (path_row t root report e) ls)) ≡ Some l
          → Contains (m ∷ ls) l
      by true rest found = lists.in_rest m l ls (rest found)
      by false rest found = subst (Contains (m ∷ ls)) (same_Some m l found) (lists.at_head m ls)

  -- The first path that does not end in a boot is one of them.
  pub first_member : (l : List ℕ) → paths.first_not_boot ≡ Some l → IsMember t root bound l
  first_member l found =
      let first = ap (λ (c : Census). c.first_not_boot) (is ∙ paths_census t root report e bound at_most) in
      in_all t bound root l (found_in (all_from t bound root) l (sym first ∙ found))

  pub is_census : (start : PowerOn) (choice : C) (census : CensusOf K) → IsRest (rows_of x) (at_start start choice bound) (map row_of (all_from t bound root))
      → census ≡ record {
        schedules = paths.schedules;
        boot = paths.boot;
        none = paths.none;
        panic = paths.panic;
        fault = paths.fault;
        most_operations = paths.most_operations;
        first_not_boot = option_map key_of paths.first_not_boot;
      } → IsCensusOf x (λ row. judged e (x.ends row)) start choice bound census
  is_census start choice census rest census_is = record {
    rows = map row_of (all_from t bound root);
    rest = rest;
    census_is = same_census (λ row. judged e (x.ends row)) x.key row_of (λ l. judged e (report l)) key_of (λ l. ap (judged e) (ends_are l)) keys_are (all_from t bound root) paths census
        (is ∙ paths_census t root report e bound at_most) census_is;
  }
