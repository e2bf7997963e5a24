-- The cuts along a path, one after another.
use Rattle.std.proofs.Common.{List, None, Option, Some, [], ap, arith, false, length, refl, suc, sym, take, true, zero, ℕ, ◌++◌, ◌+◌, ◌-◌, ◌<◌, ◌∙◌, ◌∷◌, ◌≡◌, ◌≤◌}
use Rattle.std.proofs.lemmas.{Bool.Decides.{nat_tests}, List.{take_all, take_more}, Option.{get_or_from_slice_get, slice_get_within}}
use Rattle.std.specs.{List.{slice_get}, Prelude.{Bool, if◌then◌else◌, nat_lt, ◌==◌}}
use Rattle.mc_boot.specs.Plan.{PowerOn}
use Rattle.mc_explore.specs.{Boots.{boots}, Rounds.{second_start, tree_of}, declared.boot_row.BootRow.{BootRow}, declared.boot_row.Cuts.{Cuts}, declared.rounds.Rounds.{Rounds}}
use Rattle.mc_explore.specs.inner.{BootRows.{counted_up, cut_at, cuts_along, cuts_of, in_first_of, labels_along, left_in_round, node_in, numbers_of, one_cut_more}, BootTree.{confirms_of, first_width, root_of}}
use Rattle.mc_start.specs.{Start.{on_last}, facts.Counting.{on_last-push, on_last-twice}}
use Rattle.mc_tree.specs.{Tree.{RoundNode, Tree, label, labelled, landed, round_one, round_two}, facts.Rounds.{outside}}

-- ---- labels along a path

module _ {N L : Type 0} (t : Tree N) (name : N → ℕ → L) where
  pub labelled-push : (s : N) (l : List ℕ) (i : ℕ) → labelled t name s (l ++ i ∷ []) ≡ labelled t name s l ++ name (landed t s l) i ∷ []
  labelled-push s [] i = refl
  labelled-push s (x ∷ l) i = ap (λ z. name s x ∷ z) (labelled-push (t.child s x) l i)

  pub labelled-length : (s : N) (l : List ℕ) → length (labelled t name s l) ≡ length l
  labelled-length s [] = refl
  labelled-length s (x ∷ l) = ap suc (labelled-length (t.child s x) l)

-- The child of a node by its round and its number there.
label_is : (confirms : Bool) (p : RoundNode PowerOn) (i : ℕ) → label boots (second_start confirms) p i ≡ cut_at (first_width p) i
label_is confirms (round_one s) i = refl
label_is confirms (round_two began s) i = let same : i ≡ i - 0 = omega arith in rw (outside 0 i (omega arith)) (ap (λ (n : ℕ). (2, n)) same)

-- ---- one cut more

numbers-push : (l : List (ℕ × ℕ)) (cut : ℕ × ℕ) → numbers_of (l ++ cut ∷ []) ≡ numbers_of l ++ cut.1 ∷ []
numbers-push [] cut = refl
numbers-push (x ∷ l) cut = ap (λ z. x.1 ∷ z) (numbers-push l cut)

first-push : (l : List (ℕ × ℕ)) (cut : ℕ × ℕ) → in_first_of (l ++ cut ∷ []) ≡ (if cut.0 == 1 then in_first_of l + 1 else in_first_of l)
first-push [] cut = by (cut.0 == 1)
  where
    by : (b : Bool) → (if b then suc 0 else 0) ≡ (if b then 0 + 1 else 0)
    by true = refl
    by false = refl
first-push (x ∷ l) cut = by (x.0 == 1) (cut.0 == 1) (first-push l cut)
  where
    by : (a b : Bool) → in_first_of (l ++ cut ∷ []) ≡ (if b then in_first_of l + 1 else in_first_of l)
        → (if a then suc (in_first_of (l ++ cut ∷ [])) else in_first_of (l ++ cut ∷ []))
        ≡ (if b then (if a then suc (in_first_of l) else in_first_of l) + 1 else (if a then suc (in_first_of l) else in_first_of l))
    by true true is = omega (arith, is)
    by true false is = ap suc is
    by false true is = is
    by false false is = is

pub cuts-push : (l : List (ℕ × ℕ)) (cut : ℕ × ℕ) → cuts_of (l ++ cut ∷ []) ≡ one_cut_more (cuts_of l) cut
cuts-push l cut =
    ap (λ z. record { numbers = z; in_first = in_first_of (l ++ cut ∷ []) }) (numbers-push l cut)
    ∙ ap (λ n. record { numbers = numbers_of l ++ cut.1 ∷ []; in_first = n }) (first-push l cut)

pub numbers-length : (l : List (ℕ × ℕ)) → length (numbers_of l) ≡ length l
numbers-length [] = refl
numbers-length (x ∷ l) = ap suc (numbers-length l)

pub few_first : (l : List (ℕ × ℕ)) → in_first_of l ≤ length l
few_first [] = omega arith
few_first (x ∷ l) = by (x.0 == 1) (few_first l)
  where
    by : (b : Bool) → in_first_of l ≤ length l → (if b then suc (in_first_of l) else in_first_of l) ≤ suc (length l)
    by true le = omega (arith, le)
    by false le = omega (arith, le)

module _ (rounds : Rounds) (start : PowerOn) where
  pub along-length : (path : List ℕ) → length (labels_along rounds start path) ≡ length path
  along-length path = labelled-length (tree_of (confirms_of rounds)) (label boots (second_start (confirms_of rounds))) (root_of rounds start) path

  -- No more cuts than steps.
  pub along_short : (path : List ℕ) → length (cuts_along rounds start path).numbers ≡ length path
  along_short path = numbers-length (labels_along rounds start path) ∙ along-length path

  pub along_few : (path : List ℕ) → (cuts_along rounds start path).in_first ≤ length path
  along_few path = omega (arith, few_first (labels_along rounds start path), along-length path)

  -- The cuts along one step more.
  pub along-push : (path : List ℕ) (i : ℕ) → cuts_along rounds start (path ++ i ∷ []) ≡ one_cut_more (cuts_along rounds start path) (cut_at (first_width (node_in rounds start path)) i)
  along-push path i =
      ap cuts_of (labelled-push (tree_of (confirms_of rounds)) (label boots (second_start (confirms_of rounds))) (root_of rounds start) path i)
      ∙ cuts-push (labels_along rounds start path) (label boots (second_start (confirms_of rounds)) (node_in rounds start path) i)
      ∙ ap (one_cut_more (cuts_along rounds start path)) (label_is (confirms_of rounds) (node_in rounds start path) i)

-- ---- the last cut counted up

with_numbers : BootRow → List ℕ → BootRow
with_numbers row l = record { cuts = record { numbers = l; in_first = row.cuts.in_first }; ends = row.ends }

pub row_up : (row : BootRow) (j : ℕ) → counted_up (j + 1) (counted_up 1 row) ≡ counted_up (j + 2) row
unfolding with_numbers
row_up row j = ap (with_numbers row) (on_last-twice (λ n. n + 1) (λ n. n + (j + 1)) (λ n. n + (j + 2)) (λ n. omega arith) row.cuts.numbers)

-- A cut so much later in its round.
abbrev number_later : ℕ → ℕ × ℕ → ℕ × ℕ
number_later j cut = (cut.0, cut.1 + j)

-- Last cuts of one round, so much later.
module _ (in_first number count j : ℕ) (left : j < left_in_round in_first number count) where
  pub same_round : nat_lt (number + j) in_first ≡ nat_lt number in_first
  same_round = grind (arith, nat_tests)

  pub still_there : number + j < count
  still_there = grind (arith, nat_tests)

  pub cut_later : cut_at in_first (number + j) ≡ number_later j (cut_at in_first number)
  cut_later = by (nat_lt number in_first) same_round (λ is. grind (arith, nat_tests))
    where
      by : (b : Bool) → nat_lt (number + j) in_first ≡ b → (b ≡ false → in_first ≤ number)
          → (if nat_lt (number + j) in_first then (1, number + j) else (2, number + j - in_first))
          ≡ number_later j (if b then (1, number) else (2, number - in_first))
      by true is low = rw is refl
      by false is low = rw is (ap (λ n. (2, n)) (omega (arith, low refl)))

  -- One cut more, counted up.
  pub more_later : (cuts : Cuts) → record { numbers = on_last (λ n. n + j) (one_cut_more cuts (cut_at in_first number)).numbers; in_first = (one_cut_more cuts (cut_at in_first number)).in_first }
      ≡ one_cut_more cuts (cut_at in_first (number + j))
  more_later cuts =
      let cut : ℕ × ℕ = cut_at in_first number in
      ap (λ l. record { numbers = l; in_first = (one_cut_more cuts cut).in_first }) (on_last-push (λ n. n + j) cuts.numbers cut.1) ∙ ap (one_cut_more cuts) (sym cut_later)

-- ---- cuts that are taken one after another

pub is_none : {A : Type 0} (o : Option A) → ((x : A) → o ≡ Some x → ⊥) → o ≡ None
is_none None not = refl
is_none (Some x) not = absurd (not x refl)

past_all : (xs : List (ℕ × ℕ)) (i : ℕ) → slice_get xs i ≡ None → length xs ≤ i
past_all [] i none = omega arith
past_all (x ∷ xs) zero none = absurd cc
past_all (x ∷ xs) (suc i) none = omega (arith, past_all xs i none)

module _ (all : List (ℕ × ℕ)) (step : ℕ) where
  pub taken_more : (cut : ℕ × ℕ) → Some cut ≡ slice_get all step → take (step + 1) all ≡ take step all ++ cut ∷ []
  taken_more cut is =
      take_more all step cut (slice_get_within all step cut (sym is)) ∙ ap (λ z. take step all ++ z ∷ []) (get_or_from_slice_get all step cut cut (sym is))

  pub taken_within : (cut : ℕ × ℕ) → Some cut ≡ slice_get all step → step < length all
  taken_within cut is = slice_get_within all step cut (sym is)

  pub taken_whole : None ≡ slice_get all step → take step all ≡ all
  taken_whole none = take_all step all (past_all all step (sym none))
