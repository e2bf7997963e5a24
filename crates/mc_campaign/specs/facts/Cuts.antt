-- Cuts, each with its round.
use Rattle.std.specs.Prelude.{◌≡◌, ℕ, suc, ◌+◌, ◌-◌, ◌≤◌, nat_lt, if◌then◌else◌, Bool, true, false, List, [], ◌∷◌, ◌++◌, length, refl}
use Rattle.std.proofs.{Common.{arith, inl, inr, sym, ap, subst, ◌∙◌, length-append}, lemmas.Bool.{cases_lt}, lemmas.List.{length-map}}
use Rattle.mc_tree.specs.Tree.{Tree, RoundNode, round_one, round_two, labels, pairs}
use Rattle.mc_campaign.specs.Campaigns.{AscendFrom, IsInOrder, in_round}
use Rattle.mc_explore.specs.{Rounds.{number_of}, declared.rounds.Round.{Round}}
use Rattle.mc_explore.specs.declared.rounds.Round.TheVariants as places

-- The round of that number.
abbrev pub round_numbered : ℕ → Round
round_numbered (suc (suc n)) = places.Second
round_numbered n = places.First

pub round_again : (round : Round) → round_numbered (number_of round) ≡ round
round_again places.First = refl
round_again places.Second = refl

pub pairs_length : (prefix later : List ℕ) → length (pairs prefix later) ≡ length prefix + length later
pairs_length prefix later = grind (arith, length-append, length-map)

-- ---- the cuts of each round

none_first : (later : List ℕ) → in_round 1 (pairs [] later) ≡ []
none_first [] = refl
none_first (x ∷ later) = none_first later

pub all_first : (prefix later : List ℕ) → in_round 1 (pairs prefix later) ≡ prefix
all_first [] later = none_first later
all_first (x ∷ prefix) later = ap (λ z. x ∷ z) (all_first prefix later)

pub all_second : (prefix later : List ℕ) → in_round 2 (pairs prefix later) ≡ later
all_second [] [] = refl
all_second [] (x ∷ later) = ap (λ z. x ∷ z) (all_second [] later)
all_second (x ∷ prefix) later = all_second prefix later

second_only : (c : List (ℕ × ℕ)) → AscendFrom 2 c → (in_round 1 c ≡ []) × (pairs [] (in_round 2 c) ≡ c)
second_only [] o = (refl, refl)
second_only ((round, index) ∷ c) o =
    let two : round ≡ 2 = omega (arith, o.0, o.1) in
    let rest = second_only c (subst (λ n. AscendFrom n c) two o.2) in
    subst (λ n. (in_round 1 ((n, index) ∷ c) ≡ []) × (pairs [] (in_round 2 ((n, index) ∷ c)) ≡ (n, index) ∷ c)) (sym two) (rest.0, ap (λ z. (2, index) ∷ z) rest.1)

-- A campaign is its cuts of the first round, and then those of the second.
pub by_rounds : (c : List (ℕ × ℕ)) → IsInOrder c → pairs (in_round 1 c) (in_round 2 c) ≡ c
by_rounds [] o = refl
by_rounds ((round, index) ∷ c) o = elim (cases_lt round 2) [
  | inl early ↦
      let one : round ≡ 1 = omega (arith, o.0, early) in
      subst (λ n. pairs (in_round 1 ((n, index) ∷ c)) (in_round 2 ((n, index) ∷ c)) ≡ (n, index) ∷ c) (sym one)
      (ap (λ z. (1, index) ∷ z) (by_rounds c (subst (λ n. AscendFrom n c) one o.2)))
  | inr late ↦
      let both = second_only ((round, index) ∷ c) (late, o.1, o.2) in
      ap (λ z. pairs z (in_round 2 ((round, index) ∷ c))) both.0 ∙ both.1
]

later_ordered : (n : ℕ) (later : List ℕ) → n ≤ 2 → AscendFrom n (pairs [] later)
later_ordered n [] le = tt
later_ordered n (x ∷ later) le = (le, omega arith, later_ordered 2 later (omega arith))

-- And so ordered.
pub ordered : (prefix later : List ℕ) → IsInOrder (pairs prefix later)
ordered [] later = later_ordered 1 later (omega arith)
ordered (x ∷ prefix) later = (omega arith, omega arith, ordered prefix later)

pub ordered_prefix : (n : ℕ) (l m : List (ℕ × ℕ)) → AscendFrom n (l ++ m) → AscendFrom n l
ordered_prefix n [] m o = tt
ordered_prefix n (x ∷ l) m o = (o.0, o.1, ordered_prefix x.0 l m o.2)

-- The round of the last cut, and that one where there is none.
abbrev pub last_round : ℕ → List (ℕ × ℕ) → ℕ
last_round round [] = round
last_round round (x ∷ l) = last_round x.0 l

pub last_pushed : (n : ℕ) (l : List (ℕ × ℕ)) (cut : ℕ × ℕ) → last_round n (l ++ cut ∷ []) ≡ cut.0
last_pushed n [] cut = refl
last_pushed n (x ∷ l) cut = last_pushed x.0 l cut

pub ordered_push : (n : ℕ) (l : List (ℕ × ℕ)) (cut : ℕ × ℕ) → AscendFrom n l → last_round n l ≤ cut.0 → cut.0 ≤ 2 → AscendFrom n (l ++ cut ∷ [])
ordered_push n [] cut o le at_most = (le, at_most, tt)
ordered_push n (x ∷ l) cut o le at_most = (o.0, o.1, ordered_push x.0 l cut o.2 le at_most)

pub last_ordered : (n : ℕ) (l : List (ℕ × ℕ)) (cut : ℕ × ℕ) → AscendFrom n (l ++ cut ∷ []) → (n ≤ cut.0) × (last_round n l ≤ cut.0) × (cut.0 ≤ 2)
last_ordered n [] cut o = (o.0, o.0, o.1)
last_ordered n (x ∷ l) cut o = let rest = last_ordered x.0 l cut o.2 in (omega (arith, o.0, rest.0), rest.1, rest.2)

-- A cut so much later in its round.
abbrev pub number_later : ℕ → ℕ × ℕ → ℕ × ℕ
number_later j cut = (cut.0, cut.1 + j)

-- ---- the cuts along a path

module _ {N : Type 0} (t : Tree N) (next : N → N) where
  abbrev round_of : RoundNode N → ℕ
  round_of (round_one s) = 1
  round_of (round_two began s) = 2

  -- Those of a node of the second round are of that round.
  pub along_ordered : (p : RoundNode N) (path : List ℕ) → AscendFrom (round_of p) (labels t next p path)
  along_ordered p [] = tt
  along_ordered (round_two began s) (i ∷ path) = (omega arith, omega arith, along_ordered (round_two began (t.child s i)) path)
  along_ordered (round_one s) (i ∷ path) = by (nat_lt i (t.width s)) (λ p. along_ordered p path)
    where
      by : (b : Bool) → ((p : RoundNode N) → AscendFrom (round_of p) (labels t next p path))
          → AscendFrom 1 ((if b then (1, i) else (2, i - t.width s)) ∷ labels t next (if b then round_one (t.child s i) else round_two s (t.child (next s) (i - t.width s))) path)
      by true rest = (omega arith, omega arith, rest (round_one (t.child s i)))
      by false rest = (omega arith, omega arith, rest (round_two s (t.child (next s) (i - t.width s))))
