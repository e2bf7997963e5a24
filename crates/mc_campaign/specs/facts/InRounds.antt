-- The cuts along a path are those of its campaign; the last of them counted up, and its text.
use Rattle.std.specs.Prelude.{Bool, List, None, Option, Some, [], codes, decimal, flat_map, length, nat_lt, refl, suc, take, zero, if◌then◌else◌, ℕ, ◌++◌, ◌+◌, ◌-◌, ◌<◌, ◌∷◌, ◌≡◌, ◌≤◌, ◌⊎◌}
use Rattle.std.proofs.{Common.{ap, append-nil, append_assoc, arith, drop, false, inl, inr, length-append, subst, sym, true, ◌∙◌}, Math.ListN.{get_or}, Math.Seq.{drop-append_seam}}
use Rattle.std.proofs.lemmas.{Bool.{cases_lt}, Bool.Decides.{nat_tests}, List.{same_from_push}, List.Concat.{flat_map-append}}
use Rattle.mc_campaign.specs.{Campaigns.{AscendFrom, IsInOrder}, Texts.{campaign_text, cut_text}, facts.Cuts.{number_later}, inner.InRounds.{campaign_of, in_rounds}}
use Rattle.mc_explore.specs.inner.BootRows.{in_first_of, numbers_of}
use Rattle.mc_tree.specs.facts.Rounds.{inside, outside}
use Rattle.mc_start.specs.{Start.{IsNextText, on_last, schedule_text}, facts.Counting.{next_after, next_joined, on_last-push, parted}}

-- ---- the cuts of an ordered list

later_back : (c : List (ℕ × ℕ)) → AscendFrom 2 c → (in_first_of c ≡ 0) × (in_rounds 0 (numbers_of c) ≡ c)
later_back [] o = (refl, refl)
later_back ((round, index) ∷ c) o =
    let two : round ≡ 2 = omega (arith, o.0, o.1) in
    let rest = later_back c (subst (λ n. AscendFrom n c) two o.2) in
    subst (λ n. (in_first_of ((n, index) ∷ c) ≡ 0) × (in_rounds 0 (numbers_of ((n, index) ∷ c)) ≡ (n, index) ∷ c)) (sym two) (rest.0, ap (λ z. (2, index) ∷ z) rest.1)

pub rounds_back : (c : List (ℕ × ℕ)) → IsInOrder c → in_rounds (in_first_of c) (numbers_of c) ≡ c
rounds_back [] o = refl
rounds_back ((round, index) ∷ c) o = elim (cases_lt round 2) [
  | inl early ↦
      let one : round ≡ 1 = omega (arith, o.0, early) in
      subst (λ n. in_rounds (in_first_of ((n, index) ∷ c)) (numbers_of ((n, index) ∷ c)) ≡ (n, index) ∷ c) (sym one)
      (ap (λ z. (1, index) ∷ z) (rounds_back c (subst (λ n. AscendFrom n c) one o.2)))
  | inr late ↦
      let both = later_back ((round, index) ∷ c) (late, o.1, o.2) in
      ap (λ n. in_rounds n (numbers_of ((round, index) ∷ c))) both.0 ∙ both.1
]

-- ---- one after another

-- The round of a cut, where so many lie in the first.
abbrev pub round_at : ℕ → ℕ → ℕ
round_at first index = if nat_lt index first then 1 else 2

one_less : (k n : ℕ) → nat_lt (suc k) (suc n) ≡ nat_lt k n
one_less k n = grind (arith, nat_tests)

later-push : (ns : List ℕ) (n : ℕ) → in_rounds 0 (ns ++ n ∷ []) ≡ in_rounds 0 ns ++ (2, n) ∷ []
later-push [] n = refl
later-push (m ∷ ns) n = ap (λ z. (2, m) ∷ z) (later-push ns n)

pub rounds-push : (first : ℕ) (ns : List ℕ) (n : ℕ) → in_rounds first (ns ++ n ∷ []) ≡ in_rounds first ns ++ (round_at first (length ns), n) ∷ []
rounds-push zero ns n = rw (outside 0 (length ns) (omega arith)) (later-push ns n)
rounds-push (suc first) [] n = rw (inside (suc first) 0 (omega arith)) refl
rounds-push (suc first) (m ∷ ns) n =
    ap (λ z. (1, m) ∷ z) (rounds-push first ns n) ∙ ap (λ b. (1, m) ∷ (in_rounds first ns ++ (if b then 1 else 2, n) ∷ [])) (sym (one_less (length ns) first))

pub rounds-length : (first : ℕ) (ns : List ℕ) → length (in_rounds first ns) ≡ length ns
rounds-length first [] = refl
rounds-length zero (n ∷ ns) = ap suc (rounds-length zero ns)
rounds-length (suc first) (n ∷ ns) = ap suc (rounds-length first ns)

later_ordered : (from : ℕ) (ns : List ℕ) → from ≤ 2 → AscendFrom from (in_rounds 0 ns)
later_ordered from [] le = tt
later_ordered from (n ∷ ns) le = (le, omega arith, later_ordered 2 ns (omega arith))

pub rounds_ordered : (first : ℕ) (ns : List ℕ) → IsInOrder (in_rounds first ns)
rounds_ordered first [] = tt
rounds_ordered zero (n ∷ ns) = (omega arith, omega arith, later_ordered 2 ns (omega arith))
rounds_ordered (suc first) (n ∷ ns) = (omega arith, omega arith, rounds_ordered first ns)

-- ---- the last counted up

-- ---- its text

-- A text after others: where one ends with the next digit, so does the other, if that is one of its own.
behind : (before text next : List ℕ) → IsNextText (before ++ text) (before ++ next) → IsNextText text next
behind before text next is front digit ends low high =
    let whole = is (before ++ front) digit (ap (λ z. before ++ z) ends ∙ sym (append_assoc before front (digit ∷ []))) low high in
    sym (drop-append_seam before next) ∙ ap (λ z. drop (length before) z) (whole ∙ append_assoc before front ((digit + 1) ∷ [])) ∙ drop-append_seam before (front ++ (digit + 1) ∷ [])

points-push : (z : ℕ) (zs : List ℕ) (w : ℕ) → schedule_text (z ∷ zs ++ w ∷ []) ≡ (decimal z ++ (flat_map (λ v. codes "." ++ decimal v) zs ++ codes ".")) ++ decimal w
points-push z zs w =
    let f : ℕ → List ℕ = λ v. codes "." ++ decimal v in
    ap (λ l. decimal z ++ l) (flat_map-append f zs (w ∷ []) ∙ ap (λ l. flat_map f zs ++ l) (append-nil (codes "." ++ decimal w)) ∙ sym (append_assoc (flat_map f zs) (codes ".") (decimal w)))
    ∙ sym (append_assoc (decimal z) (flat_map f zs ++ codes ".") (decimal w))

-- The number at the end of a schedule.
last_number : (front : List ℕ) (n m : ℕ) → IsNextText (schedule_text (front ++ n ∷ [])) (schedule_text (front ++ m ∷ [])) → IsNextText (decimal n) (decimal m)
last_number [] n m is = rw (append-nil (decimal n), append-nil (decimal m)) at is
last_number (z ∷ zs) n m is =
    let before : List ℕ = decimal z ++ (flat_map (λ v. codes "." ++ decimal v) zs ++ codes ".") in
    behind before (decimal n) (decimal m) (subst (λ t. IsNextText t (before ++ decimal m)) (points-push z zs n) (subst (IsNextText (schedule_text (z ∷ zs ++ n ∷ []))) (points-push z zs m) is))

-- After a point.
after_point : (text next : List ℕ) → IsNextText text next → IsNextText (codes "." ++ text) (codes "." ++ next)
after_point [] next is = λ front digit ends low high. let parts = same_from_push [] front 46 digit ends in absurd (omega (arith, parts.1, low))
after_point (x ∷ text) next is = next_after (codes ".") (x ∷ text) next (omega arith) is

pub next_cut : (front : List (ℕ × ℕ)) (cut : ℕ × ℕ) → IsNextText (decimal cut.1) (decimal (cut.1 + 1))
    → IsNextText (campaign_text (front ++ cut ∷ [])) (campaign_text (front ++ number_later 1 cut ∷ []))
next_cut front cut is =
    let text = next_after (decimal cut.0) (codes "." ++ decimal cut.1) (codes "." ++ decimal (cut.1 + 1)) (omega arith) (after_point (decimal cut.1) (decimal (cut.1 + 1)) is) in
    next_joined (codes ",") cut_text front cut (number_later 1 cut) (omega (arith, length-append (decimal cut.0) (codes "." ++ decimal cut.1))) text

pub next_campaign : (first : ℕ) (ns : List ℕ) → IsNextText (schedule_text ns) (schedule_text (on_last (λ n. n + 1) ns))
    → IsNextText (campaign_text (in_rounds first ns)) (campaign_text (in_rounds first (on_last (λ n. n + 1) ns)))
next_campaign first [] is = is
next_campaign first (x ∷ xs) is =
    let front : List ℕ = take (length (x ∷ xs) - 1) (x ∷ xs) in
    let n : ℕ = get_or (x ∷ xs) (length (x ∷ xs) - 1) 0 in
    let ends : x ∷ xs ≡ front ++ n ∷ [] = parted (x ∷ xs) 0 (omega arith) in
    let P : List ℕ → Type 0 = λ l. IsNextText (schedule_text l) (schedule_text (on_last (λ n. n + 1) l)) in
    let Q : List ℕ → Type 0 = λ l. IsNextText (campaign_text (in_rounds first l)) (campaign_text (in_rounds first (on_last (λ n. n + 1) l))) in
    let number = last_number front n (n + 1) (subst (λ z. IsNextText (schedule_text (front ++ n ∷ [])) (schedule_text z)) (on_last-push (λ n. n + 1) front n) (subst P ends is)) in
    let round : ℕ = round_at first (length front) in
    let here = next_cut (in_rounds first front) (round, n) number in
    subst Q (sym ends)
    (subst (λ z. IsNextText (campaign_text (in_rounds first (front ++ n ∷ []))) (campaign_text (in_rounds first z))) (sym (on_last-push (λ n. n + 1) front n))
    (subst (λ z. IsNextText (campaign_text (in_rounds first (front ++ n ∷ []))) (campaign_text z)) (sym (rounds-push first front (n + 1)))
    (subst (λ z. IsNextText (campaign_text z) (campaign_text (in_rounds first front ++ (round, n + 1) ∷ []))) (sym (rounds-push first front n)) here)))
