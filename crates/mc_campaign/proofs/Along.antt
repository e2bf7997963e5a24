-- A walk along the cuts of a campaign.
use Rattle.std.specs.Prelude.{◌≡◌, ℕ, zero, suc, ◌+◌, ◌-◌, ◌<◌, ◌≤◌, ◌^◌, Bool, true, false, List, [], ◌∷◌, ◌++◌, length, take, drop, get_or, if◌then◌else◌, ◌↔◌, Option, Some, None, SomeIff, refl}
use Rattle.std.proofs.{Common.{arith, inl, inr, sym, ap, subst, ◌∙◌}, Math.Seq.{drop-append_seam}, lemmas.Bool.{cases_lt}}
use Rattle.std.proofs.lemmas.List.{length-take-le, take_all, take_more}
use Rattle.mc_tree.specs.Tree.{Tree, labelled, landed, RoundNode, round_one, round_two, label, labels}
use Rattle.mc_tree.specs.{facts.Order.{allowed-last, allowed_prefix, not_same, paths_in_order, pairs_in_order}, facts.Rounds.{inside, outside, pairs_precede}}
use Rattle.mc_flash.specs.{Geometry.{IsLayout}, Usage.{most_operations}, facts.Usage.{few_operations}}
use Rattle.mc_explore.proofs.BootWays.{of_second}
use Rattle.mc_boot.specs.{Plan.{PowerOn, again}, Outcome.{ops_of}, facts.Bounds.{few_ops}}
use Rattle.mc_walk.specs.{Walks.{Walked, GoesDown, IsPath, IsSame, IsThere}, facts.Same.{path_back, same_back}}
use Rattle.mc_explore.specs.{inner.OneRound.{IsOf}, facts.Summaries.{width_is}, inner.Exploring.{NoAllocationFailed}}
use Rattle.mc_explore.specs.Boots.{boots}
use Rattle.mc_campaign.specs.Campaigns.{IsMember}
use Rattle.mc_explore.proofs.CutsAlong.{labelled-length, labelled-push}
use Rattle.mc_explore.specs.declared.rounds.BootTree.{BootTree}
use Rattle.mc_campaign.specs.Rounds.{cuts_along}
use Rattle.mc_campaign.specs.inner.View.{FollowsCampaign, HasChildOf, begun_of}
use Rattle.mc_explore.specs.declared.rounds.Round.TheVariants as rounds_of
use Rattle.mc_explore.specs.declared.rounds.Rounds.TheVariants as kinds
use Rattle.mc_campaign.specs.facts.Paths.{path_of}
use Rattle.mc_explore.specs.Rounds.{second_start, tree_of}
use Rattle.mc_explore.specs.declared.rounds.Both.{Both}
use Rattle.mc_explore.specs.inner.BootTree.{AreSummaries, confirms_of, model_is, model_of, root_of, summaries_at}
use Rattle.mc_tree.specs.Tree as trees

-- ---- labels along a path

labelled-take : {N L : Type 0} (t : Tree N) (name : N → ℕ → L) (s : N) (l : List ℕ) (n : ℕ) → labelled t name s (take n l) ≡ take n (labelled t name s l)
labelled-take t name s l zero = refl
labelled-take t name s [] (suc n) = refl
labelled-take t name s (x ∷ l) (suc n) = ap (λ z. name s x ∷ z) (labelled-take t name (t.child s x) l n)

-- Paths of the same cuts are one.
same_path : {N : Type 0} (t : Tree N) (next : N → N) (p : RoundNode N) (l m : List ℕ) → labels t next p l ≡ labels t next p m → l ≡ m
same_path t next p l m e = elim (paths_in_order.total l m) [
  | inl before ↦ absurd (not_same _ pairs_in_order (labels t next p l) (labels t next p m) e (pairs_precede t next p l m before))
  | inr (inl same) ↦ same
  | inr (inr after) ↦ absurd (not_same _ pairs_in_order (labels t next p m) (labels t next p l) (sym e) (pairs_precede t next p m l after))
]

last_same : {X : Type 0} (xs : List X) (x y : X) → xs ++ x ∷ [] ≡ xs ++ y ∷ [] → x ≡ y
last_same {X = X} xs x y e = let q : x ∷ [] ≡ y ∷ [] = sym (drop-append_seam xs (x ∷ [])) ∙ ap (λ (z : List X). drop (length xs) z) e ∙ drop-append_seam xs (y ∷ []) in cc

-- ---- along a campaign

module _ (c : List (ℕ × ℕ)) (confirms : Bool) (old : Walked BootTree) where
  -- Its paths are those of two rounds.
  abbrev IsPathIn : List ℕ → Type 0
  IsPathIn = trees.IsMember (tree_of confirms) (round_one (begun_of old)) old.bound

  -- The cuts along a path of that walk.
  abbrev cuts : List ℕ → List (ℕ × ℕ)
  cuts path = cuts_along confirms (begun_of old) path

  abbrev tree : Tree (RoundNode PowerOn)
  tree = tree_of confirms

  abbrev name : RoundNode PowerOn → ℕ → ℕ × ℕ
  name = label boots (second_start confirms)

  -- It has come along so many cuts.
  pub record IsAlong (n : ℕ) (now : Walked BootTree) : Type 0 where
    pub cuts_are : cuts now.path ≡ take n c
    pub member : IsPathIn now.path
    pub same : IsSame old now
    pub stands : now.stands ≡ true
    pub no_allocation_failed : NoAllocationFailed old.seen now.seen

  pub along_begin : old.stands ≡ true → old.path ≡ [] → IsAlong 0 old
  along_begin stands root = grind arith

  module _ (n : ℕ) (mid : Walked BootTree) (a : IsAlong n mid) (inside : n < length c) (summary : Both) (there : IsThere (model_of mid.flash_tree) mid summary) (number : Option ℕ)
      (child : (start : PowerOn) (confirms : Bool) (p : RoundNode PowerOn) → IsLayout start.geometry → AreSummaries start (kinds.Two confirms) p summary
      → HasChildOf confirms p (get_or c n (0, 0)) number)
      (valid : IsLayout (begun_of old).geometry) (two : old.flash_tree.rounds ≡ kinds.Two confirms) where
    paths_are : IsPath (model_of old.flash_tree) old ≡ IsPathIn
    paths_are = rw (model_is old.flash_tree) (ap (λ r. trees.IsMember (tree_of (confirms_of r)) (root_of r (begun_of old)) old.bound) two)

    -- The node where it stands.
    abbrev here : RoundNode PowerOn
    here = landed tree (round_one (begun_of old)) mid.path

    summary_here : AreSummaries (begun_of old) (kinds.Two confirms) here summary
    summary_here =
        subst (λ r. AreSummaries (begun_of old) r (landed (tree_of (confirms_of r)) (root_of r (begun_of old)) mid.path) summary) two
        (summaries_at old.flash_tree mid.path summary (rw a.same.flash_tree at there.summary_is))

    abbrev named : ℕ → ℕ × ℕ
    named i = name here i

    is_child : (i : ℕ) → IsPathIn (mid.path ++ i ∷ []) → named i ≡ get_or c n (0, 0) ↔ number ≡ Some i
    is_child i m =
        child (begun_of old) confirms here valid summary_here i (allowed-last tree (round_one (begun_of old)) mid.path i m.1)

    pub along_more : (i : ℕ) (went : Bool) (new : Walked BootTree) → number ≡ Some i → went ≡ true → GoesDown (model_of mid.flash_tree) i mid went new
        → NoAllocationFailed mid.seen new.seen → IsAlong (n + 1) new
    along_more i false new is e d no_allocation_failed = absurd cc
    along_more i true new is e d no_allocation_failed =
        let member = subst (λ P. P new.path) paths_are (path_back model_of old mid new.path a.same d.1) in
        let at = (is_child i (subst IsPathIn d.0 member)).1 is in
        record {
          cuts_are = ap cuts d.0 ∙ labelled-push tree name (round_one (begun_of old)) mid.path i ∙ ap (λ z. z ++ named i ∷ []) a.cuts_are ∙ ap (λ z. take n c ++ z ∷ []) at
              ∙ sym (take_more c n (0, 0) inside);
          member = member;
          same = record { flash_tree = d.2.flash_tree ∙ a.same.flash_tree; bound = d.2.bound ∙ a.same.bound };
          stands = d.3;
          no_allocation_failed = record { limits = no_allocation_failed.limits ∙ a.no_allocation_failed.limits; failed = no_allocation_failed.failed ∙ a.no_allocation_failed.failed };
        }

    -- Where the campaign is one of those to go through, there is a child at its next cut.
    next_child : IsMember (begun_of old) confirms old.bound c → (j : ℕ) × IsPathIn (mid.path ++ j ∷ []) × (number ≡ Some j)
    next_child m =
        let k = confirms in
        let s = begun_of old in
        let p = path_of k s old.bound c m in
        let l : List ℕ = p.0 in
        let j : ℕ = get_or l n 0 in
        let len : length l ≡ length c = sym (labelled-length tree name (round_one s) l) ∙ ap (λ z. length z) p.1.cuts_are in
        let below : n < length l = omega (arith, len, inside) in
        let prefix : take n l ≡ mid.path =
        same_path boots (second_start k) (round_one s) (take n l) mid.path (labelled-take tree name (round_one s) l n ∙ ap (λ z. take n z) p.1.cuts_are ∙ sym a.cuts_are) in
        let more : take (n + 1) l ≡ mid.path ++ j ∷ [] = take_more l n 0 below ∙ ap (λ z. z ++ j ∷ []) prefix in
        let at : cuts (take (n + 1) l) ≡ take n c ++ get_or c n (0, 0) ∷ [] =
        labelled-take tree name (round_one s) l (n + 1) ∙ ap (λ z. take (n + 1) z) p.1.cuts_are ∙ take_more c n (0, 0) inside in
        let both : take n c ++ named j ∷ [] ≡ take n c ++ get_or c n (0, 0) ∷ [] =
        ap (λ z. z ++ named j ∷ []) (sym a.cuts_are) ∙ sym (labelled-push tree name (round_one s) mid.path j) ∙ ap cuts (sym more) ∙ at in
        let at_most : length (take (n + 1) l) ≤ old.bound = omega (arith, length-take-le (n + 1) l (omega (arith, below)), below, p.1.member.0) in
        let member : IsPathIn (mid.path ++ j ∷ []) = subst IsPathIn more (at_most, allowed_prefix (tree_of k) (round_one s) l (n + 1) p.1.member.1) in
        (j, member, (is_child j member).0 (last_same (take n c) (named j) (get_or c n (0, 0)) both))

    pub none_there : number ≡ None → IsMember (begun_of old) confirms old.bound c → ⊥
    none_there none m = let next = next_child m in let is : number ≡ Some next.0 = next.2 in absurd cc

    pub stops_there : (i : ℕ) (went : Bool) (new : Walked BootTree) → number ≡ Some i → went ≡ false → GoesDown (model_of mid.flash_tree) i mid went new
        → IsMember (begun_of old) confirms old.bound c → ⊥
    stops_there i true new is e d m = absurd cc
    stops_there i false new is e d m =
        let next = next_child m in
        let same : next.0 ≡ i = let q : Some next.0 ≡ Some i = sym next.2 ∙ is in cc in
        let there = subst (λ x. IsPathIn (mid.path ++ x ∷ [])) same next.1 in
        d.0 (path_back model_of mid old (mid.path ++ i ∷ []) (same_back model_of old mid a.same) (subst (λ P. P (mid.path ++ i ∷ [])) (sym paths_are) there))

  -- It has come to the end.
  pub along_all : (n : ℕ) (now : Walked BootTree) → IsAlong n now → length c ≤ n → FollowsCampaign confirms old c true now
  along_all n now a le = (record { member = a.member; cuts_are = a.cuts_are ∙ take_all n c le }, a.same, a.stands)

-- ---- the child at a cut

module _ (start : PowerOn) (confirms : Bool) (valid : IsLayout start.geometry) (summary : Both) where
  -- A child of the first round, and one of the second, by its label.
  label_early : (s : PowerOn) (i : ℕ) → i < length (ops_of s) → label boots (second_start confirms) (round_one s) i ≡ (1, i)
  label_early s i lt = ap (λ b. if b then (1, i) else (2, i - length (ops_of s))) (inside (length (ops_of s)) i lt)

  label_late : (s : PowerOn) (i : ℕ) → length (ops_of s) ≤ i → label boots (second_start confirms) (round_one s) i ≡ (2, i - length (ops_of s))
  label_late s i le = ap (λ b. if b then (1, i) else (2, i - length (ops_of s))) (outside (length (ops_of s)) i le)

  -- A boot of that start makes few operations.
  few_at : (s : PowerOn) → IsOf start s → length (ops_of s) ≤ most_operations start.rules.grain start.geometry
  few_at s of = omega (arith, few_ops (again start s.content) valid, ap (λ (y : PowerOn). length (ops_of y)) of)

  same_some : (x y : ℕ) → Some x ≡ Some y → x ≡ y
  same_some x y e = cc

  module _ (p : RoundNode PowerOn) (round : summary.round ≡ rounds_of.First) (t : AreSummaries start (kinds.Two confirms) p summary) (number : ℕ) where
    -- It is a node of the first round, whose boot makes so many operations.
    abbrev IsFirst : Type 0
    IsFirst = (s : PowerOn) × (p ≡ round_one s) × (summary.first.outcome.ops ≡ length (ops_of s)) × IsOf start s

    is_first : IsFirst
    is_first = by p t
      where
        by : (q : RoundNode PowerOn) → AreSummaries start (kinds.Two confirms) q summary → (s : PowerOn) × (q ≡ round_one s) × (summary.first.outcome.ops ≡ length (ops_of s)) × IsOf start s
        by (round_one s) u = (s, refl, width_is s summary.first u.first_is.1, u.first_is.0)
        by (round_two began s) u = absurd (let no : rounds_of.First ≡ rounds_of.Second = sym round ∙ u.round_is in cc)

    pub early : number < summary.first.outcome.ops → HasChildOf confirms p (1, number) (Some number)
    early lt =
        let f = is_first in
        subst (λ q. HasChildOf confirms q (1, number) (Some number)) (sym f.1) (λ i some. elim (cases_lt i (length (ops_of f.0))) [
          | inl below ↦ (λ e. ap (λ (z : ℕ × ℕ). Some z.1) (sym e ∙ label_early f.0 i below), λ e. label_early f.0 i below ∙ ap (λ (n : ℕ). (1, n)) (sym (same_some number i e)))
          | inr above ↦ (
            λ e. absurd (let no : 2 ≡ 1 = ap (λ (z : ℕ × ℕ). z.0) (sym (label_late f.0 i above) ∙ e) in omega (arith, no)),
            λ e. absurd (omega (arith, same_some number i e, above, lt, f.2)),
          )
        ])

    pub too_late : summary.first.outcome.ops ≤ number → HasChildOf confirms p (1, number) None
    too_late le =
        let f = is_first in
        subst (λ q. HasChildOf confirms q (1, number) None) (sym f.1) (λ i some. elim (cases_lt i (length (ops_of f.0))) [
          | inl below ↦ (λ e. absurd (let no : i ≡ number = ap (λ (z : ℕ × ℕ). z.1) (sym (label_early f.0 i below) ∙ e) in omega (arith, no, below, le, f.2)), λ e. absurd cc)
          | inr above ↦ (λ e. absurd (let no : 2 ≡ 1 = ap (λ (z : ℕ × ℕ). z.0) (sym (label_late f.0 i above) ∙ e) in omega (arith, no)), λ e. absurd cc)
        ])

    pub beyond_first : (child : Option ℕ) → SomeIff child (summary.first.outcome.ops + number < 2 ^ 32) (summary.first.outcome.ops + number) → HasChildOf confirms p (2, number) child
    beyond_first child sum =
        let f = is_first in
        subst (λ q. HasChildOf confirms q (2, number) child) (sym f.1) (λ i some. elim (cases_lt i (length (ops_of f.0))) [
          | inl below ↦ (
            λ e. absurd (let no : 1 ≡ 2 = ap (λ (z : ℕ × ℕ). z.0) (sym (label_early f.0 i below) ∙ e) in omega (arith, no)),
            λ e. absurd (omega (arith, (there child sum i e).1, below, f.2)),
          )
          | inr above ↦ (
            λ e.
                let index : i - length (ops_of f.0) ≡ number = ap (λ (z : ℕ × ℕ). z.1) (sym (label_late f.0 i above) ∙ e) in
                let sum_is : summary.first.outcome.ops + number ≡ i = omega (arith, index, above, f.2) in
                some_there child sum i sum_is (omega (
                  arith,
                  some,
                  few_at f.0 f.3,
                  few_at (second_start confirms f.0) (of_second start (kinds.Two confirms) f.0 f.3),
                  few_operations start.rules.grain start.geometry valid,
                )),
            λ e.
                let index : i - length (ops_of f.0) ≡ number = omega (arith, (there child sum i e).1, f.2) in
                label_late f.0 i above ∙ ap (λ (n : ℕ). (2, n)) index,
          )
        ])
      where
        there : (n : Option ℕ) → SomeIff n (summary.first.outcome.ops + number < 2 ^ 32) (summary.first.outcome.ops + number) → (i : ℕ) → n ≡ Some i
            → (summary.first.outcome.ops + number < 2 ^ 32) × (summary.first.outcome.ops + number ≡ i)
        there None s i e = absurd cc
        there (Some x) s i e = (s.0, omega (arith, s.1, same_some x i e))

        some_there : (n : Option ℕ) → SomeIff n (summary.first.outcome.ops + number < 2 ^ 32) (summary.first.outcome.ops + number) → (i : ℕ) → summary.first.outcome.ops + number ≡ i
            → i < 2 ^ 32 → n ≡ Some i
        some_there None s i e small = absurd (s (omega (arith, e, small)))
        some_there (Some x) s i e small = ap (λ (n : ℕ). Some n) (omega (arith, s.1, e))
