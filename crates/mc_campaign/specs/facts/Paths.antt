-- Campaigns as paths in the tree of two rounds.
use Rattle.std.specs.Prelude.{◌≡◌, ◌↔◌, ℕ, ◌≤◌, Bool, is_some, List, length, refl, Option, Some}
use Rattle.std.proofs.Common.{arith, sym, ap, subst, ◌∙◌}
use Rattle.mc_tree.specs.Tree.{landed, Allowed, RoundNode, round_one, round_two, in_both, pairs, PairsPrecede}
use Rattle.mc_tree.specs.Tree as tree
use Rattle.mc_tree.specs.facts.Rounds.{both_allowed, both_first, both_labels, both_length, both_second, first_of, pairs_precede, parts, paths_precede, second_of}
use Rattle.mc_flash.specs.Flash.{Content}
use Rattle.mc_boot.specs.{Restart.{confirmed_if}, Outcome.{Report, outcome_of, after, left_by}, facts.Run.{left_defined}}
use Rattle.mc_explore.specs.{facts.Occurring.{allowed_after, allowed_occurs, landed_again, occurs_allowed}, Schedules.{IsReplayed}}
use Rattle.mc_explore.specs.Boots.{boots, content_or}
use Rattle.mc_explore.specs.Schedules as schedules
use Rattle.mc_campaign.specs.Campaigns.{AreReplayed, CanOccur, IsMember, Precedes, in_round}
use Rattle.mc_campaign.specs.Rounds.{IsPathOf, cuts_along}
use Rattle.mc_campaign.specs.facts.Cuts.{all_first, all_second, by_rounds, ordered, pairs_length}
use Rattle.mc_boot.specs.Plan.{PowerOn, again}
use Rattle.mc_explore.specs.Rounds.{second_start, tree_of}
use Rattle.mc_explore.specs.inner.BootTree.{began_at, later_from}

pub some_same : {A : Type 0} (x y : A) → Some x ≡ Some y → x ≡ y
some_same x y e = cc

module _ (confirms : Bool) where
  -- What the uncut boot leaves, once the image has confirmed itself.
  pub begins : (s u : PowerOn) (left : Content) → u ≡ again s u.content → left_by u ≡ Some left → second_start confirms u ≡ again s (confirmed_if confirms s.geometry left)
  unfolding second_start
  begins s u left of is =
      ap (λ (o : Option Content). again u (confirmed_if confirms u.geometry (content_or u.content o))) is ∙ ap (λ (y : PowerOn). again y (confirmed_if confirms y.geometry left)) of

  module _ (s : PowerOn) where
    -- A campaign whose cuts are allowed in each round can occur.
    both_occur : (prefix later : List ℕ) → Allowed boots s prefix → Allowed boots (second_start confirms (landed boots s prefix)) later → CanOccur s confirms (pairs prefix later)
    both_occur prefix later a b =
        let cut : PowerOn = landed boots s prefix in
        let left = left_defined cut in
        let x = again s (confirmed_if confirms s.geometry left.0) in
        record {
          in_order = ordered prefix later;
          cut = cut.content;
          first = ap (after s) (all_first prefix later) ∙ allowed_after s prefix a;
          left = left.0;
          left_is = ap left_by (sym (landed_again s prefix)) ∙ left.1;
          second = subst (schedules.CanOccur x) (sym (all_second prefix later))
              (allowed_occurs x later (subst (λ y. Allowed boots y later) (begins s cut left.0 (landed_again s prefix) left.1) b));
        }

    -- And the other way round.
    pub first_allowed : (c : List (ℕ × ℕ)) → CanOccur s confirms c → Allowed boots s (in_round 1 c)
    first_allowed c o = occurs_allowed s (in_round 1 c) (ap (λ (x : Option Content). is_some x) o.first)

    pub second_allowed : (c : List (ℕ × ℕ)) → CanOccur s confirms c → Allowed boots (second_start confirms (landed boots s (in_round 1 c))) (in_round 2 c)
    second_allowed c o =
        let u : PowerOn = landed boots s (in_round 1 c) in
        let of = landed_again s (in_round 1 c) in
        let lands : u.content ≡ o.cut = some_same _ _ (sym (allowed_after s (in_round 1 c) (first_allowed c o)) ∙ o.first) in
        let left : left_by u ≡ Some o.left = ap left_by (of ∙ ap (again s) lands) ∙ o.left_is in
        subst (λ x. Allowed boots x (in_round 2 c)) (sym (begins s u o.left of left)) (occurs_allowed (again s (confirmed_if confirms s.geometry o.left)) (in_round 2 c) o.second)

    -- The outcomes of a campaign are those of the boots from where its rounds end.
    pub are_replayed : (c : List (ℕ × ℕ)) → CanOccur s confirms c → (one two : Report) → outcome_of (landed boots s (in_round 1 c)) ≡ Some one
        → outcome_of (landed boots (second_start confirms (landed boots s (in_round 1 c))) (in_round 2 c)) ≡ Some two → (z : Content) × AreReplayed s confirms c one two z
    are_replayed c o one two one_is two_is =
        let u : PowerOn = landed boots s (in_round 1 c) in
        let y : PowerOn = second_start confirms u in
        let v : PowerOn = landed boots y (in_round 2 c) in
        let middle = left_defined u in
        let left = left_defined v in
        let u_is = landed_again s (in_round 1 c) in
        let v_is = landed_again y (in_round 2 c) in
        let later = allowed_after y (in_round 2 c) (second_allowed c o) in (
          left.0,
          record {
            middle = middle.0;
            first = record {
              cut = u.content;
              occurs = allowed_after s (in_round 1 c) (first_allowed c o);
              outcome_is = ap outcome_of (sym u_is) ∙ one_is;
              left = ap left_by (sym u_is) ∙ middle.1;
            };
            second = subst (λ x. IsReplayed x (in_round 2 c) two left.0) (begins s u middle.0 u_is middle.1)
                (record { cut = v.content; occurs = later; outcome_is = ap outcome_of (sym v_is) ∙ two_is; left = ap left_by (sym v_is) ∙ left.1 });
          },
        )

    pub path_of : (bound : ℕ) (c : List (ℕ × ℕ)) → IsMember s confirms bound c → (path : List ℕ) × IsPathOf s confirms bound path c
    path_of bound c m =
        let one = in_round 1 c in
        let two = in_round 2 c in
        let a = first_allowed c m.1 in
        let path : List ℕ = in_both boots (second_start confirms) s one two in
        let whole = by_rounds c m.1.in_order in
        let at_most : length path ≤ bound = omega (arith, m.0, both_length boots (second_start confirms) s one two, pairs_length one two, ap (λ l. length l) whole) in (
          path,
          record {
            member = (at_most, both_allowed boots (second_start confirms) s one two a (second_allowed c m.1));
            cuts_are = both_labels boots (second_start confirms) s one two a ∙ whole;
          },
        )

    -- Each path is that of the cuts along it, round by round.
    pub listed_along : (bound : ℕ) (path : List ℕ) → tree.IsMember (tree_of confirms) (round_one s) bound path
        → IsMember s confirms bound (cuts_along confirms s path)
        × (path ≡ in_both boots (second_start confirms) s (in_round 1 (cuts_along confirms s path)) (in_round 2 (cuts_along confirms s path)))
    listed_along bound path m =
        let b = parts boots (second_start confirms) s path m.1 in
        let cuts = cuts_along confirms s path in
        let is : cuts ≡ pairs b.path b.later = ap (cuts_along confirms s) b.is ∙ both_labels boots (second_start confirms) s b.path b.later b.path_allowed in
        let one : in_round 1 cuts ≡ b.path = ap (in_round 1) is ∙ all_first b.path b.later in
        let two : in_round 2 cuts ≡ b.later = ap (in_round 2) is ∙ all_second b.path b.later in
        let at_most : length cuts ≤ bound =
        omega (arith, m.0, ap (λ l. length l) is, ap (λ l. length l) b.is, both_length boots (second_start confirms) s b.path b.later, pairs_length b.path b.later) in (
          (at_most, subst (CanOccur s confirms) (sym is) (both_occur b.path b.later b.path_allowed b.later_allowed)),
          b.is ∙ ap (λ l. in_both boots (second_start confirms) s l b.later) (sym one) ∙ ap (in_both boots (second_start confirms) s (in_round 1 cuts)) (sym two),
        )

    pub member_of : (bound : ℕ) (c : List (ℕ × ℕ)) (path : List ℕ) → IsPathOf s confirms bound path c → IsMember s confirms bound c
    member_of bound c path p = subst (IsMember s confirms bound) p.cuts_are (listed_along bound path p.member).0

    pub same_order : (bound : ℕ) (path other : List ℕ) (c d : List (ℕ × ℕ)) → IsPathOf s confirms bound path c → IsPathOf s confirms bound other d
        → Precedes c d ↔ tree.Precedes path other
    same_order bound path other c d p q = (
      λ before.
          paths_precede boots (second_start confirms) (round_one s) path other
          (subst (λ x. PairsPrecede x (cuts_along confirms s other)) (sym p.cuts_are) (subst (PairsPrecede c) (sym q.cuts_are) before)),
      λ before.
          subst (PairsPrecede c) q.cuts_are
          (subst (λ x. PairsPrecede x (cuts_along confirms s other)) p.cuts_are (pairs_precede boots (second_start confirms) (round_one s) path other before)),
    )

    -- And those of a path are what the boots come to from the node at its end.
    ended_at : (p : RoundNode PowerOn) → (began_at p ≡ first_of boots (second_start confirms) p) × (later_from confirms p ≡ second_of boots (second_start confirms) p)
    ended_at (round_one s) = (refl, refl)
    ended_at (round_two began s) = (refl, refl)

    pub replayed_at : (bound : ℕ) (path : List ℕ) (c : List (ℕ × ℕ)) (one two : Report) → IsPathOf s confirms bound path c
        → outcome_of (began_at (landed (tree_of confirms) (round_one s) path)) ≡ Some one
        → outcome_of (later_from confirms (landed (tree_of confirms) (round_one s) path)) ≡ Some two → (z : Content) × AreReplayed s confirms c one two z
    replayed_at bound path c one two p one_is two_is =
        let along = listed_along bound path p.member in
        let d = cuts_along confirms s path in
        let end : RoundNode PowerOn = landed (tree_of confirms) (round_one s) (in_both boots (second_start confirms) s (in_round 1 d) (in_round 2 d)) in
        let there : landed (tree_of confirms) (round_one s) path ≡ end = ap (landed (tree_of confirms) (round_one s)) along.1 in
        let allowed = first_allowed d along.0.1 in
        let at_one : began_at (landed (tree_of confirms) (round_one s) path) ≡ landed boots s (in_round 1 d) =
        ap began_at there ∙ (ended_at end).0 ∙ both_first boots (second_start confirms) s (in_round 1 d) (in_round 2 d) allowed in
        let at_two : later_from confirms (landed (tree_of confirms) (round_one s) path) ≡ landed boots (second_start confirms (landed boots s (in_round 1 d))) (in_round 2 d) =
        ap (later_from confirms) there ∙ (ended_at end).1 ∙ both_second boots (second_start confirms) s (in_round 1 d) (in_round 2 d) allowed in
        subst (λ d. (z : Content) × AreReplayed s confirms d one two z) p.cuts_are
        (are_replayed d along.0.1 one two (ap outcome_of (sym at_one) ∙ one_is) (ap outcome_of (sym at_two) ∙ two_is))
