-- Where what lies below a child of two rounds lies among what lies below its parent.
use Rattle.std.proofs.lemmas.Bool.{cases_lt}
use Rattle.std.proofs.Common.{IfSome, inl, inr, List, [], ◌++◌, ◌∷◌, None, Option, Some, ap, arith, length, refl, subst, suc, sym, zero, ℕ, ◌+◌, ◌-◌, ◌<◌, ◌∙◌, ◌≡◌, ◌≤◌, ◌⊎◌}
use Rattle.mc_boot.specs.{Outcome.{Report, ops_of, shown}, Plan.{PowerOn}, SharedTail.{IsMovedBy, index_in_parent}, declared.boot.Boot.{Boot}}
use Rattle.mc_boot.specs.{declared.outcome.BootResult.{BootResult}, declared.shared_tail.SharedTail.{SharedTail}, facts.Run.{outcome_defined}}
use Rattle.mc_explore.proofs.BootWays.{child, child_began, first_child, later_child, same_start}
use Rattle.mc_explore.specs.{declared.rounds.Both.{Both}, declared.rounds.Rounds.{Rounds}, inner.BootEnds.{end_at, ends_by, report_from, report_of, result_of}}
use Rattle.mc_explore.specs.{declared.rounds.ChildBoot.{ChildBoot}, inner.BootEnds.{IsLikeNode, LieIn}, inner.BootTree.{began_at, begins_of, boot_model, confirms_of, later_from, later_number, model_of, root_of}}
use Rattle.mc_explore.specs.{Right.{judged}, declared.expectation.Expectation.{Expectation}, declared.one_round.Summary.{Summary}}
use Rattle.mc_explore.specs.{facts.Tails.{late_index, placed_at}, facts.Totals.{totals_weigh}, inner.OneRound.{GoesOnIn, round_model}}
use Rattle.mc_explore.specs.{Boots.{at_cut, boots}, Rounds.{second_start, tree_of}, declared.rounds.BootTree.{BootTree}}
use Rattle.mc_explore.specs.{inner.LastCuts.{AreLike}, inner.Table.{IsTailOf}, inner.Totals.{Totals, report_totals, totals}}
use Rattle.mc_flash.specs.Usage.{Seen}
use Rattle.mc_tree.specs.{Tree.{RoundNode, round_one, landed, round_two}, facts.Order.{landed-push}, facts.Rounds.{child_second}, facts.Weighed.{from_alike, path_shared}}
use Rattle.mc_tree.specs.inner.Weights.{IsShared, WeighAlike, from, path_tree, weight}
use Rattle.mc_walk.specs.TreeModel.{IsChildOf}
use Rattle.mc_explore.specs.declared.rounds.ChildBoot.TheVariants as child_boots
use Rattle.mc_explore.specs.declared.rounds.Round.TheVariants as rounds_of

some_same : {A : Type 0} (x y : A) → Some x ≡ Some y → x ≡ y
some_same x y e = cc

module _ (start : PowerOn) (rounds : Rounds) where
  -- The children of two rounds as those of one.

  module _ (parent child_summary : Both) (seen : Seen) (i : ℕ) where
    pub first_child_of : (p : RoundNode PowerOn) (boot : Boot) (ops : ℕ) (later : Summary)
        → IsChildOf (boot_model start rounds) p i (child_boots.First boot ops later) parent child_summary seen
        → (s : PowerOn) × (p ≡ round_one s) × IsChildOf (round_model start) s i boot parent.first child_summary.first seen
    first_child_of (round_one s) boot ops later is = grind arith
    first_child_of (round_two began s) boot ops later is = absurd is.at_is.on_is

    pub later_child_of : (p : RoundNode PowerOn) (boot : Boot) → IsChildOf (boot_model start rounds) p i (child_boots.Second boot) parent child_summary seen
        → IsChildOf (round_model start) (later_from (confirms_of rounds) p) (later_number p i) boot parent.second child_summary.second seen
    later_child_of p boot is = grind arith

  pub report_is : (s : PowerOn) (summary : Summary) → (round_model start).IsSummary s summary → report_from s ≡ shown summary.outcome
  report_is s summary is = some_same _ _ (sym (outcome_defined s).1 ∙ is.1.outcome_is)

  abbrev next : PowerOn → PowerOn
  next = second_start (confirms_of rounds)

  like_both : (p a q b : RoundNode PowerOn) → p ≡ a → q ≡ b → IsLikeNode a b → IsLikeNode p q
  like_both p a q b one other like = subst (λ n. IsLikeNode n q) (sym one) (subst (λ n. IsLikeNode a n) (sym other) like)

  -- The children of a child in the first round.
  module _ (s : PowerOn) (i : ℕ) (x : SharedTail) (goes : GoesOnIn s i x) where
    abbrev u : PowerOn
    u = boots.child s i

    there : next u ≡ next s
    there = same_start (confirms_of rounds) s (at_cut s i) goes.left

    many : length (ops_of u) + x.kept ≡ length (ops_of s)
    many = goes.width

    all : length (ops_of (next u)) ≡ length (ops_of (next s))
    all = ap (λ (z : PowerOn). length (ops_of z)) there

    -- Those of the second round stand in their order.
    later_index : (j : ℕ) → length (ops_of u) ≤ j → index_in_parent x j ≡ x.kept + j
    later_index j le = late_index s u.content x goes j (omega (arith, goes.at_most, le))

    like_at : (j : ℕ) → (j < length (ops_of u)) ⊎ (length (ops_of u) ≤ j) → IsLikeNode (child (confirms_of rounds) (round_one u) j) (child (confirms_of rounds) (round_one s) (index_in_parent x j))
    like_at j (inl early) =
        like_both _ _ _ _ (first_child (confirms_of rounds) u j early) (first_child (confirms_of rounds) s (index_in_parent x j) (goes.within j early)) (placed_at s u.content x goes j early)
    like_at j (inr late) =
        let far : length (ops_of s) ≤ index_in_parent x j = omega (arith, many, later_index j late, late) in
        let number : index_in_parent x j - length (ops_of s) ≡ j - length (ops_of u) = omega (arith, many, later_index j late, late) in
        let same : boots.child (next u) (j - length (ops_of u)) ≡ boots.child (next s) (index_in_parent x j - length (ops_of s)) =
        ap (λ (z : PowerOn). boots.child z (j - length (ops_of u))) there ∙ ap (boots.child (next s)) (sym number) in
        like_both _ _ _ _ (child_second boots next u j late) (child_second boots next s (index_in_parent x j) far) same

    pub first_lies : LieIn (confirms_of rounds) (round_one s) (round_one u) x
    first_lies = record {
      width = omega (arith, many, all);
      at_most = omega (arith, goes.at_most);
      within = λ j lt. within_at j lt (cases_lt j (length (ops_of u)));
      like = λ j lt. like_at j (cases_lt j (length (ops_of u)));
    }
      where
        within_at : (j : ℕ) → j < length (ops_of u) + length (ops_of (next u)) → (j < length (ops_of u)) ⊎ (length (ops_of u) ≤ j)
            → index_in_parent x j < length (ops_of s) + length (ops_of (next s))
        within_at j lt (inl early) = omega (arith, goes.within j early)
        within_at j lt (inr late) = omega (arith, lt, many, all, later_index j late)

  -- Those of a child in the second round: of a node of the second, or of one of the first, among whose children those of the first round
  -- stand before it.
  module _ (v : PowerOn) (i : ℕ) (x : SharedTail) (goes : GoesOnIn v i x) where
    abbrev w : PowerOn
    w = boots.child v i

    pub second_lies : (began : PowerOn) → LieIn (confirms_of rounds) (round_two began v) (round_two began w) x
    second_lies began = record {
      width = goes.width;
      at_most = goes.at_most;
      within = goes.within;
      like = placed_at v w.content x goes;
    }

    pub moved_lies : (s : PowerOn) (y : SharedTail) → v ≡ next s → IsMovedBy (length (ops_of s)) x y → LieIn (confirms_of rounds) (round_one s) (round_two s w) y
    moved_lies s y is moved =
        let first_count : ℕ = length (ops_of s) in
        let far : (n : ℕ) → child (confirms_of rounds) (round_one s) (n + first_count) ≡ round_two s (boots.child v n) =
        λ n.
        let back : n + first_count - first_count ≡ n = omega arith in
        child_second boots next s (n + first_count) (omega arith) ∙ ap (λ (m : ℕ). round_two s (boots.child (next s) m)) back
        ∙ ap (λ (z : PowerOn). round_two s (boots.child z n)) (sym is) in
        record {
          width = omega (arith, goes.width, moved.kept_is, ap (λ z. length (ops_of z)) is);
          at_most = omega (arith, goes.at_most, moved.erases_is);
          within = λ j lt. omega (arith, moved.index_is j, goes.within j lt, ap (λ z. length (ops_of z)) is);
          like = λ j lt.
              like_both (child (confirms_of rounds) (round_two s w) j) (round_two s (boots.child w j))
              (child (confirms_of rounds) (round_one s) (index_in_parent y j)) (round_two s (boots.child v (index_in_parent x j))) refl
              (ap (child (confirms_of rounds) (round_one s)) (moved.index_is j) ∙ far (index_in_parent x j)) (placed_at v w.content x goes j lt);
        }

  -- What lies below them.
  module _ (e : Expectation) where
    abbrev pub own : RoundNode PowerOn → Totals
    own p = report_totals (judged e (end_at rounds p))

    abbrev pub Alike : RoundNode PowerOn → RoundNode PowerOn → Type 0
    Alike = WeighAlike totals (tree_of (confirms_of rounds)) own

    -- Nodes of the second round weigh the same where the first rounds have the same result.
    same_second : (a b : PowerOn) → (report_from a).result ≡ (report_from b).result → (k : ℕ) (v : PowerOn)
        → weight totals (tree_of (confirms_of rounds)) own k (round_two a v) ≡ weight totals (tree_of (confirms_of rounds)) own k (round_two b v)
    same_second a b same zero v = ap (λ (x : BootResult). report_totals (judged e (record (report_from v) { result = result_of rounds x (report_from v).result }))) same
    same_second a b same (suc k) v =
        let here : own (round_two a v) ≡ own (round_two b v) =
        ap (λ (x : BootResult). report_totals (judged e (record (report_from v) { result = result_of rounds x (report_from v).result }))) same in
        let below =
        from_alike totals totals_weigh (λ i. weight totals (tree_of (confirms_of rounds)) own k (round_two a (boots.child v i)))
        (λ i. weight totals (tree_of (confirms_of rounds)) own k (round_two b (boots.child v i)))
        (length (ops_of v)) 0 (λ i le lt. same_second a b same k (boots.child v i)) in
        ap (λ (x : Totals). totals.merged x (from totals (λ i. weight totals (tree_of (confirms_of rounds)) own k (round_two a (boots.child v i))) (length (ops_of v)) 0)) here
        ∙ ap (totals.merged (own (round_two b v))) below

    -- So do like nodes, where that is so of those of the second round.
    like_weigh : (p q : RoundNode PowerOn) → IsLikeNode p q → (report_from (began_at p)).result ≡ (report_from (began_at q)).result → Alike p q
    like_weigh (round_one x) (round_one y) like same k = ap (λ z. weight totals (tree_of (confirms_of rounds)) own k (round_one z)) like
    like_weigh (round_one x) (round_two began y) like same k = absurd like
    like_weigh (round_two began x) (round_one y) like same k = absurd like
    like_weigh (round_two began x) (round_two other y) like same k = same_second began other same k x ∙ ap (λ z. weight totals (tree_of (confirms_of rounds)) own k (round_two other z)) like

    -- And their children, where the first rounds of both end alike.
    pub lies_shared : (p q : RoundNode PowerOn) (x : SharedTail) → LieIn (confirms_of rounds) p q x → (report_from (began_at q)).result ≡ (report_from (began_at p)).result
        → IsShared totals (tree_of (confirms_of rounds)) own p q x.kept x.erases (index_in_parent x)
    lies_shared p q x lie same = record {
      width = lie.width;
      at_most = lie.at_most;
      within = λ j lt. lie.within j (omega (arith, lt, lie.at_most));
      early = λ j lt. child_weighs p q j (index_in_parent x j) (lie.like j (omega (arith, lt, lie.at_most))) same;
      late = λ j le lt.
          let at : index_in_parent x j ≡ x.kept + j = grind arith in
          child_weighs p q j (x.kept + j) (subst (λ n. IsLikeNode (child (confirms_of rounds) q j) (child (confirms_of rounds) p n)) at (lie.like j lt)) same;
    }
      where
        child_weighs : (p q : RoundNode PowerOn) (j n : ℕ) → IsLikeNode (child (confirms_of rounds) q j) (child (confirms_of rounds) p n)
            → (report_from (began_at q)).result ≡ (report_from (began_at p)).result → Alike (child (confirms_of rounds) q j) (child (confirms_of rounds) p n)
        child_weighs p q j n like same = like_began (child (confirms_of rounds) q j) (child (confirms_of rounds) p n) like (child_began (confirms_of rounds) q j) (child_began (confirms_of rounds) p n)
          where
            like_began : (a b : RoundNode PowerOn) → IsLikeNode a b → ((s v : PowerOn) → a ≡ round_two s v → s ≡ began_at q) → ((s v : PowerOn) → b ≡ round_two s v → s ≡ began_at p) → Alike a b
            like_began (round_one x) (round_one y) like of other = like_weigh (round_one x) (round_one y) like (ap (λ z. (report_from z).result) like)
            like_began (round_one x) (round_two began y) like of other = absurd like
            like_began (round_two began x) (round_one y) like of other = absurd like
            like_began (round_two s x) (round_two z y) like of other =
                like_weigh (round_two s x) (round_two z y) like (ap (λ r. (report_from r).result) (of s x refl) ∙ same ∙ sym (ap (λ r. (report_from r).result) (other z y refl)))

  -- As what a walk finds.
  module _ (parent child_summary : Both) (seen : Seen) where
    -- Of a child that is on that way, the children lie so.
    abbrev pub AreTails : ChildBoot → SharedTail → Type 0
    AreTails at x = (p : RoundNode PowerOn) (i : ℕ) → IsChildOf (boot_model start rounds) p i at parent child_summary seen → LieIn (confirms_of rounds) p (child (confirms_of rounds) p i) x

    pub tails_first : (boot : Boot) (ops : ℕ) (later : Summary) (found : Option SharedTail)
        → IfSome found (λ x. (s : PowerOn) (i : ℕ) → IsChildOf (round_model start) s i boot parent.first child_summary.first seen → GoesOnIn s i x)
        → IfSome found (AreTails (child_boots.First boot ops later))
    tails_first boot ops later None tails = tt
    tails_first boot ops later (Some x) tails = λ p i here.
        let at = first_child_of parent child_summary seen i p boot ops later here in
        let there : child (confirms_of rounds) p i ≡ round_one (boots.child at.0 i) = ap (λ q. child (confirms_of rounds) q i) at.1 ∙ first_child (confirms_of rounds) at.0 i at.2.some in
        subst (λ q. LieIn (confirms_of rounds) p q x) (sym there) (subst (λ q. LieIn (confirms_of rounds) q (round_one (boots.child at.0 i)) x) (sym at.1) (first_lies at.0 i x (tails at.0 i at.2)))

    pub tails_later : (boot : Boot) (x : SharedTail) (found : Option SharedTail)
        → ((s : PowerOn) (i : ℕ) → IsChildOf (round_model start) s i boot parent.second child_summary.second seen → GoesOnIn s i x)
        → ((s : PowerOn) → (round_model start).IsSummary s parent.first → parent.round ≡ rounds_of.First → IfSome found (IsMovedBy (length (ops_of s)) x))
        → (parent.round ≡ rounds_of.Second → found ≡ Some x)
        → IfSome found (AreTails (child_boots.Second boot))
    tails_later boot x None goes moved same = tt
    tails_later boot x (Some y) goes moved same = λ p i here. by p i here
      where
        by : (p : RoundNode PowerOn) (i : ℕ) → IsChildOf (boot_model start rounds) p i (child_boots.Second boot) parent child_summary seen
            → LieIn (confirms_of rounds) p (child (confirms_of rounds) p i) y
        by (round_one s) i here =
            let at = later_child_of parent child_summary seen i (round_one s) boot here in
            subst (λ q. LieIn (confirms_of rounds) (round_one s) q y) (sym (later_child (confirms_of rounds) (round_one s) i here.at_is.on_is.0))
            (moved_lies (next s) (later_number (round_one s) i) x (goes (next s) (later_number (round_one s) i) at) s y refl (moved s here.parent_is.first_is here.parent_is.round_is))
        by (round_two began v) i here =
            let at = later_child_of parent child_summary seen i (round_two began v) boot here in
            let unmoved : y ≡ x = some_same y x (same here.parent_is.round_is) in
            subst (λ z. LieIn (confirms_of rounds) (round_two began v) (round_two began (boots.child v i)) z) (sym unmoved) (second_lies v i x (goes v i at) began)

    -- What lies below a child, where the first rounds end alike.
    pub tail_weighs : (at : ChildBoot) (found : Option SharedTail) → child_summary.first.outcome.result ≡ parent.first.outcome.result → IfSome found (AreTails at)
        → IfSome found (λ x. (e : Expectation) (path : List ℕ) (i : ℕ)
        → IsChildOf (boot_model start rounds) (landed (tree_of (confirms_of rounds)) (root_of rounds start) path) i at parent child_summary seen
        → IsTailOf (path_tree (tree_of (confirms_of rounds)) (root_of rounds start)) (λ l. end_at rounds (landed (tree_of (confirms_of rounds)) (root_of rounds start) l)) e path i x)
    tail_weighs at None same tails = tt
    tail_weighs at (Some x) same tails = λ e path i here.
        let p : RoundNode PowerOn = landed (tree_of (confirms_of rounds)) (root_of rounds start) path in
        let q : RoundNode PowerOn = child (confirms_of rounds) p i in
        let result = ap (λ (o : Report). o.result) (report_is (began_at q) child_summary.first here.child_is.first_is) ∙ same
        ∙ sym (ap (λ (o : Report). o.result) (report_is (began_at p) parent.first here.parent_is.first_is)) in
        path_shared totals totals_weigh (tree_of (confirms_of rounds)) (root_of rounds start) (own e) path i x.kept x.erases (index_in_parent x) (lies_shared e p q x (tails p i here) result)

    -- As paths.
    pub tail_likes : (at : ChildBoot) (found : Option SharedTail) → IfSome found (AreTails at)
        → IfSome found (λ x. (path : List ℕ) (i : ℕ) → IsChildOf (boot_model start rounds) (landed (tree_of (confirms_of rounds)) (root_of rounds start) path) i at parent child_summary seen
        → AreLike (boot_model start rounds) (λ l m. IsLikeNode (landed (tree_of (confirms_of rounds)) (root_of rounds start) l) (landed (tree_of (confirms_of rounds)) (root_of rounds start) m))
        path (path ++ i ∷ []) x)
    tail_likes at None tails = tt
    tail_likes at (Some x) tails = λ path i here.
        let node : List ℕ → RoundNode PowerOn = landed (tree_of (confirms_of rounds)) (root_of rounds start) in
        let push = landed-push (tree_of (confirms_of rounds)) (root_of rounds start) in
        let lie = subst (λ q. LieIn (confirms_of rounds) (node path) q x) (sym (push path i)) (tails (node path) i here) in
        record {
          within = lie.within;
          like = λ j lt. like_both _ _ _ _ (push (path ++ i ∷ []) j) (push path (index_in_parent x j)) (lie.like j lt);
        }

-- How a path ends that leads to a node with that summary.
abbrev pub ends_of : BootTree → Both → Report
ends_of t both = ends_by t.rounds (shown both.first.outcome) (shown both.second.outcome)

pub ended_so : (t : BootTree) (both : Both) (path : List ℕ) → (model_of t).IsSummary (landed (model_of t).tree (model_of t).root path) both → ends_of t both ≡ report_of t path
unfolding model_of
ended_so t both path is =
    let p = landed (model_of t).tree (model_of t).root path in
    let one = report_is (begins_of t) t.rounds (began_at p) both.first is.first_is in
    let two = report_is (begins_of t) t.rounds (later_from (confirms_of t.rounds) p) both.second is.second_is in
    ap (λ x. ends_by t.rounds x (shown both.second.outcome)) (sym one) ∙ ap (ends_by t.rounds (report_from (began_at p))) (sym two)

-- Paths to one node end alike.
pub same_end : (t : BootTree) (path other : List ℕ) → landed (model_of t).tree (model_of t).root path ≡ landed (model_of t).tree (model_of t).root other → report_of t path ≡ report_of t other
unfolding model_of
same_end t path other same = ap (end_at t.rounds) same
