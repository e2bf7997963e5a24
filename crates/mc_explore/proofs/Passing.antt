-- A walk that passes the nodes below a node, child by child.
use Rattle.std.proofs.lemmas.Bool.{cases_lt}
use Rattle.std.proofs.Common.{Bool, inl, inr, refl, ◌-◌, IfSome, List, None, Option, Some, [], ap, append-nil, append_assoc, arith, false, subst, suc, sym, true, zero, ℕ, ◌++◌, ◌+◌, ◌<◌, ◌∙◌, ◌∷◌, ◌≡◌, ◌≤◌, ◌⊎◌}
use Rattle.std.proofs.lemmas.List.{same_from_push}
use Rattle.mc_boot.specs.{Outcome.{Report}, declared.shared_tail.SharedTail.{SharedTail}}
use Rattle.mc_explore.proofs.Counting.{Census}
use Rattle.mc_explore.specs.{Right.{judged}, declared.expectation.Expectation.{Expectation}, facts.Children.{HasCome, IsAtChild, can_pass, child_here, come_on, reached}}
use Rattle.mc_explore.specs.{facts.Totals.{totals_weigh}, inner.Table.{CanPass, GoesOnAlike, HasSameLimits, HasWeights, IsAmong, IsTailOf, PassesAlike, PassesBelow, ReachesChild, own_totals, paths_of, weigh, weigh_below}, inner.Totals.{Totals, cut_off, report_totals, totals}}
use Rattle.mc_tree.specs.{Tree.{Allowed, landed}, facts.Order.{HasPassed, landed-push, next_child, passed_all, some_child}, facts.Weighed.{twins_weigh}}
use Rattle.mc_tree.specs.inner.Weights.{AreTwins, WeighAlike, path_tree}
use Rattle.mc_walk.specs.{TreeModel.{IsChildOf, TreeModel}, Walks.{Climbs, HasPassedTwins, IsBeforeTwin, IsLastStep, IsSame, IsThere, Walked}}
use Rattle.mc_walk.specs.declared.frame.Frame.{Frame}

module _ {N A T B : Type 0} (k : TreeModel N A T) where
  pub climbs_on : (number : ℕ) (old new : Walked B) (went : Bool) → 1 ≤ number → Climbs k old went new → ReachesChild k number old new
  climbs_on zero old new went some climbs = absurd (omega (arith, some))
  climbs_on (suc n) old new true some climbs = λ l passed listed.
      let one : suc n ≡ n + 1 = omega arith in
      let P : ℕ → Type 0 = λ m. Allowed k.tree k.root (l ++ m ∷ []) in
      let next = next_child k.tree k.root l n old.path new.path passed (subst P one listed.1) climbs.0 in
      (next ∙ ap (λ m. l ++ m ∷ []) (sym one), climbs.1, climbs.2)
  climbs_on (suc n) old new false some climbs = λ l passed listed.
      let one : suc n ≡ n + 1 = omega arith in
      let P : ℕ → Type 0 = λ m. Allowed k.tree k.root (l ++ m ∷ []) in
      absurd (some_child k.tree k.root l n old.path passed (subst P one listed.1) climbs.0)

  -- Where what lies below it lies among what lies below its parent.
  pub tail_at : (w : Walked B) (f : Frame A T) (summary : T) (report_of : List ℕ → Report) → IsThere k w summary → IsLastStep k w f → (found : Option SharedTail)
      → IfSome found (λ x. (e : Expectation) (path : List ℕ) (i : ℕ) → IsChildOf k (landed k.tree k.root path) i f.at f.parent summary w.seen
      → IsTailOf (path_tree k.tree k.root) report_of e path i x)
      → IfSome found (λ x. (e : Expectation) (l : List ℕ) (number : ℕ) → w.path ≡ l ++ number ∷ [] → IsTailOf (paths_of k) report_of e l number x)
  tail_at w f summary report_of there step None found = tt
  tail_at w f summary report_of there step (Some x) found = λ e l number is.
      let same = same_from_push step.before l f.number number (sym step.path_is ∙ is) in
      let at = subst (λ p. IsChildOf k (landed k.tree k.root p) f.number f.at f.parent summary w.seen) same.0 (child_here k w f summary there step) in
      found e l number (subst (λ i. IsChildOf k (landed k.tree k.root l) i f.at f.parent summary w.seen) same.1 at)

module _ {N A T : Type 0} (k : TreeModel N A T) where
  -- A child that is a twin, and its path ends as that of another one does.
  module _ (summary : T) (report_of : List ℕ → Report) (outcome : Report) (ended : (path : List ℕ) → k.IsSummary (landed k.tree k.root path) summary → outcome ≡ report_of path)
      (same_end : (path other : List ℕ) → landed k.tree k.root path ≡ landed k.tree k.root other → report_of path ≡ report_of other) (e : Expectation) where
    pub weigh_alike : (l : List ℕ) (m n : ℕ) → k.IsSummary (k.tree.child (landed k.tree k.root l) m) summary → k.IsSummary (k.tree.child (landed k.tree k.root l) n) summary
        → AreTwins k.tree (k.tree.child (landed k.tree k.root l) m) (k.tree.child (landed k.tree k.root l) n)
        → WeighAlike totals (paths_of k) (own_totals (paths_of k) report_of e) (l ++ m ∷ []) (l ++ n ∷ [])
    weigh_alike l m n one other twins =
        let P : N → Type 0 = λ x. k.IsSummary x summary in
        let here = ended (l ++ m ∷ []) (subst P (sym (landed-push k.tree k.root l m)) one) in
        let there = ended (l ++ n ∷ []) (subst P (sym (landed-push k.tree k.root l n)) other) in
        let moved : AreTwins k.tree (landed k.tree k.root (l ++ m ∷ [])) (landed k.tree k.root (l ++ n ∷ [])) = rw (landed-push k.tree k.root l m, landed-push k.tree k.root l n) twins in
        twins_weigh totals totals_weigh k.tree k.root (own_totals (paths_of k) report_of e) (λ p q e'. ap (λ o. report_totals (judged e o)) (same_end p q e')) (l ++ m ∷ []) (l ++ n ∷ [])
        (ap (λ o. report_totals (judged e o)) (sym here ∙ there)) moved

    -- The next child of the node before is one.
    pub alike_next : {B : Type 0} (w : Walked B) → IsBeforeTwin k w summary → (l : List ℕ) (number : ℕ) → w.path ≡ l ++ number ∷ []
        → WeighAlike totals (paths_of k) (own_totals (paths_of k) report_of e) (l ++ (number + 1) ∷ []) (l ++ number ∷ [])
    alike_next w before l number is =
        let same = same_from_push before.before l before.number number (sym before.path_is ∙ is) in
        let Q : List ℕ → ℕ → Type 0 = λ x i. WeighAlike totals (paths_of k) (own_totals (paths_of k) report_of e) (x ++ (i + 1) ∷ []) (x ++ i ∷ []) in
        subst (Q l) same.1
        (subst (λ x. Q x before.number) same.0 (weigh_alike before.before (before.number + 1) before.number before.twin.summary_is before.summary_is before.twin.twins))

    -- So is each over which a walk went on.
    pub alike_passed : {B : Type 0} (old new : Walked B) (count : ℕ) → HasPassedTwins k old count summary new → (l : List ℕ) (number j : ℕ) → old.path ≡ l ++ number ∷ [] → j ≤ count
        → WeighAlike totals (paths_of k) (own_totals (paths_of k) report_of e) (l ++ (number + j) ∷ []) (l ++ number ∷ [])
    alike_passed old new count passed l number zero is le = let same : number + 0 ≡ number = omega arith in λ d. ap (λ n. weigh (paths_of k) report_of e d (l ++ n ∷ [])) same
    alike_passed old new count passed l number (suc j) is le =
        let none : number + 0 ≡ number = omega arith in
        let first = subst (λ n. k.IsSummary (k.tree.child (landed k.tree k.root l) n) summary) none (passed.summaries l number 0 is (omega arith)) in
        weigh_alike l (number + suc j) number (passed.summaries l number (suc j) is le) first (passed.twins l number (suc j) is (omega arith) le)

-- Twins count alike.
module _ {N A T B : Type 0} (model : B → TreeModel N A T) (report_of : B → List ℕ → Report) (ends : B → T → Report)
    (ended : (b : B) (summary : T) (path : List ℕ) → (model b).IsSummary (landed (model b).tree (model b).root path) summary → ends b summary ≡ report_of b path)
    (same_end : (b : B) (path other : List ℕ) → landed (model b).tree (model b).root path ≡ landed (model b).tree (model b).root other → report_of b path ≡ report_of b other) where
  pub twin_alike : (w : Walked B) (summary : T) → IsBeforeTwin (model w.flash_tree) w summary → GoesOnAlike model report_of w
  twin_alike w summary before =
      let b = w.flash_tree in
      λ e. alike_next (model b) summary (report_of b) (ends b summary) (ended b summary) (same_end b) e w before

  pub twins_alike : (old new : Walked B) (count : ℕ) (summary : T) → HasPassedTwins (model old.flash_tree) old count summary new → PassesAlike model report_of old count new
  twins_alike old new count summary passed =
      let b = old.flash_tree in
      record {
        same = passed.same;
        limits = passed.limits;
        stands = passed.stands;
        path_is = passed.path_is;
        more = passed.more;
        alike = λ e. alike_passed (model b) summary (report_of b) (ends b summary) (ended b summary) (same_end b) e old new count passed;
      }

-- The children of the node where a walk stood, one after another.
module _ {N A T B : Type 0} (model : B → TreeModel N A T) (old : Walked B) where
  abbrev k : TreeModel N A T
  k = model old.flash_tree

  abbrev root : N
  root = k.root

  module _ (number : ℕ) (at : Walked B) (here : IsAtChild model old number at) where
    pub come_below : (now : Walked B) → PassesBelow (model at.flash_tree) at now → HasCome model old (suc number) now
    come_below now below = grind (arith, append_assoc)

    -- The next child has the totals of the one at which the walk stands.
    pub alike_there : (report_of : B → List ℕ → Report) (e : Expectation) → GoesOnAlike model report_of at → (d : ℕ)
        → weigh_below (paths_of k) (report_of old.flash_tree) e old.path d (number + 1) ≡ weigh_below (paths_of k) (report_of old.flash_tree) e old.path d (number + 1 - 1)
    alike_there report_of e alike zero = refl
    alike_there report_of e alike (suc d) =
        let back : number ≡ number + 1 - 1 = omega arith in
        let P : B → ℕ → Type 0 = λ b c. weigh (paths_of (model b)) (report_of b) e d (old.path ++ (number + 1) ∷ []) ≡ weigh (paths_of (model b)) (report_of b) e d (old.path ++ c ∷ []) in
        subst (P old.flash_tree) back (subst (λ b. P b number) here.same.flash_tree (alike e old.path number here.path d))

    -- It goes on over children that have its totals.
    module _ (report_of : B → List ℕ → Report) (count : ℕ) (last : Walked B) (passed : PassesAlike model report_of at count last) where
      pub at_last : IsAtChild model old (number + count) last
      at_last = record {
        path = passed.path_is old.path number here.path;
        same = record { flash_tree = passed.same.flash_tree ∙ here.same.flash_tree; bound = passed.same.bound ∙ here.same.bound };
        limits = passed.limits ∙ here.limits;
        stands = passed.stands;
      }

      pub some_last : number + count < k.tree.width (landed k.tree root old.path)
      some_last =
          subst (λ b. number + count < (model b).tree.width (landed (model b).tree (model b).root old.path)) here.same.flash_tree (passed.more old.path number here.path)

      module _ (e : Expectation) where
        pub passed_alike : (j : ℕ) → j ≤ count → (d : ℕ)
            → weigh_below (paths_of k) (report_of old.flash_tree) e old.path d (number + j) ≡ weigh_below (paths_of k) (report_of old.flash_tree) e old.path d number
        passed_alike j le zero = refl
        passed_alike j le (suc d) =
            let P : B → Type 0 = λ b. weigh (paths_of (model b)) (report_of b) e d (old.path ++ (number + j) ∷ []) ≡ weigh (paths_of (model b)) (report_of b) e d (old.path ++ number ∷ []) in
            subst P here.same.flash_tree (passed.alike e old.path number j here.path le d)

        -- The totals below the last of them are those below that one.
        pub first_weights : (bound : ℕ) (column : List Census) → HasWeights (paths_of k) (report_of old.flash_tree) e (old.path ++ (number + count) ∷ []) bound column
            → HasWeights (paths_of k) (report_of old.flash_tree) e (old.path ++ number ∷ []) bound column
        first_weights bound column is = (is.0, λ i lt. is.1 i lt ∙ ap (λ (a : Totals). Some (cut_off a)) (passed_alike count (omega arith) (suc i)))

    -- What is known of it there is known of that child.
    module _ (report_of : B → List ℕ → Report) (e : Expectation) where
      pub tail_there : (x : SharedTail) → IsTailOf (paths_of (model at.flash_tree)) (report_of at.flash_tree) e old.path number x
          → IsTailOf (paths_of k) (report_of old.flash_tree) e old.path number x
      tail_there x tail = subst (λ b. IsTailOf (paths_of (model b)) (report_of b) e old.path number x) here.same.flash_tree tail

      pub weights_there : (bound : ℕ) (column : List Census) → HasWeights (paths_of (model at.flash_tree)) (report_of at.flash_tree) e at.path bound column
          → HasWeights (paths_of k) (report_of old.flash_tree) e (old.path ++ number ∷ []) bound column
      weights_there bound column weights = grind arith

      pub own_there : (report judged_report : Report) → report ≡ report_of at.flash_tree at.path → judged_report ≡ judged e report
          → own_totals (paths_of k) (report_of old.flash_tree) e (old.path ++ number ∷ []) ≡ report_totals judged_report
      own_there report judged_report is judged_is = grind arith

  -- At the root of the walk.
  pub root_weighs : (now : Walked B) (report_of : B → List ℕ → Report) (e : Expectation) (bound : ℕ) (census : Census) → IsSame old now → now.path ≡ []
      → census ≡ cut_off (weigh (paths_of (model now.flash_tree)) (report_of now.flash_tree) e bound now.path)
      → census ≡ cut_off (weigh (path_tree k.tree root) (report_of old.flash_tree) e bound [])
  root_weighs now report_of e bound census same none is = grind arith

  -- The walk has passed all that lies below the node, also where it goes nowhere.
  pub passes_none : old.stands ≡ true → PassesBelow k old old
  passes_none stands = grind (arith, append-nil)

  pub passes_all : (number : ℕ) (now : Walked B) → number ≡ k.tree.width (landed k.tree root old.path) → HasCome model old number now → PassesBelow k old now
  passes_all number now all come = record {
    same = come.same;
    limits = come.limits;
    stands = come.stands;
    more = (more_of number come.passed).0;
    path_is = (more_of number come.passed).1;
    beyond = λ m allowed beyond. passed_all k.tree root old.path now.path m (subst (λ n. HasPassed k.tree root old.path n now.path) all come.passed) allowed beyond;
  }
    where
      more_of : (n : ℕ) → HasPassed k.tree root old.path n now.path → (more : List ℕ) × (now.path ≡ old.path ++ more)
      more_of zero passed = ([], passed ∙ sym (append-nil old.path))
      more_of (suc n) passed = (n ∷ passed.0, passed.1)

-- A walk that goes on over children alike, from run to run of twins.
module _ {N A T B : Type 0} (model : B → TreeModel N A T) (report_of : B → List ℕ → Report) (old : Walked B) (number count : ℕ) (among : IsAmong (model old.flash_tree) number count old)
    (stands : old.stands ≡ true) where
  -- As if it had gone down from the node before.
  abbrev base : Walked B
  base = record old { path = among.before }

  here : IsAtChild model base number old
  here = record { path = among.path_is; same = record { flash_tree = refl; bound = refl }; limits = refl; stands = stands }

  -- The next child is there where it is a twin.
  pub next_there : (n : ℕ) (mid : Walked B) (summary : T) → IsAtChild model base n mid → IsBeforeTwin (model mid.flash_tree) mid summary → n + 1 < count
  next_there n mid summary at before =
      let same = same_from_push before.before among.before before.number n (sym before.path_is ∙ at.path) in
      let W : B → List ℕ → ℕ → Type 0 = λ b l i. i + 1 < (model b).tree.width (landed (model b).tree (model b).root l) in
      let there = subst (λ b. W b among.before n) at.same.flash_tree (subst (W mid.flash_tree among.before) same.1 (subst (λ l. W mid.flash_tree l before.number) same.0 before.more)) in
      omega (arith, there, among.count_is)

  module _ (p : ℕ) (mid : Walked B) (passed : PassesAlike model report_of old p mid) where
    pub mid_there : IsAtChild model base (number + p) mid
    mid_there = at_last model base number old here report_of p mid passed

    pub passed_within : number + p < count
    passed_within = omega (arith, some_last model base number old here report_of p mid passed, among.count_is)

    module _ (more : number + p + 1 < count) where
      some : number + p + 1 < (model old.flash_tree).tree.width (landed (model old.flash_tree).tree (model old.flash_tree).root among.before)
      some = omega (arith, more, among.count_is)

      come : HasCome model base (number + p + 1) mid
      come = let one : suc (number + p) ≡ number + p + 1 = omega arith in subst (λ n. HasCome model base n mid) one (come_on model base (number + p) mid mid_there)

      pub next_passes : CanPass (model mid.flash_tree) (number + p + 1) mid
      next_passes = can_pass model base among.listed (number + p + 1) some among.deep mid come

      module _ (at : Walked B) (reaches : ReachesChild (model mid.flash_tree) (number + p + 1) mid at) (limits : HasSameLimits mid at) where
        pub at_next : IsAtChild model base (number + p + 1) at
        at_next = reached model base among.listed (number + p + 1) some among.deep mid come at reaches limits

        pub passed_on : (new : Walked B) (q : ℕ) → GoesOnAlike model report_of mid → PassesAlike model report_of at q new → PassesAlike model report_of old (p + (1 + q)) new
        passed_on new q goes further =
            let moved : number + p + 1 + q ≡ number + (p + (1 + q)) = omega arith in
            let last = subst (λ n. IsAtChild model base n new) moved (at_last model base (number + p + 1) at at_next report_of q new further) in
            let short = some_last model base (number + p + 1) at at_next report_of q new further in
            record {
              same = record { flash_tree = last.same.flash_tree; bound = last.same.bound };
              limits = last.limits;
              stands = last.stands;
              path_is = λ l n is.
                  let same = same_from_push l among.before n number (sym is ∙ among.path_is) in
                  rw (same.0, same.1) last.path;
              more = λ l n is.
                  let same = same_from_push l among.before n number (sym is ∙ among.path_is) in
                  rw (same.0, same.1) (omega (arith, short));
              alike = λ e l n j is le.
                  let same = same_from_push l among.before n number (sym is ∙ among.path_is) in
                  rw (same.0, same.1) (λ d. by e d j le (cases_lt p j));
            }
          where
            -- What lies below each child, by its number.
            below : Expectation → ℕ → ℕ → Totals
            below e d n = weigh_below (paths_of (model old.flash_tree)) (report_of old.flash_tree) e among.before (suc d) n

            by : (e : Expectation) (d j : ℕ) → j ≤ p + (1 + q) → (p < j) ⊎ (j ≤ p) → below e d (number + j) ≡ below e d number
            by e d j le (inr early) = passed_alike model base number old here report_of p mid passed e j early (suc d)
            by e d j le (inl late) =
                let i : ℕ = j - (p + 1) in
                let there : number + j ≡ number + p + 1 + i = omega (arith, late) in
                let back : number + p + 1 - 1 ≡ number + p = omega arith in
                ap (below e d) there
                ∙ passed_alike model base (number + p + 1) at at_next report_of q new further e i (omega (arith, le, late)) (suc d)
                ∙ alike_there model base (number + p) mid mid_there report_of e goes (suc d)
                ∙ ap (below e d) back
                ∙ passed_alike model base number old here report_of p mid passed e p (omega arith) (suc d)
