use Rattle.std.proofs.Common.{Some, [], ap, arith, length, length-append, refl, subst, suc, sym, ℕ, ◌++◌, ◌+◌, ◌-◌, ◌∙◌, ◌∷◌, ◌≡◌}
use Rattle.mc_boot.specs.Outcome.{shown}
use Rattle.mc_explore.proofs.{BootRows.{one_weight}, Counting.{is_joined, weigh_is}, Passing.{at_last, come_below, first_weights, own_there, passed_alike, passes_all, passes_none, tail_there, weights_there}, Runs.{twins_more}}
use Rattle.mc_explore.specs.{facts.Children.{HasCome, IsAtChild, among_there, can_pass, come_on, listed_there, reached, width_here}, Right.{judged}}
use Rattle.mc_explore.specs.{declared.table.Below.{Below}, inner.BootEnds.{report_of}, inner.BootTree.{model_of}, inner.Table.{AreRuns, HasWeights, IsBelow, IsJoined, own_totals, paths_of, weigh_below}}
use Rattle.mc_explore.specs.inner.Totals.{cut_off, merged, report_totals, totals}
use Rattle.mc_tree.specs.{Tree.{landed}, inner.Weights.{from}}
use Rattle.mc_explore.proofs.column.+column.Goals as goal
use Rattle.mc_explore.proofs.{column.+column.Given.{Over}, column.+column.Goals.{In_ok-end, In_ok-passed, in-Some, in-None+in_ok-column-in-None}}

pub returns-then-bound-eq0-clause-passes : goal.returns-then-bound-eq0-clause-passes
returns-then-bound-eq0-clause-passes g t c = passes_none model_of c.args.walk.now c.requires.stands

-- How many children there are.
all : (g : Over) (t : ℕ) (c : In_ok-end g t) → c.width-count.result
    ≡ (model_of c.args.walk.now.flash_tree).tree.width (landed (model_of c.args.walk.now.flash_tree).tree (model_of c.args.walk.now.flash_tree).root c.args.walk.now.path)
all g t c = width_here model_of c.args.walk.now c.flash_tree-flash_tree.result c.summary.result.now c.width-count.result c.flash_tree-flash_tree.ensures c.summary.ensures c.width-count.ensures

pub visit_child-requires-clause-passed : goal.visit_child-requires-clause-passed
visit_child-requires-clause-passed g t c =
    let walk = c.args.walk.now in
    let all = width_here model_of walk c.flash_tree-flash_tree.result c.summary.result.now c.width-count.result c.flash_tree-flash_tree.ensures c.summary.ensures c.width-count.ensures in
    can_pass model_of walk c.requires.listed c.children.number (omega (arith, c.children-test.true, all)) (omega (arith, c.requires.deep, c.if-bound-eq0.false)) _ c.children.invariant.come

-- The walk stands at that child.
at_child : (g : Over) (t : ℕ) (c : In_ok-end g t) → IsAtChild model_of c.args.walk.now c.children.number c.visit_child.new.walk
at_child g t c =
    let h = c.in_ok-end.ensures in
    reached model_of c.args.walk.now c.requires.listed c.children.number (omega (arith, c.children-test.true, all g t c)) (omega (arith, c.requires.deep, c.if-bound-eq0.false)) _
    c.children.invariant.come c.visit_child.new.walk h.reaches h.limits

-- And then at the last of those that are alike.
at_end : (g : Over) (t : ℕ) (c : In_ok-passed g t) → IsAtChild model_of c.args.walk.now c.children.number c.visit_child.new.walk
    → IsAtChild model_of c.args.walk.now (c.children.number + c.in_ok-passed.passed) c.pass_alike.new.walk
at_end g t c here = at_last model_of c.args.walk.now c.children.number c.visit_child.new.walk here report_of c.in_ok-passed.passed c.pass_alike.new.walk c.in_ok-passed.ensures.passes

pub pass_alike-requires-clause-stands : goal.pass_alike-requires-clause-stands
pass_alike-requires-clause-stands g t c = (at_child g t (goal.at.pass_alike-requires-clause-stands g t c).In_ok-end).stands

pub pass_alike-requires-clause-among : goal.pass_alike-requires-clause-among
pass_alike-requires-clause-among g t c =
    let x = (goal.at.pass_alike-requires-clause-among g t c).In_ok-end in
    among_there model_of c.args.walk.now c.requires.listed c.children.number (omega (arith, c.children-test.true, all g t x)) (omega (arith, c.requires.deep, c.if-bound-eq0.false))
    c.visit_child.new.walk c.width-count.result (at_child g t x) (all g t x)

pub column-requires : goal.column-requires
column-requires g t c κs within =
    let x = (goal.at.column-requires g t c).In_ok-end in
    let walk = c.args.walk.now in
    let at = c.pass_alike.new.walk in
    let n : ℕ = c.children.number + c.in_ok-passed.passed in
    let here = at_end g t (goal.at.column-requires g t c).In_ok-passed (at_child g t x) in
    let listed = listed_there model_of walk c.requires.listed n (omega (arith, c.in_ok-passed.ensures.within, all g t x)) (omega (arith, c.requires.deep, c.if-bound-eq0.false)) at here in
    let deep : length at.path + (c.args.bound - 1) ≡ at.bound =
    omega (arith, c.requires.deep, c.if-bound-eq0.false, here.same.bound, ap length here.path, length-append walk.path (n ∷ [])) in
    (omega (arith, c.decreases, c.if-bound-eq0.false), (within, (here.stands, (listed, deep))))

pub children-preserved : goal.children-preserved
children-preserved g t c =
    let x = (goal.at.children-preserved g t c).In_ok-end in
    let walk = c.args.walk.now in
    let e = c.args.expectation.now in
    let n : ℕ = c.children.number in
    let p : ℕ = c.in_ok-passed.passed in
    let count : ℕ = c.width-count.result in
    let bound : ℕ = c.args.bound in
    let i = c.children.invariant in
    let at = c.visit_child.new.walk in
    let here = at_child g t x in
    let at' = c.pass_alike.new.walk in
    let last = at_end g t (goal.at.children-preserved g t c).In_ok-passed here in
    let passes = c.in_ok-passed.ensures.passes in
    let one : suc (n + p) ≡ n + (p + 1) = omega arith in
    let moved : n + 1 + p ≡ n + (p + 1) = omega arith in
    let fewer : bound - 1 + 1 ≡ bound = omega (arith, c.if-bound-eq0.false) in
    let paths = paths_of (model_of walk.flash_tree) in
    let report = report_of walk.flash_tree in
    let under = weigh_below paths report e walk.path in
    let own_is = own_there model_of walk n at here report_of e (shown c.in_ok-end.end.outcome) (shown c.judge-outcome.result) c.in_ok-end.ensures.ended c.judge-outcome.ensures in
    let come : HasCome model_of walk (suc (n + p)) c.match-end.walk = elim c.match-end.branch [
      | in-Some w ↦ subst (HasCome model_of walk (suc (n + p))) (sym w.walk-is) (come_on model_of walk (n + p) at' last)
      | in-None+in_ok-column-in-None w ↦
          subst (HasCome model_of walk (suc (n + p))) (sym w.walk-is) (come_below model_of walk (n + p) at' last _ w.in_ok-column-in-None.ensures.passes)
    ] in
    let P : Below → Type 0 = IsBelow under count bound n c.judge-outcome.result in
    let child : P c.match-end.below = elim c.match-end.branch [
      | in-Some w ↦
          let y = w.in-Some.shared_tail in
          let tail = tail_there model_of walk n at here report_of e y ((rw w.in-Some.is at c.in_ok-end.ensures.tail) e walk.path n here.path) in
          subst P (sym w.below-is) (subst (λ m. IsJoined under m bound n c.judge-outcome.result y) (sym (all g t x)) (is_joined paths report e walk.path bound n c.judge-outcome.result y own_is tail))
      | in-None+in_ok-column-in-None w ↦
          let column = w.in_ok-column-in-None in
          let weights = first_weights model_of walk n at here report_of p at' passes e (bound - 1 + 1) column.field-0.items
          (weights_there model_of walk (n + p) at' last report_of e (bound - 1 + 1) column.field-0.items column.ensures.column) in
          subst P (sym w.below-is) (subst (λ m. HasWeights paths report e (walk.path ++ n ∷ []) m column.field-0.items) fewer weights)
    ] in
    let first = c.in_ok-add_child.ensures under count bound (λ i. refl) i.runs child in
    let runs = twins_more under count bound (λ i. refl) n c.add_child.new.runs.items first p (passed_alike model_of walk n at here report_of p at' passes e) in
    record {
      within = omega (arith, c.in_ok-passed.ensures.within);
      come = subst (λ m. HasCome model_of walk m c.match-end.walk) one come;
      runs = subst (λ m. AreRuns under count bound m c.add_child.new.runs.items) moved runs;
    }

pub returns-clause-column : goal.returns-clause-column
returns-clause-column g t c =
    let walk = c.args.walk.now in
    let e = c.args.expectation.now in
    let i = c.children.invariant in
    let count : ℕ = c.width-count.result in
    let paths = paths_of (model_of walk.flash_tree) in
    let report = report_of walk.flash_tree in
    let under = weigh_below paths report e walk.path in
    let all = width_here model_of walk c.flash_tree-flash_tree.result c.summary.result.now count c.flash_tree-flash_tree.ensures c.summary.ensures c.width-count.ensures in
    let own_is : c.of-own.result ≡ cut_off (own_totals paths report e walk.path) =
    c.of-own.ensures ∙ ap (λ o. cut_off (report_totals o)) (c.judge.ensures ∙ ap (judged e) ((rw c.flash_tree-flash_tree.ensures at c.ended.ensures) walk.path c.summary.ensures.summary_is)) in
    let column = rw c.deref.ensures.value at c.in_ok-column_of.ensures in
    let done : c.children.number ≡ count = omega (arith, c.children-test.false, i.within) in
    let is = column (own_totals paths report e walk.path) under own_is (λ i. refl) (subst (λ m. AreRuns under count c.args.bound m c.children.runs.items) done i.runs) in (
      is.0,
      λ d lt. is.1 d lt ∙ ap (λ n. Some (cut_off (merged (own_totals paths report e walk.path) (from totals (under d) n 0)))) all
          ∙ ap (λ a. Some (cut_off a)) (weigh_is paths report e walk.path d),
    )

pub returns-clause-passes : goal.returns-clause-passes
returns-clause-passes g t c =
    let walk = c.args.walk.now in
    let all = width_here model_of walk c.flash_tree-flash_tree.result c.summary.result.now c.width-count.result c.flash_tree-flash_tree.ensures c.summary.ensures c.width-count.ensures in
    let done : c.children.number ≡ c.width-count.result = omega (arith, c.children-test.false, c.children.invariant.within) in
    passes_all model_of walk c.children.number _ (done ∙ all) c.children.invariant.come

pub returns-then-bound-eq0-clause-column : goal.returns-then-bound-eq0-clause-column
returns-then-bound-eq0-clause-column g t c =
    let walk = c.args.walk.now in
    let e = c.args.expectation.now in
    let paths = paths_of (model_of walk.flash_tree) in
    let report = report_of walk.flash_tree in
    let own_is : c.of-own.result ≡ cut_off (own_totals paths report e walk.path) =
    c.of-own.ensures ∙ ap (λ o. cut_off (report_totals o)) (c.judge.ensures ∙ ap (judged e) ((rw c.flash_tree-flash_tree.ensures at c.ended.ensures) walk.path c.summary.ensures.summary_is)) in
    one_weight paths report e walk.path c.args.bound c.of-own.result c.in_ok-vec.field-0.items c.if-bound-eq0.true c.in_ok-vec.ensures.items own_is
