use Rattle.std.specs.Prelude.{List, [], suc, ℕ, ◌++◌, ◌+◌, ◌∷◌, ◌≡◌}
use Rattle.std.proofs.Common.{ap, arith, subst, ◌∙◌}
use Rattle.mc_explore.specs.facts.Children.{HasCome, IsAtChild, can_pass, come_on, reached, width_here}
use Rattle.mc_start.specs.Start.{begun}
use Rattle.mc_vectors.proofs.{Arrived.{at_child, model_of, width_along, width_at}, Extended.{finished}, search.Search.expand.Given.{Over}}
use Rattle.mc_vectors.proofs.search.Search.expand.Goals as goal
use Rattle.mc_vectors.proofs.search.Search.expand.Goals.{In_ok-go_to_child}

pub go_to_child-requires-clause-stands : goal.go_to_child-requires-clause-stands
go_to_child-requires-clause-stands g c = c.loop-number.invariant.come.stands

pub go_to_child-requires-clause-passed : goal.go_to_child-requires-clause-passed
go_to_child-requires-clause-passed g c =
    let walk = c.in_ok-walk.walk in
    let all = width_here model_of walk c.flash_tree.result c.summary.result.now c.width-count.result c.flash_tree.ensures c.summary.ensures c.width-count.ensures in
    can_pass model_of walk c.in_ok-walk.ensures.at.listed c.loop-number.number (omega (arith, c.loop-number-test.true, all)) c.in_ok-walk.ensures.more c.loop-number.walk
    c.loop-number.invariant.come

-- The walk stands at that child.
child : (g : Over) (c : In_ok-go_to_child g) → IsAtChild model_of c.in_ok-walk.walk c.loop-number.number c.go_to_child.new.walk
child g c =
    let walk = c.in_ok-walk.walk in
    let all = width_here model_of walk c.flash_tree.result c.summary.result.now c.width-count.result c.flash_tree.ensures c.summary.ensures c.width-count.ensures in
    reached model_of walk c.in_ok-walk.ensures.at.listed c.loop-number.number (omega (arith, c.loop-number-test.true, all)) c.in_ok-walk.ensures.more c.loop-number.walk
    c.loop-number.invariant.come c.go_to_child.new.walk c.in_ok-go_to_child.ensures.reaches c.in_ok-go_to_child.ensures.limits

pub visit-requires-clause-at : goal.visit-requires-clause-at
visit-requires-clause-at g c =
    let x = (goal.at.visit-requires-clause-at g c).In_ok-go_to_child in
    let walk = c.in_ok-walk.walk in
    let all = width_here model_of walk c.flash_tree.result c.summary.result.now c.width-count.result c.flash_tree.ensures c.summary.ensures c.width-count.ensures
    ∙ width_along walk.flash_tree walk.path in
    at_child (begun c.args.start.now) c.args.case.now.schedule walk c.go_to_child.new.walk c.loop-number.number c.in_ok-walk.ensures.at (omega (arith, c.loop-number-test.true, all))
    c.in_ok-walk.ensures.more (child g x)

pub loop-number-preserved : goal.loop-number-preserved
loop-number-preserved g c =
    let x = (goal.at.loop-number-preserved g c).In_ok-go_to_child in
    let n : ℕ = c.loop-number.number in
    let walk = c.in_ok-walk.walk in
    let at = c.go_to_child.new.walk in
    let here = child g x in
    let one : suc n ≡ n + 1 = omega arith in
    record {
      come = subst (λ m. HasCome model_of walk m at) one (come_on model_of walk n at here);
      ready = c.in_ok-visit.ensures.ready;
      gone = λ bound index e. c.in_ok-visit.ensures.visited bound index n (here.path ∙ ap (λ (l : List ℕ). l ++ n ∷ []) c.in_ok-walk.ensures.at.path_is) (c.loop-number.invariant.gone bound index e);
    }

pub returns-clause-expanded : goal.returns-clause-expanded
returns-clause-expanded g c bound index e =
    let x = begun c.args.start.now in
    let walk = c.in_ok-walk.walk in
    let p = c.args.case.now in
    let gone = c.loop-number.invariant.gone bound index e in
    let all = width_here model_of walk c.flash_tree.result c.summary.result.now c.width-count.result c.flash_tree.ensures c.summary.ensures c.width-count.ensures
    ∙ width_along walk.flash_tree walk.path in
    finished x bound c.loop-number.self.cases.items index p gone.inside gone.here c.loop-number.number gone (λ u is.
    omega (arith, c.loop-number-test.false, all, width_at x p.schedule walk c.in_ok-walk.ensures.at u is))
