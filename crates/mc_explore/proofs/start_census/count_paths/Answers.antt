use Rattle.std.proofs.Common.{[], ap, arith, subst, ℕ, ◌∙◌, ◌≡◌}
use Rattle.mc_boot.specs.Plan.{PowerOn}
use Rattle.mc_tree.specs.inner.Weights.{path_tree}
use Rattle.mc_explore.proofs.{Counting.{Census}, Passing.{root_weighs}}
use Rattle.mc_explore.specs.declared.rounds.Rounds.{Rounds}
use Rattle.mc_explore.specs.{Rounds.{tree_of}, inner.BootEnds.{report_in, report_of}, inner.BootTree.{begins_of, confirms_of, model_is, model_of, root_of}}
use Rattle.mc_explore.specs.inner.{Table.{paths_of, weigh}, Totals.{Totals, cut_off}}
use Rattle.mc_explore.proofs.start_census.count_paths.Goals as goal

pub returns : goal.returns
returns g c =
    let walk = c.in_ok-walk.walk in
    let now = c.begin.new.self in
    let bound : ℕ = c.args.bound in
    let e = c.args.expectation.now in
    let begins = c.in_ok-begin.ensures.begins in
    let paths : Census = c.census_at.result in
    let column = rw c.deref.ensures.value at c.census_at.ensures in
    let by_bound : ℕ → Totals = λ d. weigh (paths_of (model_of now.flash_tree)) (report_of now.flash_tree) e d now.path in
    let here : paths ≡ cut_off (by_bound bound) =
    column by_bound c.in_ok-column.ensures.column.1 (omega (arith, c.in_ok-column.ensures.column.0, c.from.ensures, c.from-most.ensures)) ∙ ap (λ d. cut_off (by_bound d)) c.from.ensures in
    let of = root_weighs model_of walk now report_of e bound paths begins.same begins.path here in
    let is = subst (λ p. paths ≡ cut_off (weigh p (report_of walk.flash_tree) e bound [])) (ap paths_of (model_is walk.flash_tree)) of in
    let P : Rounds → PowerOn → Type 0 = λ r x. paths ≡ cut_off (weigh (path_tree (tree_of (confirms_of r)) (root_of r x)) (report_in x r) e bound []) in
    subst (P c.args.rounds) c.in_ok-walk.ensures.loaded.start_is (subst (λ r. P r (begins_of walk.flash_tree)) c.in_ok-walk.ensures.rounds is)
