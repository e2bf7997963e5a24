use Rattle.std.proofs.{Common.{List, [], ap, arith, false, length, subst, sym, true, Bool, ℕ, ◌++◌, ◌∙◌, ◌≡◌, ◌≤◌}, lemmas.List.{length-take-le}}
use Rattle.mc_boot.specs.Plan.{PowerOn}
use Rattle.mc_explore.specs.{declared.rounds.BootTree.{BootTree}, declared.rounds.Rounds.{Rounds}}
use Rattle.mc_explore.specs.inner.{BootRows.{cuts_along, tree_in}, BootTree.{begins_of, model_is, model_of, root_of}}
use Rattle.mc_start.specs.Start.{begun}
use Rattle.mc_tree.specs.{Tree.{IsMember}, facts.Order.{allowed_prefix}}
use Rattle.mc_walk.specs.Walks.{Follows, IsPath, IsSame, Walked}
use Rattle.mc_explore.proofs.start_census.cuts_at.Goals as goal

-- The walk stands, where it was, and went along the whole path, where that is one of the tree.
stands : (path : List ℕ) (old new : Walked BootTree) (went : Bool) → Follows (model_of old.flash_tree) path old went new → new.stands ≡ true
stands path old new true f = f.3
stands path old new false f = f.stands

same : (path : List ℕ) (old new : Walked BootTree) (went : Bool) → Follows (model_of old.flash_tree) path old went new → IsSame old new
same path old new true f = f.2
same path old new false f = f.same

whole : (path : List ℕ) (old new : Walked BootTree) (went : Bool) → old.path ≡ [] → IsPath (model_of old.flash_tree) old path → Follows (model_of old.flash_tree) path old went new → new.path ≡ path
whole path old new true root m f = f.0 ∙ ap (λ (l : List ℕ). l ++ path) root
whole path old new false root m f = grind (arith, allowed_prefix, length-take-le)

pub path-requires-clause-stands : goal.path-requires-clause-stands
path-requires-clause-stands g c = stands c.cuts-steps.result.now c.begin.new.self c.follow.new.self c.in_ok-follow.field-0 c.in_ok-follow.ensures.step

pub path-requires-clause-room : goal.path-requires-clause-room
path-requires-clause-room g c =
    let same = same c.cuts-steps.result.now c.begin.new.self c.follow.new.self c.in_ok-follow.field-0 c.in_ok-follow.ensures.step in
    omega (arith, same.bound, c.in_ok-begin.ensures.begins.same.bound, c.in_ok-walk.ensures.loaded.bound_is, c.cuts-steps.ensures.at_most)

pub along-requires-clause-stands : goal.along-requires-clause-stands
along-requires-clause-stands g c = stands c.cuts-steps.result.now c.begin.new.self c.follow.new.self c.in_ok-follow.field-0 c.in_ok-follow.ensures.step

pub along-requires-clause-path : goal.along-requires-clause-path
along-requires-clause-path g c = c.of-path.ensures ∙ c.as_slice.ensures.value ∙ c.path.ensures

pub returns : goal.returns
returns g c = λ bound member.
    let loaded = c.in_ok-walk.ensures.loaded in
    let begins = c.in_ok-begin.ensures.begins in
    let old = c.begin.new.self in
    let new = c.follow.new.self in
    let path = c.cuts-steps.result.now in
    let value : path ≡ c.args.path.now = c.cuts-steps.ensures.value in
    let k = c.args.rounds in
    let x = begun c.args.start.now in
    let same = same path old new c.in_ok-follow.field-0 c.in_ok-follow.ensures.step in
    let start : begins_of old.flash_tree ≡ x = ap begins_of begins.same.flash_tree ∙ loaded.start_is in
    let rounds : old.flash_tree.rounds ≡ k = ap (λ (t : BootTree). t.rounds) begins.same.flash_tree ∙ c.in_ok-walk.ensures.rounds in
    let M : Rounds → PowerOn → Type 0 = λ k x. IsMember (tree_in k) (root_of k x) bound path in
    let there = subst (λ k. M k (begins_of old.flash_tree)) (sym rounds) (subst (M k) (sym start) (subst (IsMember (tree_in k) (root_of k x) bound) (sym value) member)) in
    let room : length path ≤ old.bound = omega (arith, begins.same.bound, loaded.bound_is, c.cuts-steps.ensures.at_most) in
    let went = whole path old new c.in_ok-follow.field-0 begins.path (rw (model_is old.flash_tree) (room, there.1)) c.in_ok-follow.ensures.step in
    c.along.ensures ∙ ap (λ (t : BootTree). cuts_along t.rounds (begins_of t) new.path) same.flash_tree ∙ ap (λ k. cuts_along k (begins_of old.flash_tree) new.path) rounds
    ∙ ap (λ x. cuts_along k x new.path) start ∙ ap (cuts_along k x) (went ∙ value)
