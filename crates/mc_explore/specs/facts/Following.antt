-- A walk along a schedule, through one round of boots.
use Rattle.std.proofs.{Common.{ap, arith, subst, sym, ◌∙◌}, Math.Nat.{mul-le-mul_right}, lemmas.List.{length-take-le}}
use Rattle.std.specs.Prelude.{Bool, List, [], false, length, refl, suc, take, true, ℕ, ◌*◌, ◌++◌, ◌+◌, ◌∷◌, ◌≡◌, ◌≤◌}
use Rattle.mc_boot.specs.{Outcome.{ops_of}, Plan.{PowerOn, again}, facts.Bounds.{few_ops}}
use Rattle.mc_explore.specs.{Rows.{subject}, declared.rounds.BootTree.{BootTree}, facts.Keys.{edge, numbers_are}, facts.Occurring.{path_of}, facts.OneRoundPaths.{from_second, in_second}}
use Rattle.mc_explore.specs.inner.{BootRows.{tree_in}, BootTree.{begins_of, boot_model, model_is, model_of, root_of}, Exploring.{FollowsKey, IsCheapFor}, OneRound.{IsOf, round_model}}
use Rattle.mc_explore.specs.declared.rounds.Rounds.TheVariants as kinds
use Rattle.mc_explore.specs.Boots.{at_cut, boots}
use Rattle.mc_flash.specs.{Geometry.{IsLayout}, Usage.{Spent, most_operations}}
use Rattle.mc_tree.specs.{Tree.{Allowed}, facts.Order.{allowed_prefix}}
use Rattle.mc_walk.specs.Walks.{Follows, IsPath, Walked, path_cost}
use Rattle.mc_tree.specs.Tree as tree

pub cost_few : (start x : PowerOn) (l : List ℕ) → IsLayout start.geometry → IsOf start x → Allowed boots x l
    → path_cost (round_model start) l ≤ length l * (2 * most_operations start.rules.grain start.geometry)
cost_few start x [] valid of a = omega arith
cost_few start x (c ∷ cs) valid of a =
    let most : ℕ = most_operations start.rules.grain start.geometry in
    let next : PowerOn = again x (at_cut x c) in
    let rest = cost_few start next cs valid (ap (λ (y : PowerOn). again y next.content) of) a.1 in
    let more : suc (length cs) * (2 * most) ≡ 2 * most + length cs * (2 * most) = omega arith in
    omega (arith, rest, few_ops (again start x.content) valid, a.0, more, ap (λ (y : PowerOn). length (ops_of y)) of)

-- In one round a path takes as much as in the tree of schedules.
same_cost : (start : PowerOn) (l : List ℕ) → path_cost (boot_model start kinds.One) l ≡ path_cost (round_model start) l
same_cost start [] = refl
same_cost start (c ∷ cs) = ap (λ n. (c + 1) * 1 + most_operations start.rules.grain start.geometry + n) (same_cost start cs)

module _ (old new : Walked BootTree) (path : List ℕ) (root : old.path ≡ []) (one : old.flash_tree.rounds ≡ kinds.One) where
  abbrev start : PowerOn
  start = begins_of old.flash_tree

  paths_are : IsPath (model_of old.flash_tree) old ≡ tree.IsMember (tree_in kinds.One) (root_of kinds.One start) old.bound
  paths_are = rw (model_is old.flash_tree) (ap (λ r. tree.IsMember (tree_in r) (root_of r start) old.bound) one)

  pub follows_schedule : (went : Bool) → Follows (model_of old.flash_tree) path old went new → FollowsKey subject edge tt old path went new
  follows_schedule true f = (f.1, numbers_are start new.path ∙ f.0 ∙ ap (λ z. z ++ path) root, f.2, f.3)
  follows_schedule false f = λ m.
      let here = path_of start old.bound path m in
      let n : ℕ = f.steps + 1 in
      let len : length (take n path) ≤ old.bound = omega (arith, length-take-le n path (omega (arith, f.inside)), f.inside, here.0) in
      let there = subst (λ P. P (take n path)) (sym paths_are) (len, in_second false start start (take n path) (allowed_prefix boots start path n here.1)) in
      f.no_child (subst (λ l. IsPath (model_of old.flash_tree) old (l ++ take n path)) (sym root) there)

  -- It takes two boots a cut at most, and one to begin with.
  pub cheap : IsLayout start.geometry → (went : Bool) → Follows (model_of old.flash_tree) path old went new → Spent (path_cost (model_of old.flash_tree) path) old.seen new.seen
      → went ≡ true → old.seen.usage.applied ≤ (model_of old.flash_tree).all.entries → IsCheapFor subject old new.seen.usage.applied
  cheap valid false f spent is begun = absurd cc
  cheap valid true f spent is begun =
      let most : ℕ = most_operations start.rules.grain start.geometry in
      let member = subst (tree.IsMember (tree_in kinds.One) (root_of kinds.One start) old.bound) (f.0 ∙ ap (λ z. z ++ path) root) (subst (λ P. P new.path) paths_are f.1) in
      let cost = cost_few start start path valid refl (from_second false start start path member.1) in
      let same = ap (λ k. path_cost k path) (model_is old.flash_tree) ∙ ap (λ r. path_cost (boot_model start r) path) one ∙ same_cost start path in
      let entries : old.seen.usage.applied ≤ most = subst (λ r. old.seen.usage.applied ≤ (boot_model start r).all.entries) one (rw (model_is old.flash_tree) at begun) in
      let at_most : length path * (2 * most) ≤ old.bound * (2 * most) = mul-le-mul_right (2 * most) member.0 in
      let all : 2 * (old.bound + 1) * most ≡ old.bound * (2 * most) + 2 * most = omega arith in
      omega (arith, entries, spent.applied, same, cost, at_most, all)
