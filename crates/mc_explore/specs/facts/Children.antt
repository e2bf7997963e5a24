-- A walk that goes to the children of a node, one after another.
use Rattle.std.proofs.Common.{List, [], arith, length, length-append, subst, suc, sym, true, ℕ, ◌++◌, ◌<◌, ◌∙◌, ◌∷◌, ◌≡◌}
use Rattle.mc_explore.specs.inner.Table.{CanPass, HasSameLimits, IsAmong, Passed, ReachesChild}
use Rattle.mc_tree.specs.{Tree.{Allowed, Beyond, landed}, facts.Order.{HasPassed, allowed-push, landed-push}}
use Rattle.mc_walk.specs.{TreeModel.{HasWidth, IsChildOf, TreeModel}, Walks.{IsLastStep, IsPath, IsSame, IsThere, Walked}}
use Rattle.mc_walk.specs.declared.frame.Frame.{Frame}

module _ {N A T B : Type 0} (k : TreeModel N A T) where
  -- At the end of its path the flash stands at a child, with both summaries.
  pub child_here : (w : Walked B) (f : Frame A T) (summary : T) → IsThere k w summary → (step : IsLastStep k w f)
      → IsChildOf k (landed k.tree k.root step.before) f.number f.at f.parent summary w.seen
  child_here w f summary there step = grind (arith, landed-push)

-- The children of the node where a walk stood, one after another.
module _ {N A T B : Type 0} (model : B → TreeModel N A T) (old : Walked B) where
  abbrev k : TreeModel N A T
  k = model old.flash_tree

  abbrev root : N
  root = k.root

  pub width_here : (b : B) (summary : T) (width : ℕ) → b ≡ old.flash_tree → IsThere k old summary → HasWidth (model b) summary width → width ≡ k.tree.width (landed k.tree root old.path)
  width_here b summary width same there has = subst (λ b. HasWidth (model b) summary width) same has (landed k.tree root old.path) there.summary_is

  -- The walk has passed so many of them.
  pub record HasCome (number : ℕ) (now : Walked B) : Type 0 where
    pub same : IsSame old now
    pub limits : HasSameLimits old now
    pub stands : now.stands ≡ true
    pub passed : HasPassed k.tree root old.path number now.path

  -- It stands at that one.
  pub record IsAtChild (number : ℕ) (at : Walked B) : Type 0 where
    pub path : at.path ≡ old.path ++ number ∷ []
    pub same : IsSame old at
    pub limits : HasSameLimits old at
    pub stands : at.stands ≡ true

  module _ (listed : IsPath k old old.path) (number : ℕ) (some : number < k.tree.width (landed k.tree root old.path)) (deep : length old.path < old.bound) where
    pub child_listed : IsPath k old (old.path ++ number ∷ [])
    child_listed = (omega (arith, deep, length-append old.path (number ∷ [])), allowed-push k.tree root old.path number listed.1 some)

    module _ (now : Walked B) (come : HasCome number now) where
      passed_now : Passed (model now.flash_tree) old.path number now
      passed_now = subst (λ b. HasPassed (model b).tree (model b).root old.path number now.path) (sym come.same.flash_tree) come.passed

      listed_now : IsPath (model now.flash_tree) now (old.path ++ number ∷ [])
      listed_now = (omega (arith, child_listed.0, come.same.bound), subst (λ b. Allowed (model b).tree (model b).root (old.path ++ number ∷ [])) (sym come.same.flash_tree) child_listed.1)

      pub can_pass : CanPass (model now.flash_tree) number now
      can_pass = record { path = old.path; passed = passed_now; listed = listed_now }

      pub reached : (at : Walked B) → ReachesChild (model now.flash_tree) number now at → HasSameLimits now at → IsAtChild number at
      reached at reaches limits =
          let there = reaches old.path passed_now listed_now in
          record {
            path = there.0;
            same = record {
              flash_tree = there.1.flash_tree ∙ come.same.flash_tree;
              bound = there.1.bound ∙ come.same.bound;
            };
            limits = limits ∙ come.limits;
            stands = there.2;
          }

    pub among_there : (at : Walked B) (count : ℕ) → IsAtChild number at → count ≡ k.tree.width (landed k.tree root old.path) → IsAmong (model at.flash_tree) number count at
    among_there at count here all = record {
      before = old.path;
      path_is = here.path;
      listed = subst (λ b. IsPath (model b) at old.path) (sym here.same.flash_tree) (omega (arith, deep, here.same.bound), listed.1);
      deep = omega (arith, deep, here.same.bound);
      count_is = subst (λ b. count ≡ (model b).tree.width (landed (model b).tree (model b).root old.path)) (sym here.same.flash_tree) all;
    }

    pub listed_there : (at : Walked B) → IsAtChild number at → IsPath (model at.flash_tree) at at.path
    listed_there at here =
        let allowed = subst (λ b. Allowed (model b).tree (model b).root (old.path ++ number ∷ [])) (sym here.same.flash_tree) child_listed.1 in
        subst (IsPath (model at.flash_tree) at) (sym here.path) (omega (arith, child_listed.0, here.same.bound), allowed)

  -- One child more was reached, and what lies below it is not gone through, or was.
  pub come_on : (number : ℕ) (at : Walked B) → IsAtChild number at → HasCome (suc number) at
  come_on number at here = record { same = here.same; limits = here.limits; stands = here.stands; passed = ([], here.path, λ m allowed beyond. subst (λ (l : List ℕ). Beyond l m) here.path beyond) }
