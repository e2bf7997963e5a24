-- The paths of the same walk, elsewhere.
use Rattle.std.proofs.Common.{List, ℕ, sym, subst}
use Rattle.mc_walk.specs.{TreeModel.{TreeModel}, Walks.{Walked, IsPath, IsSame}}
use Rattle.mc_tree.specs.Tree.{IsMember}

module _ {N A T B : Type 0} (model : B → TreeModel N A T) where
  pub same_back : (old new : Walked B) → IsSame old new → IsSame new old
  same_back old new s = record { flash_tree = sym s.flash_tree; bound = sym s.bound }

  pub path_back : (old new : Walked B) (l : List ℕ) → IsSame old new → IsPath (model new.flash_tree) new l → IsPath (model old.flash_tree) old l
  path_back old new l s m =
      subst (λ b. IsMember (model b).tree (model b).root old.bound l) s.flash_tree (subst (λ n. IsMember (model new.flash_tree).tree (model new.flash_tree).root n l) s.bound m)
