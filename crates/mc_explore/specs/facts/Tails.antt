-- Where the flashes after a cut lie among those of the boot that was cut, as nodes of the tree.
use Rattle.std.proofs.Common.{ap, arith, length, sym, ℕ, ◌+◌, ◌<◌, ◌∙◌, ◌≡◌, ◌≤◌}
use Rattle.mc_boot.specs.{Outcome.{ops_of}, Plan.{PowerOn, again}, SharedTail.{IsSharedTail, index_in_parent}, declared.shared_tail.SharedTail.{SharedTail}}
use Rattle.mc_explore.specs.{facts.Occurring.{at_is, lands_at}}
use Rattle.mc_explore.specs.Boots.{at_cut, boots}
use Rattle.mc_flash.specs.Flash.{Content}

module _ (x : PowerOn) (u : Content) (tail : SharedTail) (joined : IsSharedTail x u tail) where
  pub late_index : (i : ℕ) → tail.erases ≤ i → index_in_parent tail i ≡ tail.kept + i
  late_index i le = grind arith

  pub placed_at : (i : ℕ) → i < length (ops_of (again x u)) → boots.child (again x u) i ≡ boots.child x (index_in_parent tail i)
  placed_at i lt = ap (again x) (lands_at x (at_cut (again x u) i) (index_in_parent tail i) (sym (joined.same i lt) ∙ at_is (again x u) i))
