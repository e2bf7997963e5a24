use Rattle.std.specs.{Borrow.{Bor}, List.{All}, Prelude.{List, ℕ}}
use Rattle.std.proofs.Common.{take}
use Rattle.mc_actions.specs.Lives.{AreRead, IsShelved}
use Rattle.mc_actions.proofs.life.read_shelf.Given as goal

abbrev pub invariant-names : goal.invariant-names
invariant-names g l = record {
  read : AreRead (g.F.KnownFiles.holds l.files) l.shelf.items;
  shelved : All (λ (t : Bor (List ℕ)). IsShelved (g.F.KnownFiles.holds l.files) l.shelf.items t.now) (take l.name-index l.name-items);
}
