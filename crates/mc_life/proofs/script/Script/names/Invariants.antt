use Rattle.std.proofs.Common.{map, option_map}
use Rattle.mc_life.specs.Script.{size_left}
use Rattle.mc_life.proofs.Naming.{AreNamed}
use Rattle.mc_life.proofs.script.Script.names.Given as goal

abbrev pub invariant-lines : goal.invariant-lines
invariant-lines l = AreNamed l.self (option_map (λ t. t.now) l.rest) (map (λ t. t.now) l.names.items)

abbrev pub decreases-lines : goal.decreases-lines
decreases-lines l = size_left (option_map (λ t. t.now) l.rest)
