use Rattle.std.proofs.Common.{flat_map, string_bytes, take, ◌++◌, ◌≡◌}
use Rattle.mc_actions.specs.Explained.{said_of}
use Rattle.mc_actions.proofs.explain.Explained.add_all.Given as goal

abbrev pub invariant-loop-explanation : goal.invariant-loop-explanation
invariant-loop-explanation l = string_bytes l.text ≡ string_bytes l.initial.text ++ flat_map (said_of l.self) (take l.explanation-index l.explanations)
