use Rattle.std.proofs.Common.{flat_map, string_bytes, take, ◌≡◌}
use Rattle.mc_actions.specs.Explained.{said_of}
use Rattle.mc_actions.proofs.explain.Explained.whole_text.Given as goal

abbrev pub invariant-loop-explanations : goal.invariant-loop-explanations
invariant-loop-explanations l = string_bytes l.text ≡ flat_map (λ part. flat_map (said_of l.self) part.now) (take l.explanations-index l.explanations-items)
