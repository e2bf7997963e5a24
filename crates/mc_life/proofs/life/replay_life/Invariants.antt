use Rattle.std.proofs.Common.{option_map}
use Rattle.mc_life.specs.Script.{size_left}
use Rattle.mc_life.proofs.ReplayProof.{IsAt}
use Rattle.mc_life.proofs.life.replay_life.Given as goal

abbrev pub invariant-lines : goal.invariant-lines
invariant-lines g l = IsAt l.files l.start l.script (g.W.Write.contents l.fn.writer) (g.W.Write.contents l.writer) (option_map (λ t. t.now) l.rest) l.number l.line_number l.device

abbrev pub decreases-lines : goal.decreases-lines
decreases-lines g l = size_left (option_map (λ t. t.now) l.rest)
