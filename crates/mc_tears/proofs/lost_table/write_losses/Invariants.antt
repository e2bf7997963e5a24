use Rattle.mc_output.specs.facts.Prefixes.{IsOut}
use Rattle.mc_tears.specs.Losses.{losses_text, next_text}
use Rattle.mc_vectors.proofs.Tabled.{left}
use Rattle.mc_tears.proofs.lost_table.write_losses.Given as goal

abbrev pub invariant-loop-loss : goal.invariant-loop-loss
invariant-loop-loss g l = record {
  out : IsOut (g.W.Write.contents l.fn.writer) (g.W.Write.contents l.writer) (losses_text l.losses) (left next_text l.more l.loss-index);
}
