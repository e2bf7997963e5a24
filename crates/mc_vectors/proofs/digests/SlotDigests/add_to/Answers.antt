use Rattle.std.proofs.{Common.{arith}, lemmas.List.{get_or_default}}
use Rattle.mc_vectors.proofs.Digested.{concat_more}
use Rattle.mc_vectors.proofs.digests.SlotDigests.add_to.Goals as goal

pub loop-digest-preserved : goal.loop-digest-preserved
loop-digest-preserved c m held = grind (arith, concat_more, get_or_default)
