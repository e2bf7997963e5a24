use Rattle.std.proofs.Common.{◌∙◌}
use Rattle.mc_explore.proofs.Rowing.{rowing_begun}
use Rattle.mc_explore.proofs.rows.Rows.after.Goals as goal

pub invariant_of-result : goal.invariant_of-result
invariant_of-result g c =
    rw c.after.ensures (rowing_begun _ _ _ _ _ _ _ _ _ (c.of-path.ensures ∙ c.as_slice.ensures.value ∙ c.path.ensures, tt) c.requires.at_most c.requires.kept)
