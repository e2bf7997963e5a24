use Rattle.std.proofs.Common.{◌∙◌}
use Rattle.mc_explore.proofs.BootTails.{ended_so}
use Rattle.mc_explore.proofs.rounds.BootTree.ended.Goals as goal

pub returns : goal.returns
returns c = λ path is. c.end_by.ensures ∙ ended_so c.args.self.now c.args.summary.now path is
