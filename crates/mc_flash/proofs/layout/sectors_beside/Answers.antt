use Rattle.mc_flash.proofs.Limits.{zero_or_positive}
use Rattle.mc_flash.proofs.layout.sectors_beside.Goals as goal

pub returns-clause-value : goal.returns-clause-value
returns-clause-value c = cc

pub returns-clause-count : goal.returns-clause-count
returns-clause-count c = zero_or_positive c.args.trailer c.args.max_sectors c.args.primary c.args.secondary c.min-2.result (returns-clause-value c)
