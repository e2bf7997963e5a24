use Rattle.std.proofs.Common.{arith}
use Rattle.mc_campaign.proofs.Along.{beyond_first, early, too_late}
use Rattle.mc_campaign.proofs.campaign_path.child_of.Goals as goal

pub returns-in-First-First : goal.returns-in-First-First
returns-in-First-First c = λ start confirms p valid summary.
    rw (← c.cut.view_is, c.in-First-First.is-1)
    (early start confirms valid c.args.summary.now p c.in-First-First.is-0 summary c.cut.inside.number c.if-cut-ops.true)

pub returns-in_default : goal.returns-in_default
returns-in_default c = λ start confirms p valid summary.
    rw (← c.cut.view_is, c.in-First-First.is-1)
    (too_late start confirms valid c.args.summary.now p c.in-First-First.is-0 summary c.cut.inside.number c.if-cut-ops.false)

pub returns-in-First-Second : goal.returns-in-First-Second
returns-in-First-Second c = grind (arith, beyond_first)
