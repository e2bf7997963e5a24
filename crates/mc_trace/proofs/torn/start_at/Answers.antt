use Rattle.mc_start.specs.Start.{begun}
use Rattle.mc_trace.proofs.TornLines.{cut_leaves}
use Rattle.mc_trace.proofs.torn.start_at.Goals as goal

pub returns-in-Ok : goal.returns-in-Ok
returns-in-Ok g c =
    let left = cut_leaves (begun c.args.start.now) c.args.cut (g.F.Flash.seen c.in-Ok.flash).content c.requires (rw c.of.ensures at c.in-Ok.ensures.cut) in
    rw left at c.again.ensures
