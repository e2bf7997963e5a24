use Rattle.mc_tears.proofs.Standing.{back_is}
use Rattle.mc_tears.proofs.losses.case_here.Goals as goal

pub returns-clause-back : goal.returns-clause-back
returns-clause-back g c =
    let ran = c.in_ok-summary.ensures in
    rw (c.back_to.ensures, c.in_ok-here.ensures.0)
    (back_is (g.F.Flash.seen c.args.flash.now) (g.F.Flash.seen c.mark.new.self) (g.F.Flash.seen c.run.new.flash) c.in_ok-here.ensures.1 ran.counts.keeps ran.spends.limits)
