use Rattle.mc_explore.specs.inner.OneRound.{begins, one_round}
use Rattle.mc_explore.proofs.Onwards.{goes_on_here}
use Rattle.mc_explore.proofs.one_round.OneRound.tail_of.Goals as goal

pub returns : goal.returns
returns g c = unfold one_round in
    goes_on_here (begins c.args.self.now) c.args.at.now c.args.child.now c.args._parent.now (g.F.Flash.seen c.args.flash.now) c.find.result c.find.ensures
