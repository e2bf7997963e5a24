use Rattle.mc_explore.specs.inner.OneRound.{begins, one_round}
use Rattle.mc_explore.proofs.Onwards.{can_pass, goes_on}
use Rattle.mc_explore.proofs.one_round.OneRoundFlashTree.next.Goals as goal

pub pass-requires : goal.pass-requires
pass-requires g c = unfold one_round in can_pass (begins c.args.self) c.args.at.now (g.F.Flash.seen c.args.flash.now) c.requires

pub returns-clause-goes_on : goal.returns-clause-goes_on
returns-clause-goes_on g c = unfold one_round in
    goes_on (begins c.args.self) c.args.at.now c.pass.new.at (g.F.Flash.seen c.args.flash.now) (g.F.Flash.seen c.pass.new.flash) c.pass.result c.pass.ensures.passes
