use Rattle.mc_explore.specs.inner.OneRound.{begins, one_round}
use Rattle.mc_walk.specs.facts.Twins.{none_passed}
use Rattle.mc_tests.proofs.explore.plain.PlainFlashTree.pass_twins.Goals as goal

pub returns-clause-passes : goal.returns-clause-passes
returns-clause-passes g c = none_passed (one_round (begins c.args.self.boots)) c.args._most c.args._at.now c.args._child.now (g.F.Flash.seen c.args._flash.now)
