use Rattle.std.proofs.lemmas.Result.{err_from_is_err_and}
use Rattle.mc_explore.specs.inner.OneRound.{begins}
use Rattle.mc_explore.proofs.Onwards.{pass_spends, passes}
use Rattle.mc_explore.proofs.one_round.OneRound.pass.Goals as goal

pub returns-clause-passes : goal.returns-clause-passes
returns-clause-passes g c = let e = c.step.ensures in passes (begins c.args.self.now) _ _ _ _ _ c.requires c.in_ok-step.ensures.step e.come e.whole e.layout e.keeps

pub returns-clause-spends : goal.returns-clause-spends
returns-clause-spends g c =
    let e = c.step.ensures in
    rw c.in_ok-step.was at (pass_spends (begins c.args.self.now) _ c.step.new.self _ (g.F.Flash.seen c.step.new.flash) c.step.result c.requires e.step e.come)

pub returns-in_err-step-clause-spends : goal.returns-in_err-step-clause-spends
returns-in_err-step-clause-spends g c =
    let e = c.step.ensures in
    let p = err_from_is_err_and c.from_residual.result c.from_residual.ensures.1 in
    rw p.1 (rw c.in_err-step.was at (pass_spends (begins c.args.self.now) _ c.step.new.self _ (g.F.Flash.seen c.step.new.flash) c.step.result c.requires e.step e.come))
