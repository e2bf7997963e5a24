use Rattle.std.proofs.Common.{arith, refl}
use Rattle.mc_explore.proofs.Runs.{cut_repeated}
use Rattle.mc_explore.proofs.census.CensusOf+Schedule.repeated.Goals as goal

pub returns : goal.returns
returns c = λ a is.
    cut_repeated c.args.times c.args.step c.from-count.result c.args.self.now c.prefixed.result _ a is (c.prefixed.ensures a is) (omega (arith, c.if-times-eq0.false)) c.from-count.ensures
    c.saturating_mul.ensures c.saturating_mul-2.ensures c.saturating_mul-3.ensures c.saturating_mul-4.ensures c.saturating_mul-5.ensures refl refl
