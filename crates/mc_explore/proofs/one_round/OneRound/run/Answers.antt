use Rattle.mc_boot.specs.Boot.{progress}
use Rattle.mc_explore.specs.inner.OneRound.{begins}
use Rattle.mc_explore.proofs.Onwards.{left_run, summary_run, ends_with}
use Rattle.mc_explore.proofs.one_round.OneRound.run.Goals as goal

pub returns-clause-ran : goal.returns-clause-ran
returns-clause-ran g c =
    let at = c.requires.begun in
    let e = c.in_ok-finish.ensures in
    let new = g.F.Flash.seen c.finish.new.flash in
    let outcome = c.outcome_among-outcome.result in
    record {
      summary_is = summary_run (begins c.args.self.now) _ c.args.boot at.layout_is at.begun outcome (ends_with _ new _ (progress c.finish.new.self) outcome e.goes.keeps e.goes.come e.end
          c.outcome_among-outcome.ensures.end);
      left_is = left_run (begins c.args.self.now) _ c.args.boot at.layout_is at.begun (progress c.finish.new.self) new e.goes.come e.end;
    }
