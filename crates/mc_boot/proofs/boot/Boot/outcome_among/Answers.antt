use Rattle.std.proofs.Common.{sym, ap, ◌∙◌}
use Rattle.std.specs.Prelude.{Some}
use Rattle.mc_boot.specs.{Boot.{progress}, Outcome.{Report}, facts.Run.{come_outcome}}
use Rattle.mc_boot.proofs.boot.Boot.outcome_among.Goals as goal
use Rattle.mc_boot.specs.Plan.{power_on}

pub returns-clause-end : goal.returns-clause-end
returns-clause-end g c r s come end =
    come_outcome (power_on r (g.F.Flash.seen c.args.flash.now).geometry s) (progress c.args.self.now) (g.F.Flash.seen c.args.flash.now).content come end
    ∙ ap (λ (x : Report). Some x) (sym c.read.ensures)
