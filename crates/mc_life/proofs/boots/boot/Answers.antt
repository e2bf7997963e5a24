use Rattle.std.proofs.Common.{ap, ◌∙◌}
use Rattle.mc_boot.specs.{Boot.{progress}, Outcome.{shown}, Plan.{powered}, facts.Run.{come_left}}
use Rattle.mc_life.specs.Device.{worn}
use Rattle.mc_life.proofs.Booting.{all_are, ended_all, outcome_on}
use Rattle.mc_life.proofs.boots.boot.Goals as goal

pub returns-clause-left : goal.returns-clause-left
returns-clause-left g c =
    let e = c.in_ok-boot.ensures in
    come_left _ _ _ e.come (ended_all _ (progress c.in_ok-boot.boot).count e.end)

pub returns-clause-outcome : goal.returns-clause-outcome
returns-clause-outcome g c =
    let e = c.in_ok-boot.ensures in
    let x = powered c.args.rules (g.F.Flash.seen c.args.flash.now) in
    let f = g.F.Flash.seen c.run.new.flash in
    outcome_on x (progress c.in_ok-boot.boot) f.content (shown c.outcome_among.result) f.geometry e.layout c.outcome_among.ensures.end e.come (ended_all _ (progress c.in_ok-boot.boot).count e.end)

pub returns-clause-wear : goal.returns-clause-wear
returns-clause-wear g c =
    let e = c.in_ok-boot.ensures in
    e.wear ∙ ap (worn c.args.wear.now) (all_are _ _ _ e.come (ended_all _ (progress c.in_ok-boot.boot).count e.end))
