use Rattle.std.proofs.Common.{refl}
use Rattle.mc_boot.specs.Outcome.{shown}
use Rattle.mc_life.specs.Device.{Standing}
use Rattle.mc_life.proofs.Going.{boots_to, ends_as}
use Rattle.mc_life.proofs.device.Device.boot.Goals as goal

pub returns-clause-goes : goal.returns-clause-goes
returns-clause-goes g c =
    let i = c.self.inside in
    let d : Standing = record { seen = g.F.Flash.seen i.flash; rules = i.rules; runs = i.runs; wear = i.wear } in
    let f = g.F.Flash.seen c.cut_all.new.flash in
    let e : Standing = record { seen = g.F.Flash.seen c.boot.new.flash; rules = i.rules; runs = c.starts-runs.result; wear = c.boot.new.wear } in
    let w = c.in_ok-cut_all.ensures in
    let b = c.in_ok-outcome.ensures in
    rw (← c.self.view_is) (boots_to d e f c.args.cuts.now c.cut_all.new.wear w.after w.layout w.wear (shown c.in_ok-outcome.outcome) b.left b.outcome c.starts-runs.ensures refl b.layout b.wear)

pub returns-clause-outcome : goal.returns-clause-outcome
returns-clause-outcome g c =
    let i = c.self.inside in
    let d : Standing = record { seen = g.F.Flash.seen i.flash; rules = i.rules; runs = i.runs; wear = i.wear } in
    let f = g.F.Flash.seen c.cut_all.new.flash in
    let e : Standing = record { seen = g.F.Flash.seen c.boot.new.flash; rules = i.rules; runs = c.starts-runs.result; wear = c.boot.new.wear } in
    let w = c.in_ok-cut_all.ensures in
    let b = c.in_ok-outcome.ensures in
    rw (← c.self.view_is) (ends_as d e f c.args.cuts.now c.cut_all.new.wear w.after w.layout w.wear (shown c.in_ok-outcome.outcome) b.left b.outcome)
