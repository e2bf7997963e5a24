use Rattle.std.proofs.Common.{false, refl}
use Rattle.mc_life.specs.Device.{IsTornTo, Standing}
use Rattle.mc_life.proofs.device.Device.tear.Goals as goal

pub returns-clause-torn : goal.returns-clause-torn
returns-clause-torn g c =
    let i = c.self.inside in
    let d : Standing = record { seen = g.F.Flash.seen i.flash; rules = i.rules; runs = i.runs; wear = i.wear } in
    let e : Standing = record { seen = g.F.Flash.seen c.tear.new.flash; rules = i.rules; runs = false; wear = c.tear.new.wear } in
    let w = c.in_ok-tear.ensures in
    let torn : IsTornTo d c.args.count c.args.reading.now e = record { loses = w.loses; off = refl; rules = refl; geometry = w.layout; wear = w.wear } in
    rw (← c.self.view_is) torn
