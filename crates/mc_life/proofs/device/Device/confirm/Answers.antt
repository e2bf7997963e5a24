use Rattle.std.proofs.Common.{refl}
use Rattle.mc_life.specs.Device.{Standing}
use Rattle.mc_life.proofs.Going.{confirms}
use Rattle.mc_life.proofs.device.Device.confirm.Goals as goal

pub returns-clause-goes : goal.returns-clause-goes
returns-clause-goes g c =
    let i = c.self.inside in
    let d : Standing = record { seen = g.F.Flash.seen i.flash; rules = i.rules; runs = i.runs; wear = i.wear } in
    let e : Standing = record { seen = g.F.Flash.seen c.confirm.new.flash; rules = i.rules; runs = i.runs; wear = i.wear } in
    let w = c.in_ok-confirm.ensures in
    rw (← c.self.view_is) (confirms d e _ (record { rules = refl; geometry = w.keeps.geometry; wear = c.idles.ensures }) c.if-not-self.false refl w.content)
