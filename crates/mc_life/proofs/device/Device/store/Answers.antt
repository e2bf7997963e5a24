use Rattle.std.proofs.Common.{refl}
use Rattle.mc_life.specs.Device.{Standing}
use Rattle.mc_life.proofs.Going.{stored}
use Rattle.mc_life.proofs.device.Device.store.Goals as goal

pub returns-clause-goes : goal.returns-clause-goes
returns-clause-goes g c =
    let i = c.self.inside in
    let d : Standing = record { seen = g.F.Flash.seen i.flash; rules = i.rules; runs = i.runs; wear = i.wear } in
    let e : Standing = record { seen = g.F.Flash.seen c.rewrite.new.flash; rules = i.rules; runs = i.runs; wear = c.rewrite.new.wear } in
    let w = c.in_ok-rewrite.ensures in
    rw (← c.self.view_is) (stored d e _ (record { rules = refl; geometry = w.layout; wear = w.wear }) c.args.bytes.now c.if-not-self.false refl c.secondary_stands.ensures w.content)
