use Rattle.std.proofs.Common.{refl}
use Rattle.mc_life.specs.Device.{Standing}
use Rattle.mc_life.proofs.Going.{erased_content, stored}
use Rattle.mc_life.proofs.device.Device.erase.Goals as goal

pub returns-clause-goes : goal.returns-clause-goes
returns-clause-goes g c =
    let i = c.self.inside in
    let d : Standing = record { seen = g.F.Flash.seen i.flash; rules = i.rules; runs = i.runs; wear = i.wear } in
    let e : Standing = record { seen = g.F.Flash.seen c.erase.new.flash; rules = i.rules; runs = i.runs; wear = c.erase.new.wear } in
    let w = c.in_ok-erase.ensures in
    let left = erased_content d.seen e.seen c.args.sector w.does.0 in
    rw (← c.self.view_is) (stored d e _ (record { rules = refl; geometry = left.0; wear = w.wear }) _ c.if-not-self.false refl c.secondary_stands.ensures left.1)
