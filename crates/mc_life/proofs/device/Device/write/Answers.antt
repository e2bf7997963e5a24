use Rattle.std.proofs.Common.{refl}
use Rattle.mc_life.specs.Device.{Standing}
use Rattle.mc_life.proofs.{Going.{stored}, Writing.{part_stands}}
use Rattle.mc_life.proofs.device.Device.write.Goals as goal

pub returns-clause-goes : goal.returns-clause-goes
returns-clause-goes g c =
    let i = c.self.inside in
    let d : Standing = record { seen = g.F.Flash.seen i.flash; rules = i.rules; runs = i.runs; wear = i.wear } in
    let e : Standing = record { seen = g.F.Flash.seen c.write.new.flash; rules = i.rules; runs = i.runs; wear = i.wear } in
    let w = c.in_ok-write.ensures in
    let left = part_stands d c.args.file.now c.args.from c.args.count c.in-Some.part.now c.in-Some.ensures.1 e.seen.content w.content in
    rw (← c.self.view_is) (stored d e _ (record { rules = refl; geometry = w.layout; wear = c.idles.ensures }) _ c.if-not-self.false refl c.secondary_stands.ensures left)
