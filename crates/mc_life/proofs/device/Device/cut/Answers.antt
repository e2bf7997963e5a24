use Rattle.std.proofs.Common.{refl, false}
use Rattle.mc_life.specs.Device.{Standing}
use Rattle.mc_life.proofs.Going.{is_cut}
use Rattle.mc_life.proofs.device.Device.cut.Goals as goal

pub returns-clause-goes : goal.returns-clause-goes
returns-clause-goes g c =
    let i = c.self.inside in
    let d : Standing = record { seen = g.F.Flash.seen i.flash; rules = i.rules; runs = i.runs; wear = i.wear } in
    let e : Standing = record { seen = g.F.Flash.seen c.cut_all.new.flash; rules = i.rules; runs = false; wear = c.cut_all.new.wear } in
    let w = c.in_ok-cut_all.ensures in
    rw (← c.self.view_is) (is_cut d e _ (record { rules = refl; geometry = w.layout; wear = w.wear }) c.args.count w.after refl)
