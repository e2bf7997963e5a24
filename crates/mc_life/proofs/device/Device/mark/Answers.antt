use Rattle.std.proofs.Common.{refl, sym, ◌∙◌}
use Rattle.mc_life.specs.Device.{Standing}
use Rattle.mc_life.proofs.Going.{marks}
use Rattle.mc_life.proofs.device.Device.mark.Goals as goal

pub returns-clause-goes : goal.returns-clause-goes
returns-clause-goes g c =
    let i = c.self.inside in
    let d : Standing = record { seen = g.F.Flash.seen i.flash; rules = i.rules; runs = i.runs; wear = i.wear } in
    let e : Standing = record { seen = g.F.Flash.seen c.in_ok-self-inside.field-0; rules = i.rules; runs = i.runs; wear = i.wear } in
    let w = c.in_ok-self-inside.ensures in
    rw (← c.self.view_is) (marks d e _ (record { rules = refl; geometry = w.layout; wear = c.idles.ensures }) c.args.bytes.now c.if-not-self.false
    (sym c.is_done.ensures ∙ c.if-not-is_done.false) c.if-bytes-gt8.false refl w.content)
