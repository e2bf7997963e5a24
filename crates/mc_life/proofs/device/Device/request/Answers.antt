use Rattle.std.proofs.{Common.{refl}, lemmas.Result.{err_from_is_err_and}}
use Rattle.mc_life.specs.Device.{Standing}
use Rattle.mc_life.proofs.Going.{request_fails, stored}
use Rattle.mc_life.proofs.device.Device.request.Goals as goal

pub returns-clause-goes : goal.returns-clause-goes
returns-clause-goes g c =
    let i = c.self.inside in
    let d : Standing = record { seen = g.F.Flash.seen i.flash; rules = i.rules; runs = i.runs; wear = i.wear } in
    let e : Standing = record { seen = g.F.Flash.seen c.ask.new.flash; rules = i.rules; runs = i.runs; wear = i.wear } in
    let w = c.in_ok-ask.ensures in
    rw (← c.self.view_is) (stored d e _ (record { rules = refl; geometry = w.layout; wear = c.idles.ensures }) _ c.if-not-self.false refl c.secondary_stands.ensures w.content)

pub returns-in_err-ask-clause-refused : goal.returns-in_err-ask-clause-refused
returns-in_err-ask-clause-refused g c =
    let i = c.self.inside in
    let d : Standing = record { seen = g.F.Flash.seen i.flash; rules = i.rules; runs = i.runs; wear = i.wear } in
    let p = err_from_is_err_and c.from_residual.result c.from_residual.ensures.1 in
    rw (← c.self.view_is, p.1) (request_fails d c.args.request c.in_err-ask.field-0.0 p.0 c.if-not-self.false p.2 c.in_err-ask.ensures.refused)
