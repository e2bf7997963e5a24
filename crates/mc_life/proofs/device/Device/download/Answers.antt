use Rattle.std.proofs.Common.{List, ℕ, refl, ap, ◌∙◌}
use Rattle.mc_boot.specs.Restart.{filled}
use Rattle.mc_flash.specs.{Flash.{with_bytes}, Geometry.{Geometry}, declared.op.Slot.TheVariants.{Secondary}}
use Rattle.mc_life.specs.Device.{Standing}
use Rattle.mc_life.proofs.Going.{stored}
use Rattle.mc_life.proofs.device.Device.download.Goals as goal

pub returns-clause-goes : goal.returns-clause-goes
returns-clause-goes g c =
    let i = c.self.inside in
    let d : Standing = record { seen = g.F.Flash.seen i.flash; rules = i.rules; runs = i.runs; wear = i.wear } in
    let e : Standing = record { seen = g.F.Flash.seen c.rewrite.new.flash; rules = i.rules; runs = i.runs; wear = c.rewrite.new.wear } in
    let w = c.in_ok-rewrite.ensures in
    let bytes = c.deref.ensures.value ∙ c.in_ok-slot.ensures.value ∙ ap (λ (x : Geometry). filled x Secondary c.in-Some.part.now) c.layout-2.ensures ∙ ap
    (filled d.seen.geometry Secondary) c.in-Some.ensures.1 in
    let left = w.content ∙ ap (λ (b : List ℕ). with_bytes d.seen.content Secondary b) bytes in
    rw (← c.self.view_is) (stored d e _ (record { rules = refl; geometry = w.layout; wear = w.wear }) _ c.if-not-self.false refl c.secondary_stands.ensures left)
