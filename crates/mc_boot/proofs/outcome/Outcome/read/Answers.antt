use Rattle.std.proofs.Common.{ap, ◌∙◌}
use Rattle.mc_boot.specs.Boot.{Progress}
use Rattle.mc_boot.proofs.{Images.{images_read}, Plans.{reported}}
use Rattle.mc_boot.proofs.outcome.Outcome.read.Goals as goal
use Rattle.mc_boot.specs.Plan.{powered}

pub begin-requires : goal.begin-requires
begin-requires g c =
    images_read (g.F.Flash.seen c.args.flash.now).content c.slot_bytes.result.now c.slot_bytes-2.result.now c.slot_bytes.ensures.value c.slot_bytes-2.ensures.value
    c.read_among-primary.result.size c.read_among-secondary.result c.new-images.result c.read_among-primary.ensures.size c.read_among-secondary.ensures.size
    c.read_among-secondary.ensures.id c.new-images.ensures.valid
    c.new-images.ensures.size

pub returns : goal.returns
returns g c =
    reported (powered c.args.rules (g.F.Flash.seen c.args.flash.now)) c.args.kind c.kind.result c.args.ops c.args.faulted c.is_some.result c.result_of.result
    c.read_among-primary.result.id c.read_among-secondary.result.id
    c.result_of.ensures c.is_some.ensures
    (rw c.slot_bytes.ensures.value at c.read_among-primary.ensures.id)
    (rw c.slot_bytes-2.ensures.value at c.read_among-secondary.ensures.id)
    (c.kind.ensures ∙ ap (λ (p : Progress). p.kind) c.begin.ensures.progress)
