use Rattle.std.proofs.Common.{inr, sym, ap, ◌∙◌}
use Rattle.mc_imgtool.specs.Created.{slotted}
use Rattle.mc_imgtool.proofs.Wanted.{created_refused, created_made, made_slotted, made_valid, payload_short}
use Rattle.mc_imgtool.proofs.creation.bytes_for.Goals as goal

pub returns-in_default-clause-made : goal.returns-in_default-clause-made
returns-in_default-clause-made c = inr (created_refused _ _ c.requires.given c.requires.fits c.in_default.ensures)

pub returns-in-Ok-clause-made : goal.returns-in-Ok-clause-made
returns-in-Ok-clause-made c =
    made_slotted _ c.args.options.now c.slotted.result _ c.in-Ok.image.items
    (created_made _ _ _ c.requires.given c.requires.fits c.in-Some.ensures.0 c.in-Some.ensures.1 ∙ ap (slotted c.args.options.now) (sym c.in-Ok.ensures.made)) c.slotted.ensures

pub returns-in-Ok-clause-valid : goal.returns-in-Ok-clause-valid
returns-in-Ok-clause-valid c = made_valid _ c.args.options.now c.in-Ok.image.items c.slotted.result c.in-Ok.ensures.valid c.slotted.ensures

pub image_of-requires-clause-fits : goal.image_of-requires-clause-fits
image_of-requires-clause-fits c = payload_short _ _ _ c.in-Some.ensures.1 c.requires.fits
