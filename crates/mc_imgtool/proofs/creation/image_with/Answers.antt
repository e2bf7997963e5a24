use Rattle.std.proofs.Common.{refl, ◌∙◌}
use Rattle.mc_imgtool.specs.Created.{bare_image}
use Rattle.mc_imgtool.proofs.Wanted.{bare_parts, written_is}
use Rattle.mc_imgtool.proofs.creation.image_with.Goals as goal

pub returns-in-Ok-clause-made : goal.returns-in-Ok-clause-made
returns-in-Ok-clause-made c =
    written_is _ (bare_image c.args.options.now c.args.payload.now) c.in_ok-image.image.items _
    (bare_parts _ c.args.options.now _ refl refl refl (c.as_slice.ensures.value ∙ c.in_ok-rest.ensures.items_if_clones_equal (λ y same. same)) refl c.requires.area refl) c.in_ok-image.ensures.items
    c.in-Ok.ensures.written.1
