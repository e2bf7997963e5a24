use Rattle.std.proofs.Common.{rules, Some, length, arith, refl, sym, ap, ◌∙◌}
use Rattle.mc_flash.specs.{facts.Layouts.{fits_inside}, declared.op.Slot.TheVariants.{Primary, Secondary}}
use Rattle.mc_image.specs.Valid.{Identity, identity}
use Rattle.mc_start.proofs.Starts.{names, given_ids}
use Rattle.mc_start.proofs.start.Start.from_images.Goals as goal

pub start_slots-requires-clause-first : goal.start_slots-requires-clause-first
start_slots-requires-clause-first c =
    let fits = sym (c.if-not-fits.ensures.value) in
    let size = length c.in-Ok.image.bytes.now in
    (fits_inside c.args.layout.now Primary size c.fits.ensures.valid fits, fits_inside c.args.layout.now Secondary size c.fits.ensures.valid fits)

pub start_slots-requires-clause-second : goal.start_slots-requires-clause-second
start_slots-requires-clause-second c =
    let fits = sym (c.if-not-fits-2.ensures.value) in
    let size = length c.in-Ok-read.image.bytes.now in
    (fits_inside c.args.layout.now Primary size c.fits.ensures.valid fits, fits_inside c.args.layout.now Secondary size c.fits.ensures.valid fits)

pub id-in_a-requires : goal.id-in_a-requires
id-in_a-requires c =
    let inside = fits_inside c.args.layout.now Primary (length c.in-Ok.image.bytes.now) c.fits.ensures.valid (sym (c.if-not-fits.ensures.value)) in
    omega (arith, inside, c.fits.ensures.valid.size, c.in-Ok.ensures.size, c.in-Ok.ensures.len)

pub id-in_b-requires : goal.id-in_b-requires
id-in_b-requires c =
    let inside = fits_inside c.args.layout.now Primary (length c.in-Ok-read.image.bytes.now) c.fits.ensures.valid (sym (c.if-not-fits-2.ensures.value)) in
    omega (arith, inside, c.fits.ensures.valid.size, c.in-Ok-read.ensures.size, c.in-Ok-read.ensures.len)

pub returns : goal.returns
returns c =
    let first = c.in-Ok.ensures.value in
    let second = c.in-Ok-read.ensures.value in
    let given = names c.args.kind c.args.a.now c.args.b.now (identity c.in-Ok.image.view) (identity c.in-Ok-read.image.view) first.2 second.2 in
    let ids = given_ids c.args.kind c.named_of.result c.id-in_a.result c.id-in_b.result (identity c.in-Ok.image.view) (identity c.in-Ok-read.image.view)
    c.named_of.ensures c.id-in_a.ensures c.id-in_b.ensures in
    (search rules, refl, refl, search rules, ap (λ (p : Identity × Identity). Some p) ids ∙ given)

pub invariant_of-result : goal.invariant_of-result
invariant_of-result c = (
  c.fits.ensures.valid,
  c.in_ok-content.ensures.sized,
  c.in_ok-line.ensures,
  rw c.bytes.ensures at c.known_id.ensures,
  rw c.bytes-2.ensures at c.known_id-2.ensures,
)
