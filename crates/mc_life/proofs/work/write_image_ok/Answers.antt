use Rattle.std.proofs.Common.{List, ℕ, length, ap, ◌%◌, ◌∙◌}
use Rattle.mc_flash.specs.Geometry.{Geometry}
use Rattle.mc_trailer.specs.{Trailer.{one_unit}, facts.Places.{one_unit_whole}}
use Rattle.mc_life.proofs.work.write_image_ok.Goals as goal

pub write_field-requires-clause-whole : goal.write_field-requires-clause-whole
write_field-requires-clause-whole g c =
    let f = g.F.Flash.seen c.args.flash.now in
    let same = c.bytes.ensures.value ∙ c.set_unit-unit.ensures ∙ ap (λ (x : Geometry). one_unit x 1) c.layout-2.ensures in
    ap (λ (z : List ℕ). length z % f.geometry.unit) same ∙ one_unit_whole f.geometry 1 (rw c.layout.ensures at c.unit-unit.ensures.valid)
