use Rattle.mc_flash.specs.facts.Layouts.{whole_eights}
use Rattle.mc_life.proofs.work.write_magic.Goals as goal

pub write_field-requires-clause-whole : goal.write_field-requires-clause-whole
write_field-requires-clause-whole g c = whole_eights (g.F.Flash.seen c.args.flash.now).geometry 2 (rw c.layout.ensures at c.unit-unit.ensures.valid)
