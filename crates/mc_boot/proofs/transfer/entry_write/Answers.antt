use Rattle.mc_trailer.specs.facts.Places.{entry_range}
use Rattle.mc_boot.proofs.transfer.entry_write.Goals as goal

pub returns-clause-inside : goal.returns-clause-inside
returns-clause-inside c =
    rw (c.entry_place.ensures.place, c.one_unit.ensures) (entry_range c.args.layout.now c.args.transfer.entry 1 c.entry_place.ensures.valid c.requires.entry)
