use Rattle.mc_flash.specs.declared.op.Slot.TheVariants.{Primary, Secondary}
use Rattle.mc_life.proofs.Worn.{noted_primary, noted_secondary}
use Rattle.mc_life.proofs.wear.Wear.erased.Goals as goal

pub returns-in-Primary : goal.returns-in-Primary
returns-in-Primary c =
    rw (← c.self.view_is, c.in-Primary.is) (noted_primary _ _ c.args.sector (rw c.deref-2.ensures.value at c.counts_fit-2.ensures) (c.note_erase.ensures Primary))

pub returns-in-Secondary : goal.returns-in-Secondary
returns-in-Secondary c =
    rw (← c.self.view_is, c.in-Secondary.is) (noted_secondary _ _ c.args.sector (rw c.deref.ensures.value at c.counts_fit.ensures) (c.note_erase-in-Secondary.ensures Secondary))
