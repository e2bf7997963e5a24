use Rattle.std.proofs.Common.{append_assoc}
use Rattle.mc_flash.specs.declared.flash.Grain.TheVariants.{Call}
use Rattle.mc_trace.specs.Wear.{erases_text}
use Rattle.mc_trace.proofs.wear.put_erases.Goals as goal

pub returns-clause-text : goal.returns-clause-text
unfolding erases_text
returns-clause-text c =
    rw (
      c.put-5.ensures.text,
      c.put_number-4.ensures.text,
      c.swap_wear-secondary.ensures.trailer Call,
      c.put-4.ensures.text,
      c.put_number-3.ensures.text,
      c.swap_wear-primary.ensures.trailer Call,
      c.put-3.ensures.text,
      c.put_number-2.ensures.text,
      c.swap_wear-secondary.ensures.data Call,
      c.put-2.ensures.text,
      c.put_number.ensures.text,
      c.swap_wear-primary.ensures.data Call,
      c.put.ensures.text,
    )
    (simp append_assoc)
