use Rattle.std.proofs.Common.{append_assoc}
use Rattle.mc_flash.specs.declared.flash.Grain.TheVariants.{Call}
use Rattle.mc_trace.specs.Wear.{times_text}
use Rattle.mc_trace.proofs.wear.put_times.Goals as goal

pub returns-clause-text : goal.returns-clause-text
unfolding times_text
returns-clause-text c =
    rw (
      c.put-3.ensures.text,
      c.put_long_number-2.ensures.text,
      c.swap_time-2.ensures.time Call,
      c.put-2.ensures.text,
      c.put_long_number.ensures.text,
      c.swap_time.ensures.time Call,
      c.put.ensures.text,
    )
    (simp append_assoc)
