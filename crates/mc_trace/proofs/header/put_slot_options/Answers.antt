use Rattle.std.proofs.Common.{append_assoc}
use Rattle.mc_trace.specs.Frames.{slot_options}
use Rattle.mc_trace.proofs.header.put_slot_options.Goals as goal

pub returns-clause-text : goal.returns-clause-text
unfolding slot_options
returns-clause-text c =
    rw (
      c.put-4.ensures.text,
      c.put_number-3.ensures.text,
      c.sectors-2.ensures.value,
      c.put-3.ensures.text,
      c.put_number-2.ensures.text,
      c.sectors.ensures.value,
      c.put-2.ensures.text,
      c.put_number.ensures.text,
      c.chunk.ensures.value,
      c.put.ensures.text,
    )
    (simp append_assoc)
