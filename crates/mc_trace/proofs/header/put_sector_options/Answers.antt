use Rattle.std.proofs.Common.{append_assoc}
use Rattle.mc_trace.specs.Frames.{sector_options}
use Rattle.mc_trace.proofs.header.put_sector_options.Goals as goal

pub returns-clause-text : goal.returns-clause-text
unfolding sector_options
returns-clause-text c =
    rw (
      c.put_number-3.ensures.text,
      c.max_sectors.ensures.value,
      c.put-3.ensures.text,
      c.put_number-2.ensures.text,
      c.unit.ensures.value,
      c.put-2.ensures.text,
      c.put_number.ensures.text,
      c.sector.ensures.value,
      c.put.ensures.text,
    )
    (simp append_assoc)
