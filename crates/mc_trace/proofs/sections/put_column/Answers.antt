use Rattle.std.proofs.Common.{append_assoc}
use Rattle.mc_trace.specs.Frames.{column_text}
use Rattle.mc_trace.proofs.sections.put_column.Goals as goal

pub returns-clause-text : goal.returns-clause-text
unfolding column_text
returns-clause-text c =
    rw (
      c.put-4.ensures.text,
      c.put-3.ensures.text,
      c.name.ensures.text,
      c.put-2.ensures.text,
      c.put_number.ensures.text,
      c.sectors.ensures.value,
      c.put.ensures.text,
    )
    (simp append_assoc)
