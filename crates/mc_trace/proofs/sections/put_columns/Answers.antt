use Rattle.std.proofs.Common.{append_assoc}
use Rattle.mc_trace.specs.Frames.{columns_text}
use Rattle.mc_trace.proofs.sections.put_columns.Goals as goal

pub returns : goal.returns
unfolding columns_text
returns c =
    rw (
      c.put-3.ensures.text,
      c.put_column-2.ensures.text,
      c.put-2.ensures.text,
      c.put_column.ensures.text,
      c.put.ensures.text,
    )
    (simp append_assoc)
