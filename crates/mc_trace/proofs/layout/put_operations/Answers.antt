use Rattle.std.proofs.Common.{append_assoc}
use Rattle.mc_trace.specs.LayoutText.{operations_text}
use Rattle.mc_trace.proofs.layout.put_operations.Goals as goal

pub returns-clause-text : goal.returns-clause-text
unfolding operations_text
returns-clause-text c =
    rw (
      c.put-6.ensures.text,
      c.put_long_number.ensures.text,
      c.most_operations.ensures.value,
      c.put-5.ensures.text,
      c.put-4.ensures.text,
      c.name-2.ensures.text,
      c.put-3.ensures.text,
      c.put_number.ensures.text,
      c.swap_operations.ensures.value,
      c.put-2.ensures.text,
      c.put.ensures.text,
      c.name.ensures.text,
    ) (simp append_assoc)
