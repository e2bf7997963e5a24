use Rattle.std.proofs.Common.{append_assoc}
use Rattle.mc_trace.specs.LayoutText.{sizes_text}
use Rattle.mc_trace.proofs.layout.sizes_line.Goals as goal

pub returns : goal.returns
unfolding sizes_text
returns c =
    rw (
      c.put-5.ensures.text,
      c.put_number-4.ensures.text,
      c.largest_image.ensures.value,
      c.put-4.ensures.text,
      c.put_number-3.ensures.text,
      c.greatest_sectors.ensures.value,
      c.put-3.ensures.text,
      c.put_number-2.ensures.text,
      c.trailer_sectors.ensures.value,
      c.put-2.ensures.text,
      c.put_number.ensures.text,
      c.trailer_bytes.ensures.value,
      c.put.ensures.text,
      c.new-line.ensures,
    )
    (simp append_assoc)
