use Rattle.std.proofs.Common.{append_assoc}
use Rattle.mc_trace.specs.Frames.{board_text, sector_options}
use Rattle.mc_trace.proofs.header.board_line.Goals as goal

pub returns : goal.returns
unfolding board_text sector_options
returns c =
    rw (
      c.put_rules.ensures.text,
      c.rules.ensures,
      c.put_slot_options.ensures.text,
      c.layout-2.ensures.value,
      c.put_sector_options.ensures.text,
      c.layout.ensures.value,
      c.put-3.ensures.text,
      c.put-2.ensures.text,
      c.put.ensures.text,
      c.new-line.ensures,
    )
    (simp append_assoc)
