use Rattle.std.proofs.Common.{arith, string_bytes}
use Rattle.std.specs.Prelude.{◌-◌}
use Rattle.mc_flash.specs.Flash.{sectors_of}
use Rattle.mc_trace.proofs.Hinted.{grew}
use Rattle.mc_trace.proofs.hints.push_magics.Goals as goal

pub loop-sector-preserved : goal.loop-sector-preserved
loop-sector-preserved c = record {
  written = grew c.args.layout.now c.args.slot c.args.bytes.now c.loop-sector.sector (sectors_of c.args.layout.now c.args.slot - 1) (string_bytes c.loop-sector.text)
      (string_bytes c.push_str.new.self) _
      (omega (arith, c.loop-sector-test.true, c.sectors-sector-end.ensures.value))
      (cc (c.in_ok-push_str.ensures.bytes, c.as_str.ensures, c.magic_line.ensures))
      c.loop-sector.invariant.written;
}
