use Rattle.std.specs.Prelude.{◌≡◌, ◌-◌, ◌++◌, string_bytes}
use Rattle.mc_flash.specs.Flash.{sectors_of}
use Rattle.mc_trace.specs.Hints.{magics_text}
use Rattle.mc_trace.proofs.hints.push_magics.Given as goal

abbrev pub invariant-loop-sector : goal.invariant-loop-sector
invariant-loop-sector l = record {
  written : string_bytes l.text ++ magics_text l.layout l.slot l.bytes l.sector (sectors_of l.layout l.slot - 1 - l.sector)
      ≡ string_bytes l.fn.text ++ magics_text l.layout l.slot l.bytes 0 (sectors_of l.layout l.slot - 1);
}
