use Rattle.std.specs.Prelude.{◌≡◌, ◌-◌}
use Rattle.mc_flash.specs.Flash.{sectors_of}
use Rattle.mc_trace.specs.Sectors.{first_like}
use Rattle.mc_trace.proofs.cells.first_like.Given as goal

abbrev pub invariant-loop-sector : goal.invariant-loop-sector
invariant-loop-sector l = record {
  written : first_like l.layout l.bytes l.wanted 0 (sectors_of l.layout l.slot) ≡ first_like l.layout l.bytes l.wanted l.sector (sectors_of l.layout l.slot - l.sector);
}
