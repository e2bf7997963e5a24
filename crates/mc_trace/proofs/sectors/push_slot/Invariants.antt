use Rattle.std.specs.Prelude.{◌≡◌, ◌-◌, ◌++◌, string_bytes}
use Rattle.mc_flash.specs.Flash.{sectors_of, slot_text}
use Rattle.mc_trace.specs.Sectors.{sector_words}
use Rattle.mc_trace.proofs.sectors.push_slot.Given as goal

abbrev pub invariant-loop-sector : goal.invariant-loop-sector
invariant-loop-sector l = record {
  written : string_bytes l.text ++ sector_words l.words l.start.geometry l.start.content l.slot l.bytes l.sector (sectors_of l.start.geometry l.slot - l.sector)
      ≡ (string_bytes l.fn.text ++ slot_text l.slot) ++ sector_words l.words l.start.geometry l.start.content l.slot l.bytes 0 (sectors_of l.start.geometry l.slot);
}
