use Rattle.std.specs.Prelude.{◌≡◌, ◌≤◌, ◌++◌, option_map, string_bytes}
use Rattle.mc_trace.proofs.RunWords.{left, whole}
use Rattle.mc_trace.proofs.slot_words.push_words.Given as goal

abbrev pub invariant-loop-sector : goal.invariant-loop-sector
invariant-loop-sector l = record {
  written : string_bytes l.text ++ left l.layout (option_map (λ start. start.now.content) l.named) l.slot l.bytes l.run l.sector
      ≡ string_bytes l.fn.text ++ whole l.layout (option_map (λ start. start.now.content) l.named) l.slot l.bytes;
  some : 1 ≤ l.run.count;
  at_most : l.run.count ≤ l.sector;
}
