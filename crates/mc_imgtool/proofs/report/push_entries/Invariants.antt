use Rattle.std.proofs.Common.{◌≡◌, ◌++◌, string_bytes}
use Rattle.mc_imgtool.specs.Lines.{entry_lines}
use Rattle.mc_imgtool.proofs.report.push_entries.Given as goal

abbrev pub invariant-loop-tlv : goal.invariant-loop-tlv
invariant-loop-tlv l = string_bytes l.text ++ entry_lines l.tlv-iterator ≡ string_bytes l.initial.text ++ entry_lines l.initial.tlv-iterator
