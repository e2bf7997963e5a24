use Rattle.std.proofs.Common.{◌≡◌, ◌++◌, drop}
use Rattle.hex.specs.Hex.{encode_lower}
use Rattle.mc_output.proofs.line.Line.put_hex.Given as goal

abbrev pub invariant-loop-byte : goal.invariant-loop-byte
invariant-loop-byte l = l.self ++ encode_lower (drop l.byte-index l.bytes) ≡ l.fn.self ++ encode_lower l.bytes
