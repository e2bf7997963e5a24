use Rattle.std.specs.Prelude.{length}
use Rattle.hex.specs.Hex.{encode_lower}
use Rattle.mc_output.specs.facts.Prefixes.{IsOut}
use Rattle.mc_trace.proofs.patch.write_hex.Given as goal

abbrev pub invariant-pieces : goal.invariant-pieces
invariant-pieces g l = record {
  out : IsOut (g.W.Write.contents l.fn.writer) (g.W.Write.contents l.writer) (encode_lower l.bytes) (encode_lower l.rest);
}

abbrev pub decreases-pieces : goal.decreases-pieces
decreases-pieces g l = length l.rest
