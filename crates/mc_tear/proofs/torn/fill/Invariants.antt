use Rattle.std.specs.{List.{range_with_len}, Prelude.{map, ◌≡◌}, Vec.{vec_capacity}}
use Rattle.mc_tear.specs.Cases.{torn_byte}
use Rattle.mc_tear.proofs.torn.fill.Given as goal

abbrev pub invariant-loop-k : goal.invariant-loop-k
invariant-loop-k g l = record {
  bytes : l.buffer.items ≡ map (torn_byte l.erasing (g.F.Flash.seen l.flash).geometry l.op (g.F.Flash.seen l.flash).content l.reading) (range_with_len 0 l.k);
  capacity : vec_capacity l.buffer ≡ vec_capacity l.fn.buffer;
}
