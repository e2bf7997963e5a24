use Rattle.std.specs.{Prelude.{map, ◌≡◌}, List.{range_with_len}}
use Rattle.mc_vectors.specs.Cases.{sector_digest}
use Rattle.mc_vectors.proofs.digests.SlotDigests.renew.Given as goal

abbrev pub invariant-loop-number : goal.invariant-loop-number
invariant-loop-number l = l.digests.items ≡ map (sector_digest l.fn.size l.fn.bytes) (range_with_len 0 l.number)
