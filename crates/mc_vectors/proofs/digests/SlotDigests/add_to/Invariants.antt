use Rattle.std.specs.{Prelude.{List, take, ℕ, ◌++◌}, List.{concat}}
use Rattle.sha2.specs.Hashers.{Holds256}
use Rattle.mc_vectors.proofs.digests.SlotDigests.add_to.Given as goal

abbrev pub invariant-loop-digest : goal.invariant-loop-digest
invariant-loop-digest l = (m : List ℕ) → Holds256 l.initial.hasher m → Holds256 l.hasher (m ++ concat (take l.digest-index l.fn.self.digests.items))
