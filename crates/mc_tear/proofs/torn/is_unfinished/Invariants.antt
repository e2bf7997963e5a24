use Rattle.std.specs.Prelude.{slice_index, ℕ, ◌<◌, ◌≡◌}
use Rattle.mc_tear.specs.Cases.{written_byte}
use Rattle.mc_tear.proofs.torn.is_unfinished.Given as goal

abbrev pub invariant-loop-k : goal.invariant-loop-k
invariant-loop-k g l = (i : ℕ) → i < l.k → slice_index l.bytes i ≡ written_byte l.op (g.F.Flash.seen l.flash).content i
