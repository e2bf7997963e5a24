use Rattle.std.specs.Prelude.{false, ℕ, ◌+◌, ◌<◌, ◌≡◌}
use Rattle.mc_tear.specs.Cases.{may_change_at}
use Rattle.mc_tear.proofs.torn.may_change_some.Given as goal

abbrev pub invariant-loop-k : goal.invariant-loop-k
invariant-loop-k g l = (i : ℕ) → i < l.k → may_change_at l.erasing (g.F.Flash.seen l.flash).geometry l.op (g.F.Flash.seen l.flash).content (l.at + i) ≡ false
