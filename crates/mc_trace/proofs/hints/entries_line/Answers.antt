use Rattle.std.proofs.{Common.{◌≡◌, ◌==◌, ℕ, false, arith}, lemmas.Bool.Decides.{nat_tests}}
use Rattle.mc_trace.specs.Hints.{entries_text}
use Rattle.mc_trace.proofs.hints.entries_line.Goals as goal

differ : (a b : ℕ) → (a ≡ b → ⊥) → (a == b) ≡ false
differ a b other = grind (arith, nat_tests, other)

pub returns-then-span-max_sectors : goal.returns-then-span-max_sectors
unfolding entries_text
returns-then-span-max_sectors c = grind (arith, differ)
