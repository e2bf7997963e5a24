use Rattle.std.proofs.{Common.{arith, inl, inr}, lemmas.Bool.{cases_eq}}
use Rattle.mc_tear.proofs.reading.Reading.read.Goals as goal

pub loop-number-preserved : goal.loop-number-preserved
loop-number-preserved c = λ n below is. elim (cases_eq n c.loop-number.number) [
  | inl here ↦ grind arith
  | inr other ↦ c.loop-number.invariant n (omega (arith, below, other)) is
]
