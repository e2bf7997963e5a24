use Rattle.std.proofs.Common.{arith, inl, inr, refl}
use Rattle.mc_c.proofs.engines.census.Goals as goal

pub returns-in-Err : goal.returns-in-Err
returns-in-Err c = inr (omega (arith, c.if-bound.false), inl (c.in_ok-start.start, c.in_ok-start.ensures, rw c.in-Err.ensures.err refl))

pub returns : goal.returns
returns c = inr (omega (arith, c.if-bound.false), inl (c.in_ok-start.start, c.in_ok-start.ensures, refl))
