use Rattle.std.proofs.Common.{arith}
use Rattle.mc_verdict.proofs.Shortening.{none_below}
use Rattle.mc_verdict.proofs.shortest.shortest_wrong.Goals as goal

pub returns-in-Some-first_not_right-clause-shortest : goal.returns-in-Some-first_not_right-clause-shortest
returns-in-Some-first_not_right-clause-shortest g c = (
  c.loop-bound.bound,
  omega (arith, c.loop-bound-test.true),
  record { rights = c.in_ok-rights.rights; are = c.in_ok-rights.ensures.rights; first_is = c.in-Some-first_not_right.is },
  c.loop-bound.invariant,
)

pub loop-bound-preserved : goal.loop-bound-preserved
loop-bound-preserved g c =
    none_below g.X.Subject.subject _ _ _ c.loop-bound.bound c.in_ok-rights.rights c.in_ok-rights.ensures.rights c.in_default-first_not_right.is c.loop-bound.invariant
