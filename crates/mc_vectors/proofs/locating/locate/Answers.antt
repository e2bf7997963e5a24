use Rattle.std.specs.Prelude.{Contains, is_some}
use Rattle.std.proofs.Common.{List, ap, arith, subst}
use Rattle.mc_vectors.specs.declared.case.Case.{Case}
use Rattle.mc_vectors.proofs.{Differing.{same_content}, Nearest.{nearest_of_all}}
use Rattle.mc_vectors.proofs.locating.locate.Goals as goal

pub nearest-requires-clause-occur : goal.nearest-requires-clause-occur
nearest-requires-clause-occur g c k inside =
    ap is_some ((c.in_ok-found.ensures.cases.each k (subst (λ (l : List Case). Contains l k) c.deref.ensures.value inside)).0.leaves)

pub returns-clause-nearest : goal.returns-clause-nearest
returns-clause-nearest g c = grind (arith, nearest_of_all)

pub returns-clause-whole : goal.returns-clause-whole
returns-clause-whole g c whole = grind (arith, nearest_of_all)

pub returns-clause-same : goal.returns-clause-same
returns-clause-same g c none = grind (arith, same_content)
