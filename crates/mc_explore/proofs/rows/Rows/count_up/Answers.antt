use Rattle.std.proofs.Common.{Bool, arith, false, refl, sym, true, ◌≡◌}
use Rattle.mc_explore.specs.inner.{BootRows.{AreAhead, AreKeptOf, IsRowIn, counted_up}, BootTree.{model_of}, Exploring.{IsRowing}}
use Rattle.mc_explore.proofs.Rowing.{finds_taken, rowing_taken, works_taken}
use Rattle.mc_explore.proofs.rows.Rows.count_up.Goals as goal

pub invariant_of-self : goal.invariant_of-self
invariant_of-self g c = by c.count_up.result refl
  where
    by : (b : Bool) → c.count_up.result ≡ b → IsRowing model_of IsRowIn counted_up AreKeptOf AreAhead c.self.inside.tour c.self.inside.kept c.self.inside.path c.count_up.new.ahead c.count_up.new.row
    by true is = rowing_taken model_of IsRowIn AreKeptOf AreAhead _ _ _ _ _ _ _ c.self.invariant (c.count_up.ensures.next is) (c.count_up.ensures.counted is)
    by false is = let same = c.count_up.ensures.same is in rw (same.0, same.1) c.self.invariant

pub returns-clause-finds : goal.returns-clause-finds
returns-clause-finds g c = λ is.
    rw (sym c.self.view_is)
    (finds_taken model_of IsRowIn AreKeptOf AreAhead c.self.inside.tour c.self.inside.kept _ _ _ _ _ c.self.invariant
    (c.count_up.ensures.next is) (c.count_up.ensures.counted is) c.self.inside.row c.count_up.new.row)

pub returns-clause-counted : goal.returns-clause-counted
returns-clause-counted g c = λ is. rw (sym c.self.view_is) (c.count_up.ensures.counted is)

pub returns-clause-costs : goal.returns-clause-costs
returns-clause-costs g c = λ is.
    let works = works_taken model_of IsRowIn AreKeptOf AreAhead _ _ _ _ _ _ _ c.self.invariant (c.count_up.ensures.next is) (c.count_up.ensures.counted is) in
    rw (sym c.self.view_is) (works, record { limits = refl; failed = refl; applied = omega arith })
