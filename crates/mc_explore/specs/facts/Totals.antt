-- The totals of rows are weights.
use Rattle.std.proofs.Common.{None, Option, Some, arith, option_map, refl, ◌≡◌}
use Rattle.std.specs.Option.{option_or}
use Rattle.mc_explore.specs.inner.Totals.{Totals, totals}
use Rattle.mc_tree.specs.inner.Weights.{IsWeighing}

pub same_totals : (x y : Totals) → x.schedules ≡ y.schedules → x.boot ≡ y.boot → x.none ≡ y.none → x.panic ≡ y.panic → x.fault ≡ y.fault → x.most ≡ y.most → x.first ≡ y.first → x ≡ y
same_totals x y a b c d e f h = grind arith

module _ {X : Type 0} where
  or_none : (o : Option X) → option_or o None ≡ o
  or_none None = refl
  or_none (Some x) = refl

  or_mapped : (f : X → X) (a b : Option X) → option_map f (option_or a b) ≡ option_or (option_map f a) (option_map f b)
  or_mapped f None b = refl
  or_mapped f (Some x) b = refl

pub totals_weigh : IsWeighing totals
totals_weigh = grind arith
