-- What the restart law says of the boot after the cuts is its outcome.
use Rattle.std.specs.Prelude.{◌≡◌, ℕ, List, [], ◌∷◌, length, Some, refl}
use Rattle.std.proofs.Common.{arith, ap, subst}
use Rattle.mc_flash.specs.{Geometry.{Geometry}, Flash.{Content}, declared.op.Op.{Op}}
use Rattle.mc_image.specs.Valid.{id_of}
use Rattle.mc_trailer.specs.declared.tables.Rules.{Rules}
use Rattle.mc_boot.specs.declared.outcome.BootResult.TheVariants as results
use Rattle.mc_boot.specs.{Outcome.{Report, report, outcome_of, after, left_by, ops_of, happening}, Plan.{plan, PowerOn, again, power_on}}
use Rattle.mc_boot.specs.{Restart.{EndsIn, IsSwapped, named, other}, declared.kind.Kind.{Kind}}
use Rattle.mc_boot.specs.declared.kind.Kind.TheVariants as starts
use Rattle.mc_explore.specs.{Schedules.{IsSwapOutcome}, facts.Summaries.{outcome_ops}}

-- Where the boot from u leaves z, the outcome's slots and next type are those of z.
pub summary_slots : (x : PowerOn) (z : Content) (o : Report) → outcome_of x ≡ Some o → left_by x ≡ Some z
    → (o.primary ≡ id_of z.primary) × (o.secondary ≡ id_of z.secondary) × (o.next ≡ (plan (again x z)).kind)
unfolding outcome_of report
summary_slots from z o is left = grind arith

-- Where nothing is planned, nothing happens.
pub idle_ops : (x : PowerOn) → (plan x).list ≡ [] → length (ops_of x) ≡ 0
unfolding ops_of
idle_ops x none = ap (λ (ops : List Op). length (happening x.geometry ops x.content)) none

-- Where nothing happens nothing can be cut.
pub uncut : (x : PowerOn) (u : Content) (cuts : List ℕ) → length (ops_of x) ≡ 0 → after x cuts ≡ Some u → cuts ≡ []
uncut x u [] none is = refl
uncut x u (cut ∷ cuts) none is = grind arith

module _ (r : Rules) (g : Geometry) (kind : Kind) (a b : List ℕ) (s : Content) where
  -- The result and the slots of the last boot are those that the law names.
  pub summary_end : (u z : Content) (o : Report) → outcome_of (power_on r g u) ≡ Some o → EndsIn (power_on r g s) kind a b u z
      → (o.result ≡ results.Boot) × (o.primary ≡ id_of (named kind a b)) × (o.secondary ≡ id_of (other kind a b))
  summary_end u z o is ends = grind (arith, summary_slots)

  idle_start : (u z : Content) → IsSwapped (power_on r g s) kind u z → kind ≡ starts.None → length (ops_of (power_on r g u)) ≡ 0
  idle_start u z swapped none = idle_ops (power_on r g u) (subst (λ k. IsSwapped (power_on r g s) k u z) none swapped)

  -- What the law says of the boot after the cuts, and of the first one, is their outcomes.
  pub swap_outcome : (u y z : Content) (cuts : List ℕ) (o : Report) → outcome_of (power_on r g u) ≡ Some o → after (power_on r g s) cuts ≡ Some u
      → EndsIn (power_on r g s) kind a b s y → EndsIn (power_on r g s) kind a b u z → IsSwapOutcome kind a b cuts o
  swap_outcome u y z cuts o is occurs first ends = grind (arith, summary_end, outcome_ops, idle_start, uncut)
