-- What follows for what calls spend. Proved here, so that the crates above can cite it.
use Rattle.std.specs.Prelude.{◌≡◌, ℕ, ◌+◌, ◌<◌, ◌≤◌, Bool, true, false, length, Some, Result, Ok, Err, refl}
use Rattle.std.proofs.{Common.{arith, inl, inr, sym, ap, subst, ◌∙◌}, lemmas.List.{get_or_at, take_at}}
use Rattle.mc_flash.specs.{facts.Done.{did}, Geometry.{Geometry}}
use Rattle.mc_flash.specs.Usage.{Usage, Limits, noted_by, saves, Seen, GivesUp, NoMarkFits, Keeps, Marks, done, marked, went_back, Spent, RanOut, Spends, Stays}
use Rattle.mc_flash.specs.declared.flash.FlashError.{FlashError}
use Rattle.mc_flash.specs.declared.flash.FlashError.TheVariants as errors
use Rattle.mc_flash.specs.declared.op.Op.{Op}

-- ---- one after another

pub spent_both : (a b : ℕ) (x y z : Seen) → Spent a x y → Spent b y z → Spent (a + b) x z
spent_both a b x y z s t = record { applied = omega (arith, s.applied, t.applied); limits = t.limits ∙ s.limits; failed = t.failed ∙ s.failed }

pub spent_more : (a b : ℕ) (x y : Seen) → a ≤ b → Spent a x y → Spent b x y
spent_more a b x y le s = record { applied = omega (arith, s.applied, le); limits = s.limits; failed = s.failed }

pub ran_out_later : (n : ℕ) (x y z : Seen) → Spent n x y → RanOut y z → RanOut x z
ran_out_later n x y z s r = record { counted = ap (λ (l : Limits). l.counted) (sym s.limits) ∙ r.counted; limits = r.limits ∙ s.limits; failed = r.failed }

pub keeps_both : (x y z : Seen) → Keeps x y → Keeps y z → Keeps x z
keeps_both x y z a b = record { geometry = b.geometry ∙ a.geometry; checkpoints = b.checkpoints ∙ a.checkpoints }

-- ---- operations

-- What an operation counts.
pub record Notes (g : Geometry) (op : Op) (old new : Usage) : Type 0 where
  pub entries : new.counts.entries ≤ old.counts.entries + 1
  pub saved : new.counts.saved ≤ old.counts.saved + saves g op
  pub applied : new.applied ≤ old.applied + 1
  pub limits : new.limits ≡ old.limits
  pub failed : new.failed ≡ old.failed

notes : (counted : Bool) (g : Geometry) (op : Op) (l : Usage) → Notes g op l (noted_by counted g op l)
notes true g op l = record { entries = omega arith; saved = omega arith; applied = omega arith; limits = refl; failed = refl }
notes false g op l = record { entries = omega arith; saved = omega arith; applied = omega arith; limits = refl; failed = refl }

pub done_notes : (op : Op) (old new : Seen) → done op old ≡ Some new → Notes old.geometry op old.usage new.usage
done_notes op old new is =
    let made = (did op old new is).is in
    subst (λ (f : Seen). Notes old.geometry op old.usage f.usage) (sym made) (notes old.usage.limits.counted old.geometry op old.usage)

-- A flash with room gives up only where memory fails it.
pub gave_up : (full : Type 0) (old new : Seen) → (full → ⊥) → GivesUp full old new → RanOut old new
gave_up full old new room (inl g) = absurd (room g.1)
gave_up full old new room (inr g) = grind arith

-- ---- checkpoints

pub spent_marked : (f : Seen) → Spent 0 f (marked f)
spent_marked f = record { applied = omega arith; limits = refl; failed = refl }

pub mark_spends : (old new : Seen) (result : Result ℕ FlashError) → length old.checkpoints < old.usage.limits.checkpoints → Marks old result new → Spends 0 old result new
mark_spends old new (Ok number) room m = subst (Spent 0 old) (sym m.1) (spent_marked old)
mark_spends old new (Err errors.Memory) room m = gave_up (NoMarkFits old) old new (λ full. omega (arith, room, full)) m
mark_spends old new (Err errors.NotErased) room m = absurd m

pub spent_back : (number : ℕ) (f : Seen) → Spent 0 f (went_back number f)
unfolding went_back
spent_back number f = record { applied = omega arith; limits = refl; failed = refl }

-- A flash that was marked and worked on, and is back at that checkpoint.
pub stays_back : (old mid end : Seen) → mid ≡ marked old → Keeps mid end → Stays old (went_back (length old.checkpoints) end)
unfolding went_back
stays_back old mid end m keeps = grind (arith, get_or_at, take_at)
