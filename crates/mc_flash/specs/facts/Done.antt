-- An operation of a flash, by what it does to the content.
use Rattle.std.proofs.Common.{◌≡◌, refl, sym, ap, ◌∙◌, inl, inr}
use Rattle.std.specs.Prelude.{Option, Some, None, option_map, Result, Ok, Err}
use Rattle.mc_flash.specs.{Flash.{apply, Content}, Usage.{IsFull, noted, Seen, Does, GivesUp, Keeps, done, with_content}}
use Rattle.mc_flash.specs.declared.flash.FlashError.{FlashError}
use Rattle.mc_flash.specs.declared.flash.FlashError.TheVariants as errors
use Rattle.mc_flash.specs.declared.op.Op.{Op}

-- Where an operation is defined, it is done, and noted.
module _ (f : Seen) (op : Op) where
  pub done_as : (t : Content) → apply f.geometry op f.content ≡ Some t → done op f ≡ Some (with_content f t (noted f.geometry op f.usage))
  unfolding done
  done_as t is = ap (option_map (λ content. with_content f content (noted f.geometry op f.usage))) is

  pub done_not : apply f.geometry op f.content ≡ None → done op f ≡ None
  unfolding done
  done_not is = ap (option_map (λ content. with_content f content (noted f.geometry op f.usage))) is

-- What was done of a flash.
pub record Did (op : Op) (f h : Seen) : Type 0 where
  pub applied : apply f.geometry op f.content ≡ Some h.content
  pub is : h ≡ with_content f h.content (noted f.geometry op f.usage)

did_from : (op : Op) (f h : Seen) (o : Option Content) → apply f.geometry op f.content ≡ o
    → option_map (λ content. with_content f content (noted f.geometry op f.usage)) o ≡ Some h → Did op f h
did_from op f h None at is = absurd cc
did_from op f h (Some t) at is =
    let made : with_content f t (noted f.geometry op f.usage) ≡ h = cc in
    let content : t ≡ h.content = ap (λ (x : Seen). x.content) made in
    record {
      applied = at ∙ ap (λ (x : Content). Some x) content;
      is = sym made ∙ ap (λ (x : Content). with_content f x (noted f.geometry op f.usage)) content;
    }

pub did : (op : Op) (f h : Seen) → done op f ≡ Some h → Did op f h
unfolding done
did op f h is = did_from op f h (apply f.geometry op f.content) refl is

undone_from : (op : Op) (f : Seen) (o : Option Content) → option_map (λ content. with_content f content (noted f.geometry op f.usage)) o ≡ None → o ≡ None
undone_from op f None is = refl
undone_from op f (Some t) is = absurd cc

pub undefined : (op : Op) (f : Seen) → done op f ≡ None → apply f.geometry op f.content ≡ None
unfolding done
undefined op f is = undone_from op f (apply f.geometry op f.content) is

-- An operation keeps the layout and the checkpoints, whatever the answer.
pub does_keep : (op : Op) (f h : Seen) (result : Result (Unit {0}) FlashError) → Does op f result h → Keeps f h
does_keep op f h (Ok v) d =
    let made = (did op f h d.0).is in record { geometry = ap (λ (x : Seen). x.geometry) made; checkpoints = ap (λ (x : Seen). x.checkpoints) made }
does_keep op f h (Err errors.NotErased) d = record { geometry = ap (λ (x : Seen). x.geometry) d.1; checkpoints = ap (λ (x : Seen). x.checkpoints) d.1 }
does_keep op f h (Err errors.Memory) d = by d.1
  where
    by : GivesUp (IsFull f.geometry op f.usage) f h → Keeps f h
    by (inl kept) = record { geometry = ap (λ (x : Seen). x.geometry) kept.2; checkpoints = ap (λ (x : Seen). x.checkpoints) kept.2 }
    by (inr lost) = record { geometry = ap (λ (x : Seen). x.geometry) lost.1; checkpoints = ap (λ (x : Seen). x.checkpoints) lost.1 }
