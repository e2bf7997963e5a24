-- The lines of a boot's operations, one step after another.
use Rattle.std.specs.Prelude.{◌≡◌, ℕ, zero, suc, ◌+◌, ◌-◌, ◌<◌, ◌≤◌, List, [], ◌∷◌, ◌++◌, take, slice_get, codes, Option, Some, None, IfSome, Result, Ok, Err, is_some, true, refl, OnOk, OnErr}
use Rattle.std.specs.Io.KnownBytes.{Appends}
use Rattle.std.proofs.Common.{arith, sym, ap, subst, append-nil, ◌∙◌}
use Rattle.mc_flash.specs.{facts.Done.{did, undefined}, Geometry.{Geometry}, Usage.{Seen}, declared.flash.FlashError.{FlashError}}
use Rattle.mc_flash.specs.declared.flash.FlashError.TheVariants as errors
use Rattle.mc_flash.specs.declared.op.Op.{Op}
use Rattle.mc_boot.specs.{Boot.{Progress, StepsAlong, Steps, progress, CountsOn, left_of, GoesOn, goes_further}, declared.boot.Boot.{Boot}}
use Rattle.mc_output.specs.{facts.Prefixes.{IsOut, out_prefix, out_more}, Text.{AppendsPrefix}}
use Rattle.mc_trace.specs.{inner.Boots.{CountsUpTo, GoesUpTo, WritesText}, declared.error.TraceError.{TraceError}}
use Rattle.mc_trace.specs.declared.error.TraceError.TheVariants as traces
use Rattle.mc_trace.specs.{Trace.{numbered_text, operation_lines, first_operation_lines, shown, up_to}, declared.trace.Span.{Span}}

-- What is still to be written of a boot that has come to p.
abbrev pub left_to_write : Span → Option ℕ → Seen → Progress → List ℕ
left_to_write span until f p = operation_lines span f.geometry p.count (up_to until p.count p.to_come) f.content

taken : (until : Option ℕ) (n : ℕ) (op : Op) (rest : List Op) → IfSome until (λ m. n < m) → up_to until n (op ∷ rest) ≡ op ∷ up_to until (n + 1) rest
taken None n op rest going = refl
taken (Some m) n op rest going = let e : m - n ≡ suc (m - (n + 1)) = omega (arith, going) in ap (λ k. take k (op ∷ rest)) e

none_of_none : (k : ℕ) → take {A = Op} k [] ≡ []
none_of_none zero = refl
none_of_none (suc k) = refl

pub none_left : (until : Option ℕ) (n : ℕ) → up_to until n [] ≡ []
none_left None n = refl
none_left (Some m) n = none_of_none (m - n)

module _ (span : Span) (old new : Seen) (p q : Progress) (op : Op) (until : Option ℕ) (first : slice_get p.to_come 0 ≡ Some op) (going : IfSome until (λ m. p.count < m)) where
  -- The next operation happened.
  pub happened : (result : Result (Unit {0}) FlashError) → result ≡ Ok tt → Steps p old result q new
      → left_to_write span until old p ≡ shown span p.count (numbered_text old.geometry p.count op ++ codes "\n") ++ left_to_write span until new q
  happened (Err e) is steps = absurd cc
  happened (Ok v) is steps = at p.to_come refl first steps
    where
      at : (ops : List Op) → p.to_come ≡ ops → slice_get ops 0 ≡ Some op → StepsAlong ops p old (Ok v) q new
          → left_to_write span until old p ≡ shown span p.count (numbered_text old.geometry p.count op ++ codes "\n") ++ left_to_write span until new q
      at [] to one d = absurd cc
      at (x ∷ rest) to one d =
          let same : x ≡ op = cc in
          let does = did x old new d.1.0 in
          let beyond : List Op = up_to until (p.count + 1) rest in
          let line : List ℕ = shown span p.count (numbered_text old.geometry p.count op ++ codes "\n") in
          ap (λ os. operation_lines span old.geometry p.count os old.content) (ap (up_to until p.count) to ∙ taken until p.count x rest going)
          ∙ ap (first_operation_lines span old.geometry p.count x (λ t. operation_lines span old.geometry (p.count + 1) beyond t)) does.applied
          ∙ ap (λ o. shown span p.count (numbered_text old.geometry p.count o ++ codes "\n") ++ operation_lines span old.geometry (p.count + 1) beyond new.content) same
          ∙ ap (λ (g : Geometry). line ++ operation_lines span g (p.count + 1) beyond new.content) (sym (ap (λ (f : Seen). f.geometry) does.is))
          ∙ ap (λ (z : Progress). line ++ left_to_write span until new z) (sym d.0)

  -- It was refused, and none is to come.
  pub refused : (result : Result (Unit {0}) FlashError) → result ≡ Err errors.NotErased → Steps p old result q new
      → left_to_write span until old p ≡ shown span p.count (numbered_text old.geometry p.count op ++ codes " refused\n") ++ left_to_write span until new q
  refused (Ok v) is steps = absurd cc
  refused (Err errors.Memory) is steps = absurd cc
  refused (Err errors.NotErased) is steps = at p.to_come refl first steps
    where
      at : (ops : List Op) → p.to_come ≡ ops → slice_get ops 0 ≡ Some op → StepsAlong ops p old (Err errors.NotErased) q new
          → left_to_write span until old p ≡ shown span p.count (numbered_text old.geometry p.count op ++ codes " refused\n") ++ left_to_write span until new q
      at [] to one d = absurd d
      at (x ∷ rest) to one d =
          let same : x ≡ op = cc in
          let line : List ℕ = shown span p.count (numbered_text old.geometry p.count op ++ codes " refused\n") in
          let over : left_to_write span until new q ≡ [] =
          ap (λ (z : Progress). left_to_write span until new z) d.0 ∙ ap (λ os. operation_lines span new.geometry p.count os new.content) (none_left until p.count) in
          ap (λ os. operation_lines span old.geometry p.count os old.content) (ap (up_to until p.count) to ∙ taken until p.count x rest going)
          ∙ ap (first_operation_lines span old.geometry p.count x (λ t. operation_lines span old.geometry (p.count + 1) (up_to until (p.count + 1) rest) t)) (undefined x old d.1.0)
          ∙ ap (λ o. shown span p.count (numbered_text old.geometry p.count o ++ codes " refused\n")) same
          ∙ sym (append-nil line)
          ∙ ap (λ z. line ++ z) (sym over)

-- None is left where there is no next one, and where the number is reached.
pub over : (span : Span) (until : Option ℕ) (f : Seen) (p : Progress) → p.to_come ≡ [] → left_to_write span until f p ≡ []
over span until f p end = grind (arith, none_left)

pub reached : (span : Span) (until : Option ℕ) (f : Seen) (p : Progress) → IfSome until (λ n. p.count ≡ n) → is_some until ≡ true → left_to_write span until f p ≡ []
reached span None f p at some = absurd cc
reached span (Some n) f p at some = let e : n - p.count ≡ 0 = omega (arith, at) in ap (λ k. operation_lines span f.geometry p.count (take k p.to_come) f.content) e

-- ---- what is out by then

module _ (span : Span) (before mid new : Option (List ℕ)) (text all rest : List ℕ) (g here : Geometry) (n count : ℕ) (op : Op) (layout_is : g ≡ here) (at : n ≡ count) (out : IsOut before mid text all)
    (end : List ℕ) where
  abbrev line : Geometry → ℕ → List ℕ
  line x k = shown span k (numbered_text x k op ++ end)

  there : (P : Geometry → ℕ → Type 0) → P g n → P here count
  there P p = subst (λ x. P x count) layout_is (subst (P g) at p)

  pub line_out : all ≡ line here count ++ rest → Appends mid new (line g n) → IsOut before new text rest
  line_out e p = out_more before mid new text (line here count) rest (subst (IsOut before mid text) e out) (there (λ x k. Appends mid new (line x k)) p)

  pub line_begun : all ≡ line here count ++ rest → AppendsPrefix mid new (line g n) → AppendsPrefix before new text
  line_begun e p = out_prefix before mid new text (line here count) rest (subst (IsOut before mid text) e out) (there (λ x k. AppendsPrefix mid new (line x k)) p)

-- ---- how many operations happened

pub one_more : (p q : Progress) (old new : Seen) (until : Option ℕ) (result : Result (Unit {0}) FlashError) → result ≡ Ok tt → Steps p old result q new → IfSome until (λ m. p.count < m)
    → IfSome until (λ m. q.count ≤ m)
one_more p q old new None result is steps going = tt
one_more p q old new (Some m) (Err e) is steps going = absurd cc
one_more p q old new (Some m) (Ok v) is steps going = at p.to_come steps
  where
    at : (ops : List Op) → StepsAlong ops p old (Ok v) q new → q.count ≤ m
    at [] d = omega (arith, going, ap (λ (z : Progress). z.count) d.0)
    at (x ∷ rest) d = omega (arith, going, ap (λ (z : Progress). z.count) d.0)

pub none_more : (p q : Progress) (old new : Seen) (until : Option ℕ) (result : Result (Unit {0}) FlashError) → result ≡ Err errors.NotErased → Steps p old result q new
    → IfSome until (λ m. p.count < m)
    → IfSome until (λ m. q.count ≤ m)
none_more p q old new None result is steps going = tt
none_more p q old new (Some m) (Ok v) is steps going = absurd cc
none_more p q old new (Some m) (Err errors.Memory) is steps going = absurd cc
none_more p q old new (Some m) (Err errors.NotErased) is steps going = at p.to_come steps
  where
    at : (ops : List Op) → StepsAlong ops p old (Err errors.NotErased) q new → q.count ≤ m
    at [] d = absurd d
    at (x ∷ rest) d = omega (arith, going, ap (λ (z : Progress). z.count) d.0)

pub goes_up_to : (until : Option ℕ) (a : Boot) (x : Seen) (b : Boot) (y : Seen) (c : Boot) (z : Seen) → GoesUpTo until a x b y → GoesOn b y c z → IfSome until (λ n. (progress c).count ≤ n)
    → GoesUpTo until a x c z
goes_up_to until a x b y c z first then below = record { goes = goes_further a x b y c z first.goes then; below = below }

pub none_to_come : (ops : List Op) (first : Option Op) → first ≡ slice_get ops 0 → ((op : Op) → first ≡ Some op → ⊥) → ops ≡ []
none_to_come [] first is none = refl
none_to_come (op ∷ rest) first is none = absurd (none op is)

-- A text that comes out whole or in part, by the answer.
pub writes_ok : {A E : Type 0} (r : Result A E) (before after : Option (List ℕ)) (text : List ℕ) → WritesText r before after text → OnOk r (Appends before after text)
writes_ok (Ok _) before after text t = t
writes_ok (Err _) before after text t = tt

pub writes_err : {A E : Type 0} (r : Result A E) (before after : Option (List ℕ)) (text : List ℕ) → WritesText r before after text → OnErr r (AppendsPrefix before after text)
writes_err (Ok _) before after text t = tt
writes_err (Err _) before after text t = t

-- What a write that failed leaves counted.
pub counted_up_to : (o q : Progress) (old new : Seen) (result : Result (Unit {0}) TraceError) (e : TraceError) → result ≡ Err e → e ≡ traces.Write → CountsOn o q old new
    → new.usage.limits ≡ old.usage.limits → CountsUpTo (left_of old.geometry o) old result new
counted_up_to o q old new result e is write counts limits = grind arith
