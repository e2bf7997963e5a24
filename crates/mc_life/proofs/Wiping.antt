-- The secondary, erased sector by sector from its end.
use Rattle.std.specs.Prelude.{◌≡◌, ℕ, zero, suc, ◌+◌, ◌-◌, ◌*◌, ◌≤◌, List, [], ◌∷◌, ◌++◌, length, take, drop, replicate, Some, None, Result, Err, OnOk, IfErr, Bool, true, refl, if◌then◌else◌, ◌%◌}
use Rattle.std.specs.List.{between}
use Rattle.std.proofs.Common.{append-nil, drop_of_length-le, arith, sym, ap, subst, ◌∙◌}
use Rattle.std.proofs.lemmas.List.{length-take-le, length-drop, replicate-append-replicate, length-append, length-replicate, take_all}
use Rattle.std.proofs.{Math.Seq.{drop-append_seam}, Math.Nat.{zero-mod}, lemmas.Slice.{between_from_start}}
use Rattle.mc_flash.specs.{Flash.{IsRange, apply, in_slot, is_blank, Content, put, size_of, with_bytes}, Geometry.{Geometry, IsLayout}}
use Rattle.mc_flash.specs.{Usage.{Does, Seen, done}, declared.flash.FlashError.{FlashError}}
use Rattle.mc_flash.specs.declared.flash.FlashError.TheVariants as errors
use Rattle.mc_flash.specs.{declared.op.Slot.{Slot}, facts.Done.{did, undefined}, facts.Layouts.{sector_inside, whole_size}}
use Rattle.mc_flash.specs.{declared.op.Op.TheVariants.{Erase, Program}, declared.op.Slot.TheVariants.{Secondary}}
use Rattle.mc_life.proofs.Worn.{worn_both}
use Rattle.mc_life.specs.Device.{Counts, worn, wiped, wipes}

-- From a sector on all is blank, and the primary is as it was.
pub record IsWiping (old f : Seen) (left : ℕ) : Type 0 where
  pub geometry : f.geometry ≡ old.geometry
  pub inside : left ≤ old.geometry.secondary
  pub long : length f.content.secondary ≡ size_of old.geometry Secondary
  pub primary : f.content.primary ≡ old.content.primary
  pub blank : drop (left * old.geometry.sector) f.content.secondary ≡ replicate (size_of old.geometry Secondary - left * old.geometry.sector) 255

more : (a c : ℕ) → suc a * c ≡ a * c + c
more a c = omega arith

put_beyond : (xs new : List ℕ) (at : ℕ) → at ≤ length xs → drop at (put xs at new) ≡ new ++ drop (at + length new) xs
put_beyond xs new at le = subst (λ n. drop n (put xs at new) ≡ new ++ drop (at + length new) xs) (length-take-le at xs le) (drop-append_seam (take at xs) (new ++ drop (at + length new) xs))

put_long : (xs new : List ℕ) (at : ℕ) → at + length new ≤ length xs → length (put xs at new) ≡ length xs
put_long xs new at le = grind (arith, length-append, length-take-le, length-drop)

pub wiping_begins : (f : Seen) → length f.content.secondary ≡ size_of f.geometry Secondary → IsWiping f f f.geometry.secondary
wiping_begins f long =
    let all = size_of f.geometry Secondary in
    let none : all - all ≡ 0 = omega arith in
    record {
      geometry = refl;
      inside = omega arith;
      long = long;
      primary = refl;
      blank = drop_of_length-le f.content.secondary (omega (arith, long)) ∙ sym (ap (λ n. replicate n 255) none);
    }

module _ (old f h : Seen) (left now : ℕ) (next : suc left ≡ now) (so_far : IsWiping old f now) (made : done (Erase Secondary left) f ≡ Some h) where
  abbrev S : ℕ
  S = old.geometry.sector

  is : IsWiping old f (suc left)
  is = subst (IsWiping old f) (sym next) so_far

  content_is : h.content ≡ with_bytes f.content Secondary (put f.content.secondary (left * S) (replicate S 255))
  unfolding apply
  content_is =
      let e : Some (with_bytes f.content Secondary (put f.content.secondary (left * f.geometry.sector) (replicate f.geometry.sector 255))) ≡ Some h.content =
      (did (Erase Secondary left) f h made).applied in
      let same : f.geometry.sector ≡ S = ap (λ (g : Geometry). g.sector) is.geometry in
      let there : with_bytes f.content Secondary (put f.content.secondary (left * f.geometry.sector) (replicate f.geometry.sector 255)) ≡ h.content = cc in
      sym there ∙ ap (λ (n : ℕ). with_bytes f.content Secondary (put f.content.secondary (left * n) (replicate n 255))) same

  inside : left * S + S ≤ size_of old.geometry Secondary
  inside = sector_inside old.geometry Secondary left (omega (arith, is.inside))

  blank_is : drop (left * S) (put f.content.secondary (left * S) (replicate S 255)) ≡ replicate (size_of old.geometry Secondary - left * S) 255
  blank_is =
      let n = length-replicate {A = ℕ} S 255 in
      let on : left * S + length (replicate {A = ℕ} S 255) ≡ suc left * S = omega (arith, n, more left S) in
      let all : S + (size_of old.geometry Secondary - suc left * S) ≡ size_of old.geometry Secondary - left * S = omega (arith, inside, more left S) in
      put_beyond f.content.secondary (replicate S 255) (left * S) (omega (arith, inside, is.long))
      ∙ ap (λ k. replicate S 255 ++ drop k f.content.secondary) on
      ∙ ap (λ (z : List ℕ). replicate S 255 ++ z) is.blank
      ∙ replicate-append-replicate S (size_of old.geometry Secondary - suc left * S) 255
      ∙ ap (λ k. replicate k 255) all

  pub wiping_more : IsWiping old h left
  wiping_more = record {
    geometry = ap (λ (x : Seen). x.geometry) (did (Erase Secondary left) f h made).is ∙ is.geometry;
    inside = omega (arith, is.inside);
    long = ap (λ (x : Content). length x.secondary) content_is
        ∙ put_long f.content.secondary (replicate S 255) (left * S) (omega (arith, inside, is.long, length-replicate {A = ℕ} S 255)) ∙ is.long;
    primary = ap (λ (x : Content). x.primary) content_is ∙ is.primary;
    blank = ap (λ (x : Content). drop (left * S) x.secondary) content_is ∙ blank_is;
  }

pub wiping_ends : (old f : Seen) (left : ℕ) → left ≤ 0 → IsWiping old f left → f.content ≡ with_bytes old.content Secondary (wiped old.geometry)
wiping_ends old f left none_left so_far = grind arith

-- ---- bytes are written over blank ones

blank_all : (n : ℕ) → is_blank (replicate n 255) ≡ true
blank_all zero = refl
blank_all (suc n) = blank_all n

-- Whole slots can be written.
pub whole_slot : (g : Geometry) (bytes : List ℕ) → IsLayout g → length bytes ≡ size_of g Secondary → IsRange g Secondary 0 (length bytes)
whole_slot g bytes ok long =
    let one = sector_inside g Secondary 0 ok.some_secondary in
    record { inside = omega (arith, long); start = zero-mod g.unit; units = ap (λ n. n % g.unit) long ∙ whole_size g Secondary ok; some = omega (arith, long, one, ok.least_sector) }

pub written : (g : Geometry) (s : Content) (bytes : List ℕ) → length bytes ≡ size_of g Secondary
    → apply g (Program Secondary 0 bytes) (with_bytes s Secondary (wiped g)) ≡ Some (with_bytes s Secondary bytes)
unfolding apply
written g s bytes long =
    let n = length bytes in
    let long_wiped : length (wiped g) ≡ size_of g Secondary = length-replicate {A = ℕ} (size_of g Secondary) 255 in
    let there : 0 + n ≡ n = omega arith in
    let all : between 0 (0 + n) (wiped g) ≡ wiped g =
    ap (λ (k : ℕ). between 0 k (wiped g)) there ∙ between_from_start (wiped g) n ∙ take_all n (wiped g) (omega (arith, long, long_wiped)) in
    let blank : is_blank (between 0 (0 + n) (wiped g)) ≡ true = ap is_blank all ∙ blank_all (size_of g Secondary) in
    let rest : put (wiped g) 0 bytes ≡ bytes =
    ap (λ (z : List ℕ). bytes ++ z) (drop_of_length-le (wiped g) (omega (arith, long, long_wiped))) ∙ append-nil bytes in
    ap (λ (b : Bool). in_slot (with_bytes s Secondary (wiped g)) Secondary (if b then Some (put (wiped g) 0 bytes) else None)) blank
    ∙ ap (λ (z : List ℕ). Some (with_bytes s Secondary z)) rest

-- An erase is never refused.
pub erase_fails : (f h : Seen) (slot : Slot) (sector : ℕ) (e : FlashError) → Does (Erase slot sector) f (Err e) h → e ≡ errors.Memory
unfolding apply
erase_fails f h slot sector errors.Memory does = refl
erase_fails f h slot sector errors.NotErased does = absurd (cc (undefined (Erase slot sector) f does.0))

-- One more erase is counted.
pub counted : (w v all : Counts) (left now : ℕ) → suc left ≡ now → v ≡ worn w (Erase Secondary left ∷ []) → worn w (wipes now) ≡ all → worn v (wipes left) ≡ all
counted w v all left now next is whole = grind (arith, worn_both)

-- A write of the whole slot is not refused.
module _ (old f h : Seen) (bytes : List ℕ) (content : f.content ≡ with_bytes old.content Secondary (wiped old.geometry)) (layout : f.geometry ≡ old.geometry)
    (long : length bytes ≡ size_of old.geometry Secondary) where
  defined : apply f.geometry (Program Secondary 0 bytes) f.content ≡ Some (with_bytes old.content Secondary bytes)
  defined = ap (λ (g : Geometry). apply g (Program Secondary 0 bytes) f.content) layout
      ∙ ap (apply old.geometry (Program Secondary 0 bytes)) content ∙ written old.geometry old.content bytes long

  pub rewritten : (result : Result (Unit {0}) FlashError) → Does (Program Secondary 0 bytes) f result h → OnOk result (h.content ≡ with_bytes old.content Secondary bytes)
  rewritten it does = grind (arith, did, defined)

  pub rewrite_fails : (result : Result (Unit {0}) FlashError) → Does (Program Secondary 0 bytes) f result h → IfErr result (λ e. e ≡ errors.Memory)
  rewrite_fails it does = grind (arith, undefined, defined)

pub all_counted : (w all : Counts) (left : ℕ) → left ≤ 0 → w ≡ worn w [] → worn w (wipes left) ≡ all → w ≡ all
all_counted w all left none_left idle whole = idle ∙ ap (λ n. worn w (wipes n)) (sym zero_left) ∙ whole
  where
    zero_left : left ≡ 0
    zero_left = omega (arith, none_left)
