-- A part of a file is written where it belongs.
use Rattle.std.specs.Prelude.{◌≡◌, ℕ, ◌+◌, ◌*◌, ◌/◌, ◌%◌, ◌<◌, ◌≤◌, ◌==◌, Bool, true, false, if◌then◌else◌, List, [], ◌∷◌, length, take, drop, Some, None, Result, Ok, Err, OnOk, IfErr, refl}
use Rattle.std.specs.{List.{between}}
use Rattle.std.proofs.Common.{arith, sym, ap, ◌∙◌}
use Rattle.std.proofs.{Math.Nat.{mul-le-mul_right, mod-add-div'}}
use Rattle.mc_flash.specs.{Flash.{Content, IsRange, apply, in_slot, is_blank, put, size_of, with_bytes}, Geometry.{Geometry, IsLayout}}
use Rattle.mc_flash.specs.{Usage.{Does, Seen}, declared.flash.FlashError.{FlashError}, facts.Done.{did, undefined}, facts.Layouts.{whole_add, whole_size}}
use Rattle.mc_flash.specs.declared.flash.FlashError.TheVariants as errors
use Rattle.mc_flash.specs.{declared.op.Op.TheVariants.{Program}, declared.op.Slot.TheVariants.{Secondary}}
use Rattle.mc_life.specs.{Device.{Standing, padded, with_part}}
use Rattle.mc_life.proofs.Going.{write_left}

-- ---- whole units

less_first : (p q u : ℕ) → p * u < q * u + u → p ≤ q
less_first p q u lt = grind (arith, mul-le-mul_right)

pub multiples : (a b u : ℕ) → a % u ≡ 0 → b % u ≡ 0 → a < b + u → a ≤ b
multiples a b u p q lt =
    let x : a / u * u ≡ a = omega (arith, p, mod-add-div' a u) in
    let y : b / u * u ≡ b = omega (arith, q, mod-add-div' b u) in
    let le : a / u * u ≤ b / u * u = mul-le-mul_right u (less_first (a / u) (b / u) u (omega (arith, x, y, lt))) in
    omega (arith, x, y, le)

pub part_range : (g : Geometry) (at : ℕ) (part bytes : List ℕ) → IsLayout g → at + length part ≤ size_of g Secondary → at % g.unit ≡ 0 → 0 < length part
    → length bytes % g.unit ≡ 0 → length part ≤ length bytes → length bytes < length part + g.unit → IsRange g Secondary at (length bytes)
part_range g at part bytes ok fits aligned some whole longer less = record {
  inside = multiples (at + length bytes) (size_of g Secondary) g.unit (whole_add g at (length bytes) aligned whole) (whole_size g Secondary ok) (omega (arith, fits, less));
  start = aligned;
  units = whole;
  some = omega (arith, some, longer);
}

pub some_bytes : (xs : List ℕ) (b : Bool) → b ≡ (length xs == 0) → b ≡ false → 0 < length xs
some_bytes [] b is some = (let both : true ≡ false = sym is ∙ some in absurd cc)
some_bytes (x ∷ xs) b is some = omega arith

-- ---- the write

module _ (f h : Seen) (at : ℕ) (bytes : List ℕ) where
  abbrev free : Bool
  free = is_blank (between at (at + length bytes) f.content.secondary)

  defined : (t : Content) → apply f.geometry (Program Secondary at bytes) f.content ≡ Some t → free ≡ true
  unfolding apply
  defined t is = go free is
    where
      go : (b : Bool) → in_slot f.content Secondary (if b then Some (put f.content.secondary at bytes) else None) ≡ Some t → b ≡ true
      go true is = refl
      go false is = absurd cc

  not_defined : apply f.geometry (Program Secondary at bytes) f.content ≡ None → free ≡ false
  unfolding apply
  not_defined is = go free is
    where
      go : (b : Bool) → in_slot f.content Secondary (if b then Some (put f.content.secondary at bytes) else None) ≡ None → b ≡ false
      go true is = absurd cc
      go false is = refl

  pub part_left : (result : Result (Unit {0}) FlashError) → Does (Program Secondary at bytes) f result h
      → OnOk result (h.content ≡ with_bytes f.content Secondary (put f.content.secondary at bytes))
  part_left (Err e) does = tt
  part_left (Ok v) does = write_left f.geometry f.content h.content at bytes (did (Program Secondary at bytes) f h does.0).applied

  pub part_free : (result : Result (Unit {0}) FlashError) → Does (Program Secondary at bytes) f result h → OnOk result (free ≡ true)
  part_free (Err e) does = tt
  part_free (Ok v) does = defined h.content (did (Program Secondary at bytes) f h does.0).applied

  pub part_refused : (result : Result (Unit {0}) FlashError) → Does (Program Secondary at bytes) f result h → IfErr result (λ e. e ≡ errors.NotErased → free ≡ false)
  part_refused (Ok v) does = tt
  part_refused (Err errors.Memory) does = λ is. absurd cc
  part_refused (Err errors.NotErased) does = λ is. not_defined (undefined (Program Secondary at bytes) f does.0)

-- ---- what stands there

module _ (d : Standing) (file : List ℕ) (from count : ℕ) (part : List ℕ) (is : part ≡ take count (drop from file)) where
  pub part_stands : (t : Content) → t ≡ with_bytes d.seen.content Secondary (put d.seen.content.secondary from (padded d.seen.geometry.unit part))
      → t ≡ with_bytes d.seen.content Secondary (with_part d.seen.geometry file from count d.seen.content.secondary)
  part_stands t left = left ∙ ap (λ (p : List ℕ). with_bytes d.seen.content Secondary (put d.seen.content.secondary from (padded d.seen.geometry.unit p))) is
