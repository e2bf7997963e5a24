-- No boot takes longer than the revert of the largest images.
use Rattle.std.proofs.{Common.{arith, length-append, ◌∙◌}, Math.Nat.{mul-le-mul_right}, lemmas.Bool.Decides.{nat_tests}, lemmas.List.{length-drop, length-map}}
use Rattle.std.proofs.{lemmas.List.FromFn.{length-map-range_with_len}, lemmas.List.Sums.{sum_by-cons}}
use Rattle.std.specs.Prelude.{Bool, List, None, Option, Some, [], cond, drop, false, if◌then◌else◌, is_none, length, map, nat_lt, refl, sum_by, true, ℕ, ◌*◌, ◌++◌, ◌+◌, ◌==◌, ◌||◌, ◌∷◌, ◌≡◌, ◌≤◌}
use Rattle.mc_boot.specs.Outcome.{first_then, happening, ops_of}
use Rattle.mc_boot.specs.Plan.{Plan, PowerOn, confirms, first_left, from_transfer, images_of, new_list, new_plan, new_swap, nothing, plan, plan_with}
use Rattle.mc_boot.specs.Plan.{resumed_from, resumed_list, resumed_plan, resumed_swap, trailer_erase, trailer_erases, transfers}
use Rattle.mc_boot.specs.{declared.image.Images.{Images}, declared.transfer.Transfer.{Transfer}}
use Rattle.mc_flash.specs.{Flash.{Content, apply}, Geometry.{Geometry, IsLayout, greatest_sectors, in_pieces, trailer_sectors}, declared.flash.Grain.{Grain}}
use Rattle.mc_flash.specs.{declared.op.Op.{Op}, declared.op.Slot.TheVariants.{Primary, Secondary}, facts.Pieces.{pieces_layout}}
use Rattle.mc_trace.proofs.SwapWork.{Asks, begun_erasing_count, begun_in, erase_count, finished, renewed, target, transfer_count, transfer_units, whole}
use Rattle.mc_trace.specs.{Wear.{LongestLaw, erases, is_erase, units, units_of, whole_swap}, inner.Swaps.{fields_of, marking_units, trailers_of}}
use Rattle.mc_trailer.specs.{Tables.{is_resumed, table_of}, Trailer.{highest_entry, trailer_of}, declared.tables.SwapType.{SwapType}}
use Rattle.mc_trailer.specs.{declared.trailer.Flag.{Flag}, declared.trailer.Trailer.{Trailer}}
use Rattle.mc_flash.specs.declared.flash.Grain.TheVariants as grains
use Rattle.mc_trailer.specs.declared.tables.SwapType.TheVariants as kinds

-- What holds of no operations, of the lists of new swaps and of those of swaps that were cut, holds of every plan.
module _ (P : List Op → Type 0) (c : Grain) (g : Geometry) (idle : P [])
    (new : (kind : SwapType) (size n : ℕ) → n ≤ greatest_sectors g → P (new_list c (in_pieces c g) kind size n))
    (resumed : (n first : ℕ) (erased image_ok : Bool) → n ≤ greatest_sectors g → P (resumed_list (in_pieces c g) n first erased image_ok)) where
  chosen : (b : Bool) (p q : Plan) → (b ≡ true → P p.list) → (b ≡ false → P q.list) → P (if b then p else q).list
  chosen true p q when_true when_false = when_true refl
  chosen false p q when_true when_false = when_false refl

  fitting : (n most : ℕ) (b : Bool) → (b || nat_lt most n) ≡ false → n ≤ most
  fitting n most true e = absurd cc
  fitting n most false e = grind (arith, nat_tests)

  of_new_swap : (images : Images) (kind : SwapType) → P (new_swap c g images kind).list
  of_new_swap images kind = grind arith

  of_new_plan : (images : Images) (kind : SwapType) → P (new_plan c g images kind).list
  of_new_plan images kinds.None = idle
  of_new_plan images kinds.Test = of_new_swap images kinds.Test
  of_new_plan images kinds.Perm = of_new_swap images kinds.Perm
  of_new_plan images kinds.Revert = of_new_swap images kinds.Revert
  of_new_plan images kinds.Fail = idle
  of_new_plan images kinds.Panic = idle

  of_resumed : (flag : Flag) (highest : Option ℕ) (kind : SwapType) (n : ℕ) → P (resumed_swap c g flag highest kind n).list
  of_resumed flag highest kind n =
      chosen (n == 0 || nat_lt (greatest_sectors g) n) (nothing kinds.Panic) (resumed_from c g flag highest kind n (first_left g n highest)) (λ _. idle)
      (λ e. from (first_left g n highest) (fitting n (greatest_sectors g) (n == 0) e))
    where
      from : (first : Option ℕ) → n ≤ greatest_sectors g → P (resumed_from c g flag highest kind n first).list
      from None fits = idle
      from (Some first) fits = resumed n first (is_none highest) (confirms kind flag) fits

  of_resumed_plan : (t : Trailer) (highest : Option ℕ) → P (resumed_plan c g t highest).list
  of_resumed_plan t highest = grind (arith, of_resumed)

of_plan : (P : List Op → Type 0) (x : PowerOn) → P []
    → ((kind : SwapType) (size n : ℕ) → n ≤ greatest_sectors x.geometry → P (new_list x.rules.grain (in_pieces x.rules.grain x.geometry) kind size n))
    → ((n first : ℕ) (erased image_ok : Bool) → n ≤ greatest_sectors x.geometry → P (resumed_list (in_pieces x.rules.grain x.geometry) n first erased image_ok))
    → P (plan x).list
unfolding plan plan_with
of_plan P x idle new resumed =
    let g = x.geometry in
    let s = x.content in
    let c = x.rules.grain in
    chosen P c g idle new resumed (is_resumed x.rules.profile g s) (resumed_plan c g (trailer_of g s Primary) (highest_entry g s)) (new_plan c g (images_of s) (table_of x.rules.profile g s))
    (λ _. of_resumed_plan P c g idle new resumed (trailer_of g s Primary) (highest_entry g s))
    (λ _. of_new_plan P c g idle new resumed (images_of s) (table_of x.rules.profile g s))

-- At most as many erases as the revert of the largest images has, and as many units.
record IsWithin (g : Geometry) (list : List Op) : Type 0 where
  few_erases : erases list ≤ 3 * trailer_sectors g + 3 * greatest_sectors g
  few_units : units g list ≤ 4 + 2 * marking_units g + 3 * greatest_sectors g * transfer_units g

most_trailers : (kind : SwapType) → trailers_of kind ≤ 3
most_trailers kinds.Revert = omega arith
most_trailers kind = omega arith

most_fields : (kind : SwapType) (m : ℕ) → fields_of kind m ≤ 4 + 2 * m
most_fields kinds.Test m = omega arith
most_fields kinds.Revert m = omega arith
most_fields kind m = omega arith

new_within : (c : Grain) (g : Geometry) (kind : SwapType) (size n : ℕ) → IsLayout g → n ≤ greatest_sectors g → IsWithin g (new_list c (in_pieces c g) kind size n)
new_within c g kind size n ok fits =
    let asks = begun_in c g kind size n ok in
    let count = erase_count g _ _ _ asks ∙ begun_erasing_count g kind n in
    let most : trailers_of kind * trailer_sectors g ≤ 3 * trailer_sectors g = mul-le-mul_right (trailer_sectors g) (most_trailers kind) in
    let more : 3 * n * transfer_units g ≤ 3 * greatest_sectors g * transfer_units g = mul-le-mul_right (transfer_units g) (omega (arith, fits)) in
    record {
      few_erases = omega (arith, count, most, fits);
      few_units = omega (arith, asks.units_are, most_fields kind (marking_units g), more);
    }

-- What is left of a swap, with a trailer or without.
module _ (l : Geometry) (n first : ℕ) (image_ok : Bool) (fits : n ≤ greatest_sectors l) where
  abbrev left : List Transfer
  left = drop first (transfers l n)

  abbrev left_units : ℕ
  left_units = length left * transfer_units l + (if image_ok then 2 else 1)

  left_within : (list es : List Op) → Asks l list es left_units → length es ≤ trailer_sectors l + length left → IsWithin l list
  left_within list es asks short =
      let few : length left ≤ 3 * greatest_sectors l = omega (arith, length-drop first (transfers l n), transfer_count l n, fits) in
      let more : length left * transfer_units l ≤ 3 * greatest_sectors l * transfer_units l = mul-le-mul_right (transfer_units l) few in
      record {
        few_erases = omega (arith, erase_count l list es left_units asks, short, few);
        few_units = omega (arith, asks.units_are, more, closing_few image_ok);
      }
    where
      closing_few : (b : Bool) → (if b then 2 else 1) ≤ 2
      closing_few true = omega arith
      closing_few false = omega arith

  resumed_at : IsLayout l → (again : Bool) → IsWithin l (resumed_list l n first again image_ok)
  resumed_at ok true =
      left_within (trailer_erases l Secondary ++ from_transfer l n first image_ok) (trailer_erases l Secondary ++ map target left)
      (renewed l ok Secondary (from_transfer l n first image_ok) (map target left) left_units (finished l ok n first image_ok))
      (omega (
        arith,
        length-append (trailer_erases l Secondary) (map target left),
        length-map-range_with_len (trailer_erase l Secondary) 0 (trailer_sectors l),
        length-map left target,
      ))
  resumed_at ok false = left_within (from_transfer l n first image_ok) (map target left) (finished l ok n first image_ok) (omega (arith, length-map left target))

resumed_within : (c : Grain) (g : Geometry) (n first : ℕ) (again image_ok : Bool) → IsLayout g → n ≤ greatest_sectors g → IsWithin g (resumed_list (in_pieces c g) n first again image_ok)
resumed_within grains.Call g n first again image_ok ok fits = resumed_at g n first image_ok fits ok again
resumed_within grains.Unit g n first again image_ok ok fits =
    let p = resumed_at (in_pieces grains.Unit g) n first image_ok fits (pieces_layout grains.Unit g ok) again in
    record { few_erases = p.few_erases; few_units = p.few_units }

-- Of what is planned no more happens.
happens : (w : Op → ℕ) (g : Geometry) (list : List Op) (s : Content) → sum_by w (happening g list s) ≤ sum_by w list
happens w g [] s = omega arith
happens w g (op ∷ list) s = first (λ t. happens w g list t) (apply g op s)
  where
    first : ((t : Content) → sum_by w (happening g list t) ≤ sum_by w list) → (o : Option Content) → sum_by w (first_then op (λ t. happening g list t) o) ≤ sum_by w (op ∷ list)
    first later None = omega arith
    first later (Some t) = omega (arith, later t, sum_by-cons w op (happening g list t), sum_by-cons w op list)

boot_within : (x : PowerOn) → IsLayout x.geometry → IsWithin x.geometry (ops_of x)
unfolding ops_of
boot_within x ok =
    let g = x.geometry in
    let p = of_plan (IsWithin g) x (record { few_erases = omega arith; few_units = omega arith }) (λ kind size n fits. new_within x.rules.grain g kind size n ok fits)
    (λ n first again image_ok fits. resumed_within x.rules.grain g n first again image_ok ok fits) in
    record {
      few_erases = omega (arith, p.few_erases, happens (λ op. cond (is_erase op) 1 0) g (plan x).list x.content);
      few_units = omega (arith, p.few_units, happens (units_of g) g (plan x).list x.content);
    }

pub longest : LongestLaw
longest t x ok =
    let g = x.geometry in
    let revert : List Op = whole_swap grains.Call g kinds.Revert in
    let p = boot_within x ok in
    let asks = whole grains.Call g kinds.Revert ok in
    let count = erase_count g _ _ _ asks ∙ begun_erasing_count g kinds.Revert (greatest_sectors g) in
    let e : erases (ops_of x) * t.erase_us ≤ erases revert * t.erase_us = mul-le-mul_right t.erase_us (omega (arith, p.few_erases, count)) in
    let u : units g (ops_of x) * t.write_us ≤ units g revert * t.write_us = mul-le-mul_right t.write_us (omega (arith, p.few_units, asks.units_are)) in
    omega (arith, e, u)
