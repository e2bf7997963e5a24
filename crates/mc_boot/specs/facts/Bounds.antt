-- How much a boot does at most: how many operations, and how many bytes their erases save.
use Rattle.std.specs.Prelude.{◌≡◌, ◌⊎◌, ℕ, ◌+◌, ◌*◌, ◌/◌, ◌≤◌, ◌==◌, ◌||◌, not, nat_lt, Bool, true, false, if◌then◌else◌, List, [], ◌∷◌, ◌++◌, length, drop, is_none, max, map, flat_map, Option, Some, None}
use Rattle.std.specs.{Int.{div_ceil}, List.{range_with_len}}
use Rattle.std.proofs.{Common.{arith, ap, length-append}, Math.Nat.{mul-le-mul_right}, lemmas.List.{length-drop}}
use Rattle.std.proofs.lemmas.List.FromFn.{length-map-range_with_len, length-range_with_len}
use Rattle.mc_flash.specs.{Geometry.{Geometry, IsLayout, trailer_sectors, greatest_sectors, in_pieces}, Flash.{Content, apply}}
use Rattle.mc_flash.specs.{Usage.{saves, most_operations, most_saved}, declared.flash.Grain.{Grain}}
use Rattle.mc_flash.specs.declared.flash.Grain.TheVariants as grains
use Rattle.mc_flash.specs.{declared.op.Slot.{Slot}, declared.op.Slot.TheVariants.{Primary, Secondary}, declared.op.Op.{Op}}
use Rattle.mc_trailer.specs.{Trailer.{trailer_of, place, highest_entry}, Tables.{table_of, is_resumed}, declared.places.Field.{Field}}
use Rattle.mc_trailer.specs.{declared.trailer.Flag.{Flag}, declared.trailer.Trailer.{Trailer}, declared.tables.SwapType.{SwapType}}
use Rattle.mc_trailer.specs.declared.tables.SwapType.TheVariants as kinds
use Rattle.mc_boot.specs.{declared.image.Images.{Images}, declared.transfer.Transfer.{Transfer}}
use Rattle.mc_boot.specs.Plan.{images_of, transfers, copy_of, entry_of, steps, trailer_erase, trailer_erases, piece, write, write_count, preparation_writes, swap_list, new_list, Plan, nothing, confirms, first_left, new_swap, new_plan, resumed_from, resumed_swap, resumed_plan, plan_with, plan, PowerOn}
use Rattle.mc_boot.specs.{Outcome.{first_then, happening, ops_of}, Boot.{IsBounded, all_saves, list_from}, declared.course.Opening.{Opening}}
use Rattle.mc_boot.specs.declared.course.Opening.TheVariants.{New, Resumed}
use Rattle.mc_boot.specs.facts.Lengths.{length-magic, length-size, length-steps, length-transfers, length_pieces}

-- ---- lists

all_saves-append : (g : Geometry) (xs ys : List Op) → all_saves g (xs ++ ys) ≡ all_saves g xs + all_saves g ys
all_saves-append g [] ys = omega arith
all_saves-append g (x ∷ xs) ys = omega (arith, all_saves-append g xs ys)

none : (g : Geometry) (n m : ℕ) → IsBounded g [] n m
none g n m = record { at_most = omega arith; saves = omega arith }

saves_mapped : (g : Geometry) (f : ℕ → Op) (k : ℕ) → ((i : ℕ) → saves g (f i) ≤ k) → (xs : List ℕ) → all_saves g (map f xs) ≤ length xs * k
saves_mapped g f k little [] = omega arith
saves_mapped g f k little (x ∷ xs) = omega (arith, little x, saves_mapped g f k little xs)

-- ---- the parts of a course, whose layout l may be in pieces

module _ (g l : Geometry) where
  saves_erases : (slot : Slot) → all_saves g (trailer_erases l slot) ≤ trailer_sectors l * g.sector
  saves_erases slot =
      let count : length (range_with_len 0 (trailer_sectors l)) * g.sector ≡ trailer_sectors l * g.sector = ap (λ m. m * g.sector) (length-range_with_len 0 (trailer_sectors l)) in
      omega (arith, count, saves_mapped g (trailer_erase l slot) g.sector (λ i. omega arith) (range_with_len 0 (trailer_sectors l)))

  saves_write : (c : Grain) (slot : Slot) (f : Field) (new : List ℕ) → all_saves g (write c l slot f new) ≡ 0
  saves_write grains.Call slot f new = omega arith
  saves_write grains.Unit slot f new = omega (arith, saves_mapped g (piece l slot (place l slot f) new) 0 (λ i. omega arith) (range_with_len 0 (length new / l.unit)))

  saves_steps : (ts : List Transfer) → all_saves g (flat_map (steps l) ts) ≤ length ts * g.sector
  saves_steps [] = omega arith
  saves_steps (t ∷ ts) =
      let copies : List Op = map (copy_of l t) (range_with_len 0 (l.sector / l.chunk)) in
      omega (
        arith,
        all_saves-append g (steps l t) (flat_map (steps l) ts),
        all_saves-append g copies (entry_of l t ∷ []),
        saves_mapped g (copy_of l t) 0 (λ i. omega arith) (range_with_len 0 (l.sector / l.chunk)),
        saves_steps ts,
      )

  module _ (n first : ℕ) where
    left : length (drop first (transfers l n)) ≤ 3 * n
    left = omega (arith, length-drop first (transfers l n), length-transfers l n)

    saves_left : all_saves g (flat_map (steps l) (drop first (transfers l n))) ≤ 3 * n * g.sector
    saves_left = omega (arith, saves_steps (drop first (transfers l n)), mul-le-mul_right g.sector left)

    length-left : length (flat_map (steps l) (drop first (transfers l n))) ≤ 3 * n * (l.sector / l.chunk + 2)
    length-left =
        omega (arith, length_pieces (steps l) (l.sector / l.chunk + 2) (length-steps l) (drop first (transfers l n)), mul-le-mul_right (l.sector / l.chunk + 2) left)

  prepared : (c : Grain) (size : ℕ) → length (preparation_writes c l size) ≤ 1 + write_count c l (max l.unit 4) + write_count c l 16
  prepared c size = grind (arith, length-append, length-size c l Secondary size, length-magic c l Secondary)

  swapped : (c : Grain) (n : ℕ) (kind : SwapType) (size : ℕ) → length (swap_list c l kind size n)
      ≤ 2 * trailer_sectors l + 3 + write_count c l (max l.unit 4) + write_count c l 16 + 3 * n * (l.sector / l.chunk + 2)
  swapped c n kind size = grind (arith, length-append, length-map-range_with_len, length-size c l Primary size, length-left n 0)

  -- Three trailers, four flags, two sizes and two magics, and all transfers.
  pub course_count : (c : Grain) (n : ℕ) (o : Opening) → length (list_from c l n o)
      ≤ 3 * trailer_sectors l + 4 + 2 * write_count c l (max l.unit 4) + 2 * write_count c l 16 + 3 * n * (l.sector / l.chunk + 2)
  course_count c n (New kind size) = grind (arith, swapped, prepared, length-append, length-map-range_with_len)
  course_count c n (Resumed first erases image_ok) = grind (arith, length-append, length-map-range_with_len, length-left n first)

  course_saved : (c : Grain) (n : ℕ) (o : Opening) → all_saves g (list_from c l n o) ≤ 3 * (trailer_sectors l * g.sector) + 3 * n * g.sector
  course_saved c n (New kind size) = grind (arith, all_saves-append, saves_erases, saves_write, saves_left n 0)
  course_saved c n (Resumed first erases image_ok) = grind (arith, all_saves-append, saves_erases, saves_left n first)

-- ---- plans

-- What is bounded as a boot is.
abbrev IsBoot : Grain → Geometry → List Op → Type 0
IsBoot c g ops = IsBounded g ops (most_operations c g) (most_saved g)

-- more sectors are more of each
more_sectors : (n most w : ℕ) → n ≤ most → 3 * n * w ≤ 3 * most * w
more_sectors n most w at_most = mul-le-mul_right w (omega (arith, at_most))

three_sections : (t s n most : ℕ) → n ≤ most → 3 * (t * s) + 3 * n * s ≤ (3 * t + 3 * most) * s
three_sections t s n most at_most = grind arith

-- the units of a size and of a magic
units : (u : ℕ) → (u ≡ 1) ⊎ (u ≡ 2) ⊎ (u ≡ 4) ⊎ (u ≡ 8) → (max u 4 / u ≤ div_ceil 4 u) × (2 * (16 / u) ≤ 32 / u)
units u is = grind arith

course_bounded : (c : Grain) (g : Geometry) (n : ℕ) (o : Opening) → IsLayout g → n ≤ greatest_sectors g → IsBoot c g (list_from c (in_pieces c g) n o)
course_bounded grains.Call g n o ok few = grind (arith, course_count, more_sectors, course_saved, three_sections)
course_bounded grains.Unit g n o ok few = grind (arith, units, course_count, more_sectors, course_saved, three_sections)

chosen_plan : (c : Grain) (g : Geometry) (b : Bool) (p q : Plan) → (b ≡ true → IsBoot c g p.list) → (b ≡ false → IsBoot c g q.list) → IsBoot c g (if b then p else q).list
chosen_plan c g it p q when_true when_false = grind arith

not_above : (n most : ℕ) (b : Bool) → (b || nat_lt most n) ≡ false → n ≤ most
not_above n most it e = grind arith

idle_plan : (c : Grain) (g : Geometry) (kind : SwapType) → IsBoot c g (nothing kind).list
idle_plan c g kind = none g (most_operations c g) (most_saved g)

new_swap_bounded : (c : Grain) (g : Geometry) (images : Images) (kind : SwapType) → IsLayout g → IsBoot c g (new_swap c g images kind).list
new_swap_bounded c g images kind ok =
    let n = div_ceil images.size g.sector in
    chosen_plan c g (not images.valid || nat_lt (greatest_sectors g) n) (nothing kinds.Fail) (record { kind = kind; sectors = n; list = new_list c (in_pieces c g) kind images.size n })
    (λ _. idle_plan c g kinds.Fail)
    (λ e. course_bounded c g n (New kind images.size) ok (not_above n (greatest_sectors g) (not images.valid) e))

new_plan_bounded : (c : Grain) (g : Geometry) (images : Images) (kind : SwapType) → IsLayout g → IsBoot c g (new_plan c g images kind).list
new_plan_bounded c g images kinds.None ok = idle_plan c g kinds.None
new_plan_bounded c g images kinds.Test ok = new_swap_bounded c g images kinds.Test ok
new_plan_bounded c g images kinds.Perm ok = new_swap_bounded c g images kinds.Perm ok
new_plan_bounded c g images kinds.Revert ok = new_swap_bounded c g images kinds.Revert ok
new_plan_bounded c g images kinds.Fail ok = idle_plan c g kinds.Fail
new_plan_bounded c g images kinds.Panic ok = idle_plan c g kinds.Panic

resumed_from_bounded : (c : Grain) (g : Geometry) (image_ok : Flag) (highest : Option ℕ) (kind : SwapType) (n : ℕ) (start : Option ℕ) → IsLayout g → n ≤ greatest_sectors g
    → IsBoot c g (resumed_from c g image_ok highest kind n start).list
resumed_from_bounded c g image_ok highest kind n None ok at_most = idle_plan c g kinds.Panic
resumed_from_bounded c g image_ok highest kind n (Some start) ok at_most = course_bounded c g n (Resumed start (is_none highest) (confirms kind image_ok)) ok at_most

resumed_swap_bounded : (c : Grain) (g : Geometry) (image_ok : Flag) (highest : Option ℕ) (kind : SwapType) (n : ℕ) → IsLayout g → IsBoot c g (resumed_swap c g image_ok highest kind n).list
resumed_swap_bounded c g image_ok highest kind n ok =
    chosen_plan c g (n == 0 || nat_lt (greatest_sectors g) n) (nothing kinds.Panic) (resumed_from c g image_ok highest kind n (first_left g n highest))
    (λ _. idle_plan c g kinds.Panic)
    (λ e. resumed_from_bounded c g image_ok highest kind n (first_left g n highest) ok (not_above n (greatest_sectors g) (n == 0) e))

resumed_plan_bounded : (c : Grain) (g : Geometry) (t : Trailer) (highest : Option ℕ) → IsLayout g → IsBoot c g (resumed_plan c g t highest).list
resumed_plan_bounded c g t highest ok =
    let n = div_ceil t.swap_size g.sector in
    let test : Plan = resumed_swap c g t.image_ok highest kinds.Test n in
    let perm : Plan = resumed_swap c g t.image_ok highest kinds.Perm n in
    let revert : Plan = resumed_swap c g t.image_ok highest kinds.Revert n in
    chosen_plan c g (t.swap_info == 2) test (if t.swap_info == 3 then perm else if t.swap_info == 4 then revert else nothing kinds.None)
    (λ _. resumed_swap_bounded c g t.image_ok highest kinds.Test n ok)
    (λ _. chosen_plan c g (t.swap_info == 3) perm (if t.swap_info == 4 then revert else nothing kinds.None)
    (λ _. resumed_swap_bounded c g t.image_ok highest kinds.Perm n ok)
    (λ _. chosen_plan c g (t.swap_info == 4) revert (nothing kinds.None)
    (λ _. resumed_swap_bounded c g t.image_ok highest kinds.Revert n ok)
    (λ _. idle_plan c g kinds.None)))

plan_bounded : (x : PowerOn) → IsLayout x.geometry → IsBoot x.rules.grain x.geometry (plan x).list
unfolding plan plan_with
plan_bounded x ok =
    let g = x.geometry in
    let s = x.content in
    let c = x.rules.grain in
    chosen_plan c g (is_resumed x.rules.profile g s) (resumed_plan c g (trailer_of g s Primary) (highest_entry g s)) (new_plan c g (images_of s) (table_of x.rules.profile g s))
    (λ _. resumed_plan_bounded c g (trailer_of g s Primary) (highest_entry g s) ok)
    (λ _. new_plan_bounded c g (images_of s) (table_of x.rules.profile g s) ok)

-- A plan has few operations, and saves few bytes.
pub plan_few : (x : PowerOn) → IsLayout x.geometry → length (plan x).list ≤ most_operations x.rules.grain x.geometry
plan_few x ok = (plan_bounded x ok).at_most

pub plan_saves : (x : PowerOn) → IsLayout x.geometry → all_saves x.geometry (plan x).list ≤ most_saved x.geometry
plan_saves x ok = (plan_bounded x ok).saves

-- ---- what happens

first_less : (op : Op) (ops : List Op) (rest : Content → List Op) → ((t : Content) → length (rest t) ≤ length ops) → (o : Option Content)
    → length (first_then op rest o) ≤ length (op ∷ ops)
first_less op ops rest less it = grind arith

happens_less : (g : Geometry) (ops : List Op) (s : Content) → length (happening g ops s) ≤ length ops
happens_less g [] s = omega arith
happens_less g (op ∷ ops) s = first_less op ops (λ t. happening g ops t) (λ t. happens_less g ops t) (apply g op s)

-- The uncut boot makes no more operations than any boot.
pub few_ops : (x : PowerOn) → IsLayout x.geometry → length (ops_of x) ≤ most_operations x.rules.grain x.geometry
unfolding ops_of
few_ops x ok = omega (arith, happens_less x.geometry (plan x).list x.content, plan_few x ok)
