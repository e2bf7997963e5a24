-- Boots that end alike: from flashes that differ in a trailer and read alike, or in sectors that both boots erase first.
use Rattle.std.proofs.{Common.{ap, append_assoc, arith, inl, inr, subst, sym, ◌∙◌}, Math.Nat.{mod-add-div', mod-lt, mul-le-mul_right}, lemmas.Bool.{cases_lt}, lemmas.Bool.Decides.{nat_tests}}
use Rattle.std.proofs.{lemmas.List.{get_or_past, length-map}}
use Rattle.std.specs.{Int.{div_ceil}, List.{AllByRecursion, range_with_len}}
use Rattle.std.specs.Prelude.{Bool, List, None, Option, Some, [], false, if◌then◌else◌, is_none, length, map, nat_lt, not, refl, suc, take, true, zero, ℕ, ◌%◌, ◌*◌, ◌++◌, ◌+◌, ◌-◌, ◌/◌, ◌<◌, ◌==◌, ◌≡◌, ◌≤◌, ◌||◌, ◌⊎◌}
use Rattle.mc_boot.proofs.{CourseJoins.{all_both, trailer_erased, trailer_of_slot, trailer_sector, trailer_there}, Courses.{greatest_pieces}, Joins.{same_run}}
use Rattle.mc_boot.proofs.Meets.{all_weaker, blank, blank_same, fit_there, which_slot}
use Rattle.mc_boot.specs.Outcome.{left_by}
use Rattle.mc_boot.specs.{declared.image.Images.{Images}, inner.Meets.{IsListed, Sector, erase_of}}
use Rattle.mc_boot.specs.Plan.{confirms, first_left, images_of, is_revert, new_list, new_plan, new_swap, nothing, plan, plan_with, power_on, preparation_writes, resumed_from, resumed_list, resumed_plan, resumed_swap, swap_list, trailer_erases}
use Rattle.mc_flash.specs.{Flash.{Content, byte, bytes_of, sectors_of, size_of}, Geometry.{Geometry, IsLayout, greatest_sectors, in_pieces, trailer_sectors}}
use Rattle.mc_flash.specs.{declared.flash.Grain.{Grain}, declared.op.Op.{Op}, declared.op.Slot.{Slot}, declared.op.Slot.TheVariants.{Primary, Secondary}}
use Rattle.mc_flash.specs.facts.{Changes.{sized_is}, Layouts.{data_end, data_sectors}, Pieces.{pieces_layout}}
use Rattle.mc_tear.proofs.{Alike.{KeepsAlike, Pair, RunAlike, end_alike, left_u, run_alike, run_same}, Beside.{IsWrittenAt, One, OrSame, Place, beside_keeps, beside_pair, beside_plans}}
use Rattle.mc_tear.proofs.{Lists.{InTrailer, IsPlain, IsSound, sound_pieces, plain_pieces, preparation_in, resumed_plain, swap_plain, trailer_sound}, Same.{SameAt}, Second.{SecondAlike, second_keeps, second_pair, second_plans}}
use Rattle.mc_tear.specs.Laws.{AsksApart, EndAlike, ImagesApart}
use Rattle.mc_trailer.specs.{Tables.{is_resumed, table_of}, Trailer.{highest_entry, trailer_of}, declared.tables.Rules.{Rules}}
use Rattle.mc_trailer.specs.{declared.tables.SwapType.{SwapType}, declared.trailer.Flag.{Flag}, declared.trailer.Trailer.{Trailer}}
use lib.Seq.{take_at}
use Rattle.mc_flash.specs.declared.flash.Grain.TheVariants as grains
use Rattle.mc_trailer.specs.declared.tables.SwapType.TheVariants as kinds

-- ---- the lists of plans

pub data Listed (c : Grain) (l : Geometry) (ops : List Op) : Type 0 where
  none : ops ≡ [] → Listed c l ops
  goes_on : (n first : ℕ) (erases b : Bool) → n ≤ greatest_sectors l → ops ≡ resumed_list l n first erases b → Listed c l ops
  begins : (kind : SwapType) (size n : ℕ) → n ≤ greatest_sectors l → is_revert kind ≡ false → ops ≡ swap_list c l kind size n → Listed c l ops
  reverts : (size n : ℕ) → n ≤ greatest_sectors l → ops ≡ trailer_erases l Secondary ++ (preparation_writes c l size ++ swap_list c l kinds.Revert size n) → Listed c l ops

module _ (c : Grain) (g : Geometry) where
  abbrev l : Geometry
  l = in_pieces c g

  few : (n : ℕ) → nat_lt (greatest_sectors g) n ≡ false → n ≤ greatest_sectors l
  few n is = let same = greatest_pieces c g in let most : n ≤ greatest_sectors g = grind (arith, nat_tests) in omega (arith, most, same)

  swap_listed : (images : Images) (kind : SwapType) → Listed c l (new_swap c g images kind).list
  swap_listed images kind = by (not images.valid) (nat_lt (greatest_sectors g) (div_ceil images.size g.sector)) refl
    where
      with_kind : (k : SwapType) → div_ceil images.size g.sector ≤ greatest_sectors l → Listed c l (new_list c l k images.size (div_ceil images.size g.sector))
      with_kind kinds.Revert most = reverts images.size (div_ceil images.size g.sector) most refl
      with_kind kinds.None most = begins kinds.None images.size (div_ceil images.size g.sector) most refl refl
      with_kind kinds.Test most = begins kinds.Test images.size (div_ceil images.size g.sector) most refl refl
      with_kind kinds.Perm most = begins kinds.Perm images.size (div_ceil images.size g.sector) most refl refl
      with_kind kinds.Fail most = begins kinds.Fail images.size (div_ceil images.size g.sector) most refl refl
      with_kind kinds.Panic most = begins kinds.Panic images.size (div_ceil images.size g.sector) most refl refl

      by : (a b : Bool) → nat_lt (greatest_sectors g) (div_ceil images.size g.sector) ≡ b
          → Listed c l (if a || b then nothing kinds.Fail
          else record { kind = kind; sectors = div_ceil images.size g.sector; list = new_list c l kind images.size (div_ceil images.size g.sector) }).list
      by true b is = none refl
      by false true is = none refl
      by false false is = with_kind kind (few (div_ceil images.size g.sector) is)

  new_listed : (images : Images) (kind : SwapType) → Listed c l (new_plan c g images kind).list
  new_listed images kinds.None = none refl
  new_listed images kinds.Test = swap_listed images kinds.Test
  new_listed images kinds.Perm = swap_listed images kinds.Perm
  new_listed images kinds.Revert = swap_listed images kinds.Revert
  new_listed images kinds.Fail = none refl
  new_listed images kinds.Panic = none refl

  from_listed : (image_ok : Flag) (highest : Option ℕ) (kind : SwapType) (n : ℕ) (first : Option ℕ) → n ≤ greatest_sectors l → Listed c l (resumed_from c g image_ok highest kind n first).list
  from_listed image_ok highest kind n None most = none refl
  from_listed image_ok highest kind n (Some first) most = goes_on n first (is_none highest) (confirms kind image_ok) most refl

  cut_listed : (image_ok : Flag) (highest : Option ℕ) (kind : SwapType) (n : ℕ) → Listed c l (resumed_swap c g image_ok highest kind n).list
  cut_listed image_ok highest kind n = by (n == 0) (nat_lt (greatest_sectors g) n) refl
    where
      by : (a b : Bool) → nat_lt (greatest_sectors g) n ≡ b → Listed c l (if a || b then nothing kinds.Panic else resumed_from c g image_ok highest kind n (first_left g n highest)).list
      by true b is = none refl
      by false true is = none refl
      by false false is = from_listed image_ok highest kind n (first_left g n highest) (few n is)

  old_listed : (p : Trailer) (highest : Option ℕ) → Listed c l (resumed_plan c g p highest).list
  old_listed p highest = by (p.swap_info == 2) (p.swap_info == 3) (p.swap_info == 4)
    where
      by : (x y z : Bool) → Listed c l (if x then resumed_swap c g p.image_ok highest kinds.Test (div_ceil p.swap_size g.sector)
          else if y then resumed_swap c g p.image_ok highest kinds.Perm (div_ceil p.swap_size g.sector)
          else if z then resumed_swap c g p.image_ok highest kinds.Revert (div_ceil p.swap_size g.sector) else nothing kinds.None).list
      by true y z = cut_listed p.image_ok highest kinds.Test (div_ceil p.swap_size g.sector)
      by false true z = cut_listed p.image_ok highest kinds.Perm (div_ceil p.swap_size g.sector)
      by false false true = cut_listed p.image_ok highest kinds.Revert (div_ceil p.swap_size g.sector)
      by false false false = none refl

pub listed : (r : Rules) (g : Geometry) (s : Content) → Listed r.grain (in_pieces r.grain g) (plan (power_on r g s)).list
unfolding plan plan_with
listed r g s = by (is_resumed r.profile g s)
  where
    by : (b : Bool) → Listed r.grain (in_pieces r.grain g) (if b then resumed_plan r.grain g (trailer_of g s Primary) (highest_entry g s)
        else new_plan r.grain g (images_of s) (table_of r.profile g s)).list
    by true = old_listed r.grain g (trailer_of g s Primary) (highest_entry g s)
    by false = new_listed r.grain g (images_of s) (table_of r.profile g s)

-- ---- erases first

listed_in : (f : ℕ → Sector) (a m j : ℕ) → j < m → IsListed (map f (range_with_len a m)) (f (a + j)).slot (f (a + j)).index
listed_in f a zero j below = absurd (omega (arith, below))
listed_in f a (suc m) zero below =
    let here : a + 0 ≡ a = omega arith in
    inl (ap (λ n. (f n).slot) here, ap (λ n. (f n).index) here)
listed_in f a (suc m) (suc j) below =
    let there : a + 1 + j ≡ a + suc j = omega arith in
    inr (subst (λ n. IsListed (map f (range_with_len (a + 1) m)) (f n).slot (f n).index) there (listed_in f (a + 1) m j (omega (arith, below))))

-- Contents that differ beyond the data of a slot are the same with its trailer's sectors erased.
pub trailer_blank : (g : Geometry) (slot : Slot) (a b : Content) → IsLayout g → SameAt g (λ o i. o ≡ slot → i < data_end g slot) a b
    → blank g (trailer_of_slot g slot) b ≡ blank g (trailer_of_slot g slot) a
trailer_blank g slot a b ok is = blank_same g (trailer_of_slot g slot) a b (fit_there g (trailer_of_slot g slot) a is.sized_u (trailer_there g slot ok)) (record {
  bytes = λ o i out. elim (which_slot o slot) [
    | inr other ↦ is.same o i (λ e. absurd (other e))
    | inl same ↦ rw same (by i (λ index there. out index (rw same there)))
  ];
  sizes = λ o. sized_is g b o is.sized_v ∙ sym (sized_is g a o is.sized_u);
})
  where
    by : (i : ℕ) → ((index : ℕ) → IsListed (trailer_of_slot g slot) slot index → (i < index * g.sector) ⊎ (index * g.sector + g.sector ≤ i)) → byte b slot i ≡ byte a slot i
    by i out = elim (cases_lt i (data_end g slot)) [
      | inl low ↦ is.same slot i (λ _. low)
      | inr high ↦ elim (cases_lt i (size_of g slot)) [
        | inr past ↦
            get_or_past (bytes_of b slot) i 0 (omega (arith, past, sized_is g b slot is.sized_v))
            ∙ sym (get_or_past (bytes_of a slot) i 0 (omega (arith, past, sized_is g a slot is.sized_u)))
        | inl inside ↦ absurd (within (i / g.sector) (i % g.sector) (mod-add-div' i g.sector) (mod-lt i some) high inside)
      ]
    ]
      where
        some : 0 < g.sector
        some = let least = ok.least_sector in omega (arith, least)

        within : (q m : ℕ) → m + q * g.sector ≡ i → m < g.sector → data_end g slot ≤ i → i < size_of g slot → ⊥
        within q m at short high inside = elim (out q listed_q) [ inl low ↦ omega (arith, low, at) | inr beyond ↦ omega (arith, beyond, at, short) ]
          where
            below : q < sectors_of g slot
            below = elim (cases_lt q (sectors_of g slot)) [
              | inl is_below ↦ is_below
              | inr most ↦ let rows : sectors_of g slot * g.sector ≤ q * g.sector = mul-le-mul_right g.sector most in absurd (omega (arith, rows, inside, at))
            ]

            from : data_sectors g slot ≤ q
            from = elim (cases_lt q (data_sectors g slot)) [
              | inr is_from ↦ is_from
              | inl low ↦ let rows : (q + 1) * g.sector ≤ data_end g slot = mul-le-mul_right g.sector (omega (arith, low)) in absurd (omega (arith, rows, high, at, short))
            ]

            listed_q : IsListed (trailer_of_slot g slot) slot q
            listed_q =
                let one : sectors_of g slot - 1 - (0 + (sectors_of g slot - 1 - q)) ≡ q = omega (arith, below) in
                subst (λ n. IsListed (trailer_of_slot g slot) slot n) one
                (listed_in (trailer_sector g slot) 0 (trailer_sectors g) (sectors_of g slot - 1 - q) (omega (arith, below, from)))

-- Boots that begin by erasing sectors outside of which the flashes are the same.
pub erased_ends : (r : Rules) (g : Geometry) (a b : Content) (es : List Sector) → plan (power_on r g a) ≡ plan (power_on r g b)
    → take (length es) (plan (power_on r g a)).list ≡ map erase_of es → blank g es b ≡ blank g es a → EndAlike (power_on r g a) (power_on r g b)
erased_ends r g a b es plans first same =
    end_alike r g a b (λ x y. x ≡ y) plans run (one r g run.end_u run.end_v run.ends)
  where
    run : RunAlike g (λ x y. x ≡ y) (plan (power_on r g a)).list a b
    run = run_same g (λ x y. x ≡ y) (plan (power_on r g a)).list a b (λ z. refl) (same_run g es (plan (power_on r g a)).list a b first same)

    one : (r : Rules) (g : Geometry) (x y : Content) → x ≡ y → Pair r g x y
    one r g x y is = rw is (record { plan_is = refl; primary = refl; secondary = refl; trailer = refl })

pub erases_pieces : (c : Grain) (g : Geometry) (slot : Slot) → trailer_erases (in_pieces c g) slot ≡ trailer_erases g slot
erases_pieces grains.Call g slot = refl
erases_pieces grains.Unit g Primary = refl
erases_pieces grains.Unit g Secondary = refl

pub trailer_first : (c : Grain) (g : Geometry) (slot : Slot) (rest : List Op)
    → take (length (trailer_of_slot g slot)) (trailer_erases (in_pieces c g) slot ++ rest) ≡ map erase_of (trailer_of_slot g slot)
trailer_first c g slot rest =
    rw (erases_pieces c g slot, ← trailer_erased g slot)
    (take_at (map erase_of (trailer_of_slot g slot)) rest (length (trailer_of_slot g slot)) (length-map (trailer_of_slot g slot) erase_of))

-- ---- differences in a trailer

module _ (r : Rules) (g : Geometry) (ok : IsLayout g) where
  abbrev pieces : Geometry
  pieces = in_pieces r.grain g

  ok_pieces : IsLayout pieces
  ok_pieces = pieces_layout r.grain g ok

  -- Of the secondary.
  module _ (a b z : Content) (is : SecondAlike g a b) (left : left_by (power_on r g a) ≡ Some z) (apart : AsksApart r g a) (apart_z : ImagesApart g z) where
    plans_second : plan (power_on r g a) ≡ plan (power_on r g b)
    plans_second = second_plans g ok a b is r apart

    by_plain : AllByRecursion (IsPlain pieces) (plan (power_on r g a)).list → EndAlike (power_on r g a) (power_on r g b)
    by_plain all = end_alike r g a b (SecondAlike g) plans_second run (second_pair g ok run.end_u run.end_v run.ends r ends_apart)
      where
        run : RunAlike g (SecondAlike g) (plan (power_on r g a)).list a b
        run = run_alike g (SecondAlike g) (plan (power_on r g a)).list
            (all_weaker (IsPlain g) (KeepsAlike g (SecondAlike g)) (second_keeps g ok) (plan (power_on r g a)).list (plain_pieces r.grain g (plan (power_on r g a)).list all)) a b is

        ends_apart : ImagesApart g run.end_u
        ends_apart =
            let same : Some run.end_u ≡ Some z = sym (left_u r g a b (SecondAlike g) plans_second run) ∙ left in
            let one : run.end_u ≡ z = cc in rw one apart_z

    pub second_ends : EndAlike (power_on r g a) (power_on r g b)
    second_ends = by (listed r g a)
      where
        by : Listed r.grain pieces (plan (power_on r g a)).list → EndAlike (power_on r g a) (power_on r g b)
        by (none is_none) = by_plain (rw is_none tt)
        by (goes_on n first erases c most same) = by_plain (rw same (resumed_plain pieces ok_pieces n most first erases c))
        by (begins kind size n most no_revert same) = by_plain (rw same (swap_plain pieces ok_pieces n most r.grain kind size))
        by (reverts size n most same) =
            erased_ends r g a b (trailer_of_slot g Secondary) plans_second
            (ap (take (length (trailer_of_slot g Secondary))) same ∙ trailer_first r.grain g Secondary (preparation_writes r.grain pieces size ++ swap_list r.grain pieces kinds.Revert size n))
            (trailer_blank g Secondary a b ok is.same)

  -- Of the primary, in one byte.
  module _ (one : One) (written : IsWrittenAt g one) (where_ : Place g one) (a b z : Content) (is : OrSame g one a b)
      (left : left_by (power_on r g a) ≡ Some z) (apart : AsksApart r g a) (apart_z : ImagesApart g z) where
    plans_first : plan (power_on r g a) ≡ plan (power_on r g b)
    plans_first = beside_plans g ok one written where_ a b r apart is

    all_sound : AllByRecursion (IsSound g) (plan (power_on r g a)).list
    all_sound = all_weaker (IsSound pieces) (IsSound g) (sound_pieces r.grain g) (plan (power_on r g a)).list (by (listed r g a))
      where
        plain_sound : (ops : List Op) → AllByRecursion (IsPlain pieces) ops → AllByRecursion (IsSound pieces) ops
        plain_sound ops all = all_weaker (IsPlain pieces) (IsSound pieces) (λ op plain. plain.0) ops all

        by : Listed r.grain pieces (plan (power_on r g a)).list → AllByRecursion (IsSound pieces) (plan (power_on r g a)).list
        by (none is_none) = rw is_none tt
        by (goes_on n first erases c most same) = rw same (plain_sound _ (resumed_plain pieces ok_pieces n most first erases c))
        by (begins kind size n most no_revert same) = rw same (plain_sound _ (swap_plain pieces ok_pieces n most r.grain kind size))
        by (reverts size n most same) =
            rw (same, ← append_assoc (trailer_erases pieces Secondary) (preparation_writes r.grain pieces size) (swap_list r.grain pieces kinds.Revert size n))
            (all_both (IsSound pieces) (trailer_erases pieces Secondary ++ preparation_writes r.grain pieces size) (swap_list r.grain pieces kinds.Revert size n)
            (all_weaker (InTrailer pieces Secondary) (IsSound pieces) (trailer_sound pieces Secondary) (trailer_erases pieces Secondary ++ preparation_writes r.grain pieces size)
            (preparation_in pieces ok_pieces r.grain size))
            (plain_sound (swap_list r.grain pieces kinds.Revert size n) (swap_plain pieces ok_pieces n most r.grain kinds.Revert size)))

    run_first : RunAlike g (OrSame g one) (plan (power_on r g a)).list a b
    run_first = run_alike g (OrSame g one) (plan (power_on r g a)).list
        (all_weaker (IsSound g) (KeepsAlike g (OrSame g one)) (beside_keeps g ok one written) (plan (power_on r g a)).list all_sound) a b is

    pub beside_ends : EndAlike (power_on r g a) (power_on r g b)
    beside_ends =
        let same : Some run_first.end_u ≡ Some z = sym (left_u r g a b (OrSame g one) plans_first run_first) ∙ left in
        let ends : run_first.end_u ≡ z = cc in
        end_alike r g a b (OrSame g one) plans_first run_first (beside_pair g ok one written where_ run_first.end_u run_first.end_v r (rw ends apart_z) run_first.ends)
