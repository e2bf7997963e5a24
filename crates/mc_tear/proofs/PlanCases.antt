-- What the list of a boot's plan is, by cases: nothing, a swap that goes on, a revert, or a swap that the secondary asks for.
use Rattle.std.proofs.{Common.{arith, subst}, lemmas.Bool.Decides.{nat_tests}}
use Rattle.std.specs.Int.{div_ceil}
use Rattle.std.specs.Prelude.{Bool, List, None, Option, Some, [], false, if◌then◌else◌, is_none, nat_lt, not, refl, true, ℕ, ◌++◌, ◌<◌, ◌==◌, ◌≡◌, ◌≤◌, ◌||◌}
use Rattle.mc_boot.specs.{Life.{is_swap}, Plan.{confirms, first_left, images_of, new_list, new_plan, new_swap, nothing, number_of, plan, plan_with, power_on, preparation_writes, resumed_from, resumed_list, resumed_plan, resumed_swap, swap_list, trailer_erases}}
use Rattle.mc_flash.specs.{Flash.{Content}, Geometry.{Geometry, greatest_sectors, in_pieces}, declared.op.Op.{Op}, declared.op.Slot.TheVariants.{Primary, Secondary}}
use Rattle.mc_tear.proofs.Opening.{CanBegin, IsClear}
use Rattle.mc_trailer.specs.{Tables.{Asks as IsAsked, is_good, is_resumed, is_set, is_unset, table_of}, Trailer.{highest_entry, trailer_of}, declared.tables.Rules.{Rules}}
use Rattle.mc_trailer.specs.{declared.tables.SwapType.{SwapType}, declared.trailer.Flag.{Flag}, declared.trailer.Magic.{Magic}, declared.trailer.Trailer.{Trailer}, facts.Tables.{and_parts, asked as asked_rows}}
use Rattle.mc_trailer.specs.declared.tables.SwapType.TheVariants as kinds
use Rattle.mc_trailer.specs.declared.trailer.Flag.TheVariants as flags
use Rattle.mc_trailer.specs.declared.trailer.Magic.TheVariants as magics

pub fits_few : (g : Geometry) (n : ℕ) → nat_lt (greatest_sectors g) n ≡ false → n ≤ greatest_sectors g
fits_few g n is = grind (arith, nat_tests)

some_is : (n : ℕ) → (n == 0) ≡ false → 0 < n
some_is n is = grind (arith, nat_tests)

module _ (r : Rules) (g : Geometry) (s : Content) (R : List Op → Type 0) (none : R []) where
  abbrev l : Geometry
  l = in_pieces r.grain g

  abbrev p : Trailer
  p = trailer_of g s Primary

  abbrev size : ℕ
  size = (images_of s).size

  abbrev sectors : ℕ
  sectors = div_ceil size g.sector

  -- Of a swap that goes on, from its next transfer.
  abbrev pub WhereGoes : Type 0
  WhereGoes =
      (n first : ℕ) (b : Bool) → div_ceil p.swap_size g.sector ≡ n → is_swap p.swap_info ≡ true → 0 < n → n ≤ greatest_sectors g → first_left g n (highest_entry g s) ≡ Some first
      → R (resumed_list l n first (is_none (highest_entry g s)) b)

  module _ (goes : WhereGoes) where
    module _ (n : ℕ) (count : div_ceil p.swap_size g.sector ≡ n) (info : is_swap p.swap_info ≡ true) where
      cut : (kind : SwapType) → R (resumed_swap r.grain g p.image_ok (highest_entry g s) kind n).list
      cut kind = by (n == 0) refl (nat_lt (greatest_sectors g) n) refl
        where
          from : 0 < n → n ≤ greatest_sectors g → (o : Option ℕ) → first_left g n (highest_entry g s) ≡ o → R (resumed_from r.grain g p.image_ok (highest_entry g s) kind n o).list
          from some most None is = none
          from some most (Some first) is = goes n first (confirms kind p.image_ok) count info some most is

          by : (a : Bool) → (n == 0) ≡ a → (c : Bool) → nat_lt (greatest_sectors g) n ≡ c
              → R (if a || c then nothing kinds.Panic else resumed_from r.grain g p.image_ok (highest_entry g s) kind n (first_left g n (highest_entry g s))).list
          by true is_a c is = none
          by false some true is = none
          by false some false is = from (some_is n some) (fits_few g n is) (first_left g n (highest_entry g s)) refl

    resumed_case : R (resumed_plan r.grain g p (highest_entry g s)).list
    resumed_case = by (p.swap_info == 2) refl (p.swap_info == 3) refl (p.swap_info == 4) refl
      where
        by : (x : Bool) → (p.swap_info == 2) ≡ x → (y : Bool) → (p.swap_info == 3) ≡ y → (z : Bool) → (p.swap_info == 4) ≡ z
            → R (if x then resumed_swap r.grain g p.image_ok (highest_entry g s) kinds.Test (div_ceil p.swap_size g.sector)
            else if y then resumed_swap r.grain g p.image_ok (highest_entry g s) kinds.Perm (div_ceil p.swap_size g.sector)
            else if z then resumed_swap r.grain g p.image_ok (highest_entry g s) kinds.Revert (div_ceil p.swap_size g.sector) else nothing kinds.None).list
        by true is_x y is_y z is_z = cut (div_ceil p.swap_size g.sector) refl (rw is_x refl) kinds.Test
        by false is_x true is_y z is_z = cut (div_ceil p.swap_size g.sector) refl (rw (is_x, is_y) refl) kinds.Perm
        by false is_x false is_y true is_z = cut (div_ceil p.swap_size g.sector) refl (rw (is_x, is_y, is_z) refl) kinds.Revert
        by false is_x false is_y false is_z = none

  swap_if : (kind : SwapType) → (CanBegin g s → R (new_list r.grain l kind size sectors)) → R (new_swap r.grain g (images_of s) kind).list
  swap_if kind so = by (images_of s).valid refl (nat_lt (greatest_sectors g) sectors) refl
    where
      by : (a : Bool) → (images_of s).valid ≡ a → (c : Bool) → nat_lt (greatest_sectors g) sectors ≡ c
          → R (if not a || c then nothing kinds.Fail else record { kind = kind; sectors = sectors; list = new_list r.grain l kind size sectors }).list
      by false valid c is = none
      by true valid true is = none
      by true valid false is = so (record { valid = valid; few = fits_few g sectors is })

  magic_of_good : (q : Trailer) → is_good q.magic ≡ true → q.magic ≡ magics.Good
  magic_of_good q is = by q.magic is
    where
      by : (m : Magic) → is_good m ≡ true → m ≡ magics.Good
      by magics.Good is = refl
      by magics.Unset is = absurd cc
      by magics.Bad is = absurd cc

  flag_by : (f : Flag) → (is_unset f ≡ true → f ≡ flags.Unset) × (is_set f ≡ true → f ≡ flags.Set)
  flag_by flags.Unset = (λ _. refl, λ is. absurd cc)
  flag_by flags.Set = (λ is. absurd cc, λ _. refl)
  flag_by flags.Bad = (λ is. absurd cc, λ is. absurd cc)

  -- Of a revert; and of a swap that the secondary asks for.
  abbrev pub WhereReverts : Type 0
  WhereReverts = table_of r.profile g s ≡ kinds.Revert → CanBegin g s → R (trailer_erases l Secondary ++ (preparation_writes r.grain l size ++ swap_list r.grain l kinds.Revert size sectors))

  abbrev pub WhereAsks : Type 0
  WhereAsks =
      (kind : SwapType) (flag : Flag) → is_swap (number_of kind) ≡ true → IsClear flag → CanBegin g s → (trailer_of g s Secondary).magic ≡ magics.Good → (trailer_of g s Secondary).image_ok ≡ flag
      → R (swap_list r.grain l kind size sectors)

  new_case : WhereReverts → WhereAsks → (kind : SwapType) → table_of r.profile g s ≡ kind → R (new_plan r.grain g (images_of s) kind).list
  new_case reverts asks kinds.None is = none
  new_case reverts asks kinds.Fail is = none
  new_case reverts asks kinds.Panic is = none
  new_case reverts asks kinds.Revert is = swap_if kinds.Revert (reverts is)
  new_case reverts asks kinds.Test is =
      let q = trailer_of g s Secondary in
      let rows : IsAsked r.profile p q kinds.Test = subst (IsAsked r.profile p q) is (asked_rows r.profile p q) in
      let parts = and_parts (is_good q.magic) (is_unset q.image_ok) rows in
      swap_if kinds.Test (λ begin. asks kinds.Test flags.Unset refl tt begin (magic_of_good q parts.0) ((flag_by q.image_ok).0 parts.1))
  new_case reverts asks kinds.Perm is =
      let q = trailer_of g s Secondary in
      let rows : IsAsked r.profile p q kinds.Perm = subst (IsAsked r.profile p q) is (asked_rows r.profile p q) in
      let parts = and_parts (is_good q.magic) (is_set q.image_ok) rows in
      swap_if kinds.Perm (λ begin. asks kinds.Perm flags.Set refl tt begin (magic_of_good q parts.0) ((flag_by q.image_ok).1 parts.1))

  pub plan_case : (is_resumed r.profile g s ≡ true → WhereGoes) → WhereReverts → WhereAsks → R (plan (power_on r g s)).list
  unfolding plan plan_with
  plan_case goes reverts asks = by (is_resumed r.profile g s) refl
    where
      by : (b : Bool) → is_resumed r.profile g s ≡ b → R (if b then resumed_plan r.grain g p (highest_entry g s) else new_plan r.grain g (images_of s) (table_of r.profile g s)).list
      by true resumed = resumed_case (goes resumed)
      by false fresh = new_case reverts asks (table_of r.profile g s) refl
