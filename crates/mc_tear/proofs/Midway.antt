-- A loss of power within a transfer of a swap, or in its finish: the next boot goes on with the swap where it was.
use Rattle.std.proofs.{Common.{ap, arith, inl, inr, subst, sym, ◌∙◌}, Math.Nat.{mul-le-mul_right}, lemmas.Bool.Decides.{nat_tests}}
use Rattle.std.specs.{Int.{div_ceil}}
use Rattle.std.specs.Prelude.{Bool, List, Some, [], false, flat_map, if◌then◌else◌, is_none, length, map, nat_lt, refl, slice_get, suc, take, true, zero, ℕ, ◌*◌, ◌++◌, ◌+◌, ◌-◌, ◌<◌, ◌==◌, ◌∷◌, ◌≡◌, ◌≤◌, ◌||◌, ◌⊎◌}
use Rattle.mc_boot.proofs.{CourseJoins.{target, trailer_erased, trailer_of_slot, trailer_there}, Courses.{drop_at_place}, Keeps.{place_beyond_data}, Plans.{plan_resumed}, Twins.{same_plan}}
use Rattle.mc_boot.proofs.Meets.{SameOutside, blank_same, fit_there, which_slot}
use Rattle.mc_boot.proofs.Transfers.{entry_number, left_at, number_up, other_number}
use Rattle.mc_boot.specs.{Life.{is_swap}, Plan.{Plan, closing, confirms, first_left, from_transfer, nothing, plan, power_on, resumed_list, resumed_plan, resumed_swap, steps, trailer_erases, transfers}}
use Rattle.mc_boot.specs.{declared.transfer.Transfer.{Transfer}, inner.Meets.{AreThere, IsListed, Sector, erase_of}}
use Rattle.mc_flash.specs.{Flash.{CanTry, Content, IsSized, apply, byte}, Geometry.{Geometry, IsLayout, greatest_sectors, in_pieces}, declared.flash.Grain.{Grain}, declared.op.Op.{Op}}
use Rattle.mc_flash.specs.{declared.op.Op.TheVariants.{Copy, Erase, Program}, declared.op.Slot.{Slot}, declared.op.Slot.TheVariants.{Primary, Secondary}}
use Rattle.mc_flash.specs.facts.{Changes.{changed_sized, sized_is}, Layouts.{data_before_trailer, data_end, data_sectors}}
use Rattle.mc_tear.proofs.{Boots.{erased_ends, erases_pieces}, OneOp.{Ends, torn_sized}, Read.{torn_out}, Whole.{whole_is, written, written_long}}
use Rattle.mc_tear.proofs.Lists.{InTarget, fits, number, transfers_pieces}
use Rattle.mc_tear.specs.Cases.{slot_of, written_from, written_len}
use Rattle.mc_tear.specs.declared.torn.Erasing.{Erasing}
use Rattle.mc_trailer.specs.{Tables.{asks_another, is_good, is_resumed, is_unset}, Trailer.{entry_place, greatest, highest_entry, is_written, one_unit, place, trailer_of}}
use Rattle.mc_trailer.specs.{declared.tables.Rules.{Rules}, declared.tables.SwapType.{SwapType}, declared.trailer.Flag.{Flag}, declared.trailer.Trailer.{Trailer}}
use Rattle.mc_trailer.specs.facts.Entries.{entry_is_written, entry_kept_beside, highest_at, same_entry}
use Rattle.mc_trailer.specs.facts.{Fields.{same_trailer, trailer_kept, trailer_kept_elsewhere}, Places.{entry_ends, entry_inside, entry_range, one_unit_len}}
use Rattle.mc_boot.proofs.TornSwaps.{program_is}
use Rattle.mc_trailer.specs.declared.tables.SwapType.TheVariants as kinds

-- ---- what stands after the data

-- Two flashes that are the same after the data.
pub record SameAfter (g : Geometry) (s t : Content) : Type 0 where
  pub sized_s : IsSized g s
  pub sized_t : IsSized g t
  pub same : (o : Slot) (i : ℕ) → data_end g o ≤ i → byte t o i ≡ byte s o i

pub trailers_same : (g : Geometry) (s t : Content) → IsLayout g → SameAfter g s t → (o : Slot) → trailer_of g t o ≡ trailer_of g s o
trailers_same g s t ok is o = same_trailer g s t o ok is.sized_s is.sized_t (λ f i within. is.same o (place g o f + i) (omega (arith, place_beyond_data g o f ok)))

pub written_same : (g : Geometry) (s t : Content) → IsLayout g → SameAfter g s t → (d : ℕ) → d < 3 * g.max_sectors → is_written g t d ≡ is_written g s d
written_same g s t ok is d below =
    same_entry g s t d ok is.sized_s is.sized_t below (λ i short. is.same Primary (entry_place g d + i) (omega (arith, entry_inside g d ok below, data_before_trailer g Primary ok)))

greatest_same : (p q : ℕ → Bool) (n m : ℕ) → n ≤ m → ((d : ℕ) → d < m → p d ≡ q d) → greatest p n ≡ greatest q n
greatest_same p q zero m most same = refl
greatest_same p q (suc n) m most same = rw (same n (omega (arith, most))) (rw (greatest_same p q n m (omega (arith, most)) same) refl)

pub highest_same : (g : Geometry) (s t : Content) → IsLayout g → SameAfter g s t → highest_entry g t ≡ highest_entry g s
highest_same g s t ok is = greatest_same (is_written g t) (is_written g s) (3 * g.max_sectors) (3 * g.max_sectors) (omega arith) (written_same g s t ok is)

-- ---- a swap under way

-- The primary's trailer is that of a swap of n sectors.
pub record IsUnderWay (g : Geometry) (n : ℕ) (p : Trailer) : Type 0 where
  pub magic : is_good p.magic ≡ true
  pub copy_done : is_unset p.copy_done ≡ true
  pub info : is_swap p.swap_info ≡ true
  pub count : div_ceil p.swap_size g.sector ≡ n
  pub some : 0 < n

-- Before transfer k.
pub record Midway (r : Rules) (g : Geometry) (n : ℕ) (p : Trailer) (k : ℕ) (s : Content) : Type 0 where
  pub sized : IsSized g s
  pub primary : trailer_of g s Primary ≡ p
  pub other : asks_another r.profile p (trailer_of g s Secondary) ≡ false
  pub left : first_left g n (highest_entry g s) ≡ Some k
  pub free : (d : ℕ) → entry_number g n k ≤ d → d < 3 * g.max_sectors → is_written g s d ≡ false

abbrev pub Resumes : Grain → Geometry → ℕ → ℕ → Bool → List Op → Type 0
Resumes c g n k erases ops = (b : Bool) × (ops ≡ resumed_list (in_pieces c g) n k erases b)

module _ (r : Rules) (g : Geometry) (ok : IsLayout g) (n : ℕ) (at_most : n ≤ greatest_sectors g) (p : Trailer) (way : IsUnderWay g n p) where
  few : n ≤ g.max_sectors
  few = omega (arith, at_most)

  module _ (k : ℕ) (s : Content) (is : Midway r g n p k s) where
    pub resumed : is_resumed r.profile g s ≡ true
    resumed =
        let other = is.other in
        let magic = way.magic in
        let copy_done = way.copy_done in
        rw is.primary (rw other (rw (magic, copy_done) refl))

    swap_is : (image_ok : Flag) (kind : SwapType) → Resumes r.grain g n k (is_none (highest_entry g s)) (resumed_swap r.grain g image_ok (highest_entry g s) kind n).list
    swap_is image_ok kind = (
      confirms kind image_ok,
      rw (other_number n 0 (λ e. let some = way.some in omega (arith, e, some)), fits_so, is.left) refl,
    )
      where
        fits_so : nat_lt (greatest_sectors g) n ≡ false
        fits_so = grind (arith, nat_tests)

    of_plan : Resumes r.grain g n k (is_none (highest_entry g s)) (resumed_plan r.grain g p (highest_entry g s)).list
    of_plan = rw way.count (by (p.swap_info == 2) (p.swap_info == 3) (p.swap_info == 4) way.info)
      where
        by : (x y z : Bool) → (x || y || z) ≡ true
            → Resumes r.grain g n k (is_none (highest_entry g s)) (if x then resumed_swap r.grain g p.image_ok (highest_entry g s) kinds.Test n
            else if y then resumed_swap r.grain g p.image_ok (highest_entry g s) kinds.Perm n
            else if z then resumed_swap r.grain g p.image_ok (highest_entry g s) kinds.Revert n else nothing kinds.None).list
        by true y z some = swap_is p.image_ok kinds.Test
        by false true z some = swap_is p.image_ok kinds.Perm
        by false false true some = swap_is p.image_ok kinds.Revert
        by false false false some = absurd cc

    pub list_is : Resumes r.grain g n k (is_none (highest_entry g s)) (plan (power_on r g s)).list
    list_is =
        let one : plan (power_on r g s) ≡ resumed_plan r.grain g p (highest_entry g s) =
        plan_resumed (power_on r g s) resumed ∙ ap (λ (t : Trailer). resumed_plan r.grain g t (highest_entry g s)) is.primary in
        (of_plan.0, ap (λ (q : Plan). q.list) one ∙ of_plan.1)

    -- ---- within transfer k

    module _ (t : Transfer) (at : slice_get (transfers g n) k ≡ Some t) where
      abbrev e_t : Sector
      e_t = target t

      -- Where it writes.
      pub writes : (op : Op) → InTarget g t op → (slot_of op ≡ t.to) × (t.to_sector * g.sector ≤ written_from g op)
          × (written_from g op + written_len g op ≤ t.to_sector * g.sector + g.sector) × CanTry g op
      writes (Erase o sector) (slot, index) =
          rw (slot, index) (refl, omega arith, omega arith, (fits g ok n at_most k t at).inside.to)
      writes (Program o from bytes) is = absurd is
      writes (Copy from start to offset len) is = (is.0, is.2, is.3, is.4)

      outside : (v : Content) → IsSized g v → ((o : Slot) (i : ℕ) → (o ≡ t.to → (i < t.to_sector * g.sector) ⊎ (t.to_sector * g.sector + g.sector ≤ i)) → byte v o i ≡ byte s o i)
          → SameOutside g (e_t ∷ []) s v
      outside v sized same = record {
        bytes = λ o i out. same o i (λ here. out t.to_sector (inl (here, refl)));
        sizes = λ o. sized_is g v o sized ∙ sym (sized_is g s o is.sized);
      }

      below : t.to_sector < data_sectors g t.to
      below = (fits g ok n at_most k t at).to_data

      listed_beyond : (ts fs : List Sector) (slot : Slot) (index : ℕ) → IsListed fs slot index → IsListed (ts ++ fs) slot index
      listed_beyond [] fs slot index listed = listed
      listed_beyond (x ∷ ts) fs slot index listed = inr (listed_beyond ts fs slot index listed)

      wider : (ts : List Sector) (v : Content) → SameOutside g (e_t ∷ []) s v → SameOutside g (ts ++ e_t ∷ []) s v
      wider ts v one = record { bytes = λ o i out. one.bytes o i (λ index there. out index (listed_beyond ts (e_t ∷ []) o index there)); sizes = one.sizes }

      there_too : (ts : List Sector) → AreThere g ts → AreThere g (ts ++ e_t ∷ [])
      there_too [] there = ((fits g ok n at_most k t at).inside.to, tt)
      there_too (x ∷ ts) there = (there.0, there_too ts there.1)

      take_first : (ts : List Sector) (more : List Op) → take (length (ts ++ e_t ∷ [])) (map erase_of ts ++ erase_of e_t ∷ more) ≡ map erase_of (ts ++ e_t ∷ [])
      take_first [] more = refl
      take_first (x ∷ ts) more = ap (λ (ops : List Op). erase_of x ∷ ops) (take_first ts more)

      rest_is : (b : Bool) → (more : List Op) × (from_transfer (in_pieces r.grain g) n k b ≡ erase_of e_t ∷ more)
      rest_is b = (
        _,
        ap (λ (ts : List Transfer). flat_map (steps (in_pieces r.grain g)) ts ++ closing (in_pieces r.grain g) b)
            (drop_at_place (transfers (in_pieces r.grain g) n) k t (ap (λ (ts : List Transfer). slice_get ts k) (transfers_pieces r.grain g n) ∙ at)),
      )

      -- The sectors that the boot from s erases first.
      first_of : Bool → List Sector
      first_of false = []
      first_of true = trailer_of_slot g Secondary

      first_there : (erases : Bool) → AreThere g (first_of erases)
      unfolding first_of
      first_there false = tt
      first_there true = trailer_there g Secondary ok

      begins : (erases b : Bool) → take (length (first_of erases ++ e_t ∷ [])) (resumed_list (in_pieces r.grain g) n k erases b) ≡ map erase_of (first_of erases ++ e_t ∷ [])
      unfolding first_of
      begins false b = ap (take 1) (rest_is b).1
      begins true b =
          ap (λ (ops : List Op). take (length (trailer_of_slot g Secondary ++ e_t ∷ [])) (trailer_erases (in_pieces r.grain g) Secondary ++ ops)) (rest_is b).1
          ∙ ap (λ (ops : List Op). take (length (trailer_of_slot g Secondary ++ e_t ∷ [])) (ops ++ erase_of e_t ∷ (rest_is b).0)) (erases_pieces r.grain g Secondary ∙ sym (trailer_erased g Secondary))
          ∙ take_first (trailer_of_slot g Secondary) (rest_is b).0

      pub data_op : (e : Erasing) (op : Op) → InTarget g t op → Ends e r g s op
      data_op e op inside v z torn_v left apart apart_z =
          let w = writes op inside in
          let one = outside v (torn_sized e g op s v is.sized torn_v) (λ o i out. torn_out e g op s v ok is.sized w.3 torn_v o i (λ here.
          elim (out (here ∙ w.0)) [ inl low ↦ inl (omega (arith, low, w.1)) | inr high ↦ inr (omega (arith, high, w.2)) ])) in
          let plans : plan (power_on r g v) ≡ plan (power_on r g s) = same_plan g e_t s v ok is.sized below one r resumed in
          let list = list_is in
          let erases : Bool = is_none (highest_entry g s) in
          let es : List Sector = first_of erases ++ e_t ∷ [] in (
            s,
            inl refl,
            erased_ends r g v s es plans
                (ap (λ (q : Plan). take (length es) q.list) plans ∙ ap (take (length es)) list.1 ∙ begins erases list.0)
                (sym (blank_same g es s v (fit_there g es s is.sized (there_too (first_of erases) (first_there erases))) (wider (first_of erases) v one))),
          )

      -- It leaves all after the data.
      after_data : (op : Op) → InTarget g t op → (u : Content) → apply g op s ≡ Some u → SameAfter g s u
      after_data op inside u made =
          let w = writes op inside in
          let ch = whole_is g ok s is.sized op u w.3 made in
          let long : length (written g op s) ≡ written_len g op = written_long g ok s is.sized op w.3 in
          let end : (t.to_sector + 1) * g.sector ≤ data_end g t.to = mul-le-mul_right g.sector (omega (arith, below)) in
          record {
            sized_s = is.sized;
            sized_t = changed_sized g s u (slot_of op) (written_from g op) (written g op s) ch is.sized;
            same = λ o i late. elim (which_slot o (slot_of op)) [
              | inr other ↦ ch.other o i other
              | inl here ↦
                  let E : Slot → Type 0 = λ x. data_end g x ≤ i in
                  let late_here : data_end g t.to ≤ i = subst E (here ∙ w.0) late in
                  rw here (ch.beyond i (omega (arith, late_here, end, w.2, long)))
            ];
          }

      pub data_still : (op : Op) → InTarget g t op → (u : Content) → apply g op s ≡ Some u → Midway r g n p k u
      data_still op inside u made =
          let after = after_data op inside u made in
          record {
            sized = after.sized_t;
            primary = trailers_same g s u ok after Primary ∙ is.primary;
            other = ap (λ (x : Trailer). asks_another r.profile p x) (trailers_same g s u ok after Secondary) ∙ is.other;
            left = ap (first_left g n) (highest_same g s u ok after) ∙ is.left;
            free = λ d from under. written_same g s u ok after d under ∙ is.free d from under;
          }

      -- Its entry is written.
      abbrev entry : Op
      entry = Program Primary (entry_place g (entry_number g n k)) (one_unit g 1)

      pub entry_made : k < 3 * n → (u : Content) → apply g entry s ≡ Some u → Midway r g n p (k + 1) u
      entry_made last u made =
          let under = number g ok n at_most k t at in
          let range = entry_range g (entry_number g n k) 1 ok under in
          let ch = program_is g s u Primary (entry_place g (entry_number g n k)) (one_unit g 1) is.sized range.inside made in
          let sized = changed_sized g s u Primary (entry_place g (entry_number g n k)) (one_unit g 1) ch is.sized in
          let beside : (d : ℕ) → entry_number g n k < d → d < 3 * g.max_sectors → is_written g u d ≡ false =
          (λ d over high. same_entry g s u d ok is.sized sized high
          (entry_kept_beside g s u (entry_number g n k) d 1 ok under high (λ e. omega (arith, e, over)) ch) ∙ is.free d (omega (arith, over)) high) in
          let highest = highest_at g u (entry_number g n k) (entry_is_written g s u (entry_number g n k) ok sized under ch) beside in
          let now_ : k + 1 - 1 ≡ k = omega arith in
          record {
            sized = sized;
            primary =
                trailer_kept g s u Primary (entry_place g (entry_number g n k)) (one_unit g 1) ok is.sized ch
                (omega (arith, entry_ends g (entry_number g n k) ok under, one_unit_len g 1 ok)) ∙ is.primary;
            other =
                ap (λ (x : Trailer). asks_another r.profile p x)
                (trailer_kept_elsewhere g s u Primary Secondary (entry_place g (entry_number g n k)) (one_unit g 1) ok is.sized ch (λ e. cc)) ∙ is.other;
            left = ap (first_left g n) (highest ∙ ap (λ j. Some (entry_number g n j)) (sym now_)) ∙ left_at g n (k + 1) ok at_most (omega arith) (omega (arith, last));
            free = λ d from high. beside d (omega (arith, from, number_up g n k (k + 1) few (omega arith))) high;
          }
