-- What the operations of a boot's list are.
use Rattle.std.proofs.{Common.{ap, append_assoc, arith, inl, inr, subst, sym, ◌∙◌}, Math.Nat.{mod-add-div', mod_self, mul-le-mul_right}, lemmas.Bool.{cases_lt}, lemmas.List.{drop_all}, lemmas.List.Edits.{length-between}}
use Rattle.std.specs.List.{AllByRecursion, between, range_with_len}
use Rattle.std.specs.Prelude.{Bool, List, Some, [], drop, false, flat_map, if◌then◌else◌, length, map, refl, slice_get, suc, true, zero, ℕ, ⊤, ◌%◌, ◌*◌, ◌++◌, ◌+◌, ◌-◌, ◌/◌, ◌<◌, ◌∷◌, ◌≡◌, ◌≤◌}
use Rattle.mc_boot.proofs.{CourseJoins.{all_both, all_mapped}, Courses.{can_copy, can_of, drop_at_place}, Keeps.{place_beyond_data}, Meets.{all_weaker}, Transfers.{Fits, entry_number, fits_at, number_below, place_below, there_is}}
use Rattle.mc_boot.specs.Plan.{closing, copy_of, entry_of, from_transfer, is_test, marking, number_of, opening_writes, piece, preparation_writes, resumed_list, steps, trailer_erase, trailer_erases, transfers, write}
use Rattle.mc_boot.specs.{declared.transfer.Transfer.{Transfer}, facts.Lengths.{length-transfers}}
use Rattle.mc_flash.specs.{Flash.{CanTry, IsRange, sectors_of, size_of}, Geometry.{Geometry, IsLayout, greatest_sectors, in_pieces, trailer_sectors}, declared.flash.Grain.{Grain}, declared.op.Op.{Op}}
use Rattle.mc_flash.specs.{declared.op.Op.TheVariants.{Copy, Erase, Program}, declared.op.Slot.{Slot}, declared.op.Slot.TheVariants.{Primary, Secondary}}
use Rattle.mc_flash.specs.facts.Layouts.{chunks_cover, data_before_trailer, data_end, data_sectors, small_unit, trailer_leaves_one, trailer_sector_beyond_data, whole_add, whole_units}
use Rattle.mc_tear.specs.Cases.{slot_of, written_from}
use Rattle.mc_trailer.specs.{Trailer.{entry_place, magic_bytes, one_unit, place, room, size_bytes}, declared.places.Field.{Field}, declared.tables.SwapType.{SwapType}}
use Rattle.mc_trailer.specs.facts.Places.{entry_inside, entry_range, field_ends, field_range, flag_range, magic_range, place_aligned, size_bytes_fit, size_bytes_len, size_bytes_whole}
use Rattle.mc_flash.specs.declared.flash.Grain.TheVariants as grains
use Rattle.mc_trailer.specs.declared.places.Field.TheVariants as field

-- A program lies after the data, and a copy within it.
abbrev pub IsSound : Geometry → Op → Type 0
IsSound g (Erase slot sector) = sector < sectors_of g slot
IsSound g (Program slot at bytes) = (data_end g slot ≤ at) × (at + length bytes ≤ size_of g slot)
IsSound g (Copy from at to offset len) = (at + len ≤ data_end g from) × (offset + len ≤ data_end g to)

-- In the trailer of that slot: an erase of a sector of it, or a write.
abbrev pub InTrailer : Geometry → Slot → Op → Type 0
InTrailer g slot (Erase o sector) = (o ≡ slot) × (data_sectors g slot ≤ sector) × (sector < sectors_of g slot)
InTrailer g slot (Program o at bytes) = (o ≡ slot) × (data_end g slot ≤ at) × IsRange g slot at (length bytes)
InTrailer g slot (Copy from at to offset len) = ⊥

-- It writes nothing in the secondary's trailer, but it may erase it.
abbrev pub SparesSecond : Op → Type 0
SparesSecond (Erase slot sector) = ⊤
SparesSecond (Program Primary at bytes) = ⊤
SparesSecond (Program Secondary at bytes) = ⊥
SparesSecond (Copy from at to offset len) = ⊤

abbrev pub IsPlain : Geometry → Op → Type 0
IsPlain g op = IsSound g op × SparesSecond op

-- In the target of a transfer: it is erased, or copied into.
abbrev pub InTarget : Geometry → Transfer → Op → Type 0
InTarget g t (Erase o sector) = (o ≡ t.to) × (sector ≡ t.to_sector)
InTarget g t (Program o at bytes) = ⊥
InTarget g t (Copy from at to offset len) =
    (to ≡ t.to) × (at + len ≤ data_end g from) × (t.to_sector * g.sector ≤ offset) × (offset + len ≤ t.to_sector * g.sector + g.sector)
    × CanTry g (Copy from at to offset len)

abbrev pub writes_flag : Geometry → Field → Op
writes_flag g f = Program Primary (place g Primary f) (one_unit g 1)

pub trailer_sound : (g : Geometry) (slot : Slot) (op : Op) → InTrailer g slot op → IsSound g op
trailer_sound g slot (Erase o sector) is = rw is.0 is.2
trailer_sound g slot (Program o at bytes) is = rw is.0 (is.1, is.2.inside)
trailer_sound g slot (Copy from at to offset len) is = absurd is

-- It can be tried, and writes in that slot, after the data.
pub trailer_can : (g : Geometry) (slot : Slot) (op : Op) → InTrailer g slot op → CanTry g op
trailer_can g slot (Erase o sector) is = rw is.0 is.2
trailer_can g slot (Program o at bytes) is = rw is.0 is.2
trailer_can g slot (Copy from at to offset len) is = absurd is

pub trailer_place : (g : Geometry) (slot : Slot) (op : Op) → InTrailer g slot op → (slot_of op ≡ slot) × (data_end g slot ≤ written_from g op)
trailer_place g slot (Erase o sector) is = (is.0, trailer_sector_beyond_data g slot sector is.1)
trailer_place g slot (Program o at bytes) is = (is.0, is.1)
trailer_place g slot (Copy from at to offset len) is = absurd is

primary_plain : (g : Geometry) (op : Op) → InTrailer g Primary op → IsPlain g op
primary_plain g (Erase o sector) is = (trailer_sound g Primary (Erase o sector) is, tt)
primary_plain g (Program Primary at bytes) is = (trailer_sound g Primary (Program Primary at bytes) is, tt)
primary_plain g (Program Secondary at bytes) is = absurd cc
primary_plain g (Copy from at to offset len) is = absurd is

module _ (g : Geometry) (ok : IsLayout g) where
  pub erases_in : (slot : Slot) → AllByRecursion (InTrailer g slot) (trailer_erases g slot)
  erases_in slot = all_mapped (InTrailer g slot) (trailer_erase g slot) 0 (trailer_sectors g) (λ i h.
      let leaves = trailer_leaves_one g slot ok in (refl, omega (arith, h, leaves), omega (arith, h, leaves)))

  write_in : (c : Grain) (slot : Slot) (f : Field) (new : List ℕ) → length new ≤ room f → length new % g.unit ≡ 0 → 0 < length new → AllByRecursion (InTrailer g slot) (write c g slot f new)
  write_in grains.Call slot f new short whole some = ((refl, place_beyond_data g slot f ok, field_range g slot f (length new) ok short whole some), tt)
  write_in grains.Unit slot f new short whole some =
      all_mapped (InTrailer g slot) (piece g slot (place g slot f) new) 0 (length new / g.unit) (λ j h.
      let row : (j + 1) * g.unit ≤ length new / g.unit * g.unit = mul-le-mul_right g.unit (omega (arith, h)) in
      let parts = mod-add-div' (length new) g.unit in
      let fits : j * g.unit + g.unit ≤ length new = omega (arith, row, parts) in
      let len : length (between (j * g.unit) (j * g.unit + g.unit) new) ≡ g.unit = length-between new (j * g.unit) (j * g.unit + g.unit) fits ∙ omega arith in (
        refl,
        omega (arith, place_beyond_data g slot f ok),
        record {
          inside = omega (arith, len, fits, short, field_ends g slot f ok);
          start = whole_add g (place g slot f) (j * g.unit) (place_aligned g slot f ok) (whole_units g j);
          units = ap (λ n. n % g.unit) len ∙ mod_self g.unit;
          some = let unit = small_unit g ok in omega (arith, len, unit);
        },
      ))

  flag_in : (slot : Slot) (f : Field) (m : ℕ) → InTrailer g slot (Program slot (place g slot f) (one_unit g m))
  flag_in slot f m = (refl, place_beyond_data g slot f ok, flag_range g slot f m ok)

  marking_in : (c : Grain) (slot : Slot) (size : ℕ) → AllByRecursion (InTrailer g slot) (marking c g slot size)
  marking_in c slot size =
      all_both (InTrailer g slot) (write c g slot field.SwapSize (size_bytes g size)) (write c g slot field.Magic magic_bytes)
      (write_in c slot field.SwapSize (size_bytes g size) (size_bytes_fit g size ok) (size_bytes_whole g size ok) (omega (arith, size_bytes_len g size)))
      (write_in c slot field.Magic magic_bytes (omega arith) (magic_range g slot ok).units (omega arith))

  pub preparation_in : (c : Grain) (size : ℕ) → AllByRecursion (InTrailer g Secondary) (trailer_erases g Secondary ++ preparation_writes c g size)
  preparation_in c size =
      all_both (InTrailer g Secondary) (trailer_erases g Secondary) (preparation_writes c g size) (erases_in Secondary)
      (flag_in Secondary field.ImageOk 1, marking_in c Secondary size)

  pub opening_in : (c : Grain) (kind : SwapType) (size : ℕ) → AllByRecursion (InTrailer g Primary) (trailer_erases g Primary ++ opening_writes c g kind size)
  opening_in c kind size =
      all_both (InTrailer g Primary) (trailer_erases g Primary) (opening_writes c g kind size) (erases_in Primary)
      (flag_in Primary field.SwapInfo (number_of kind), by (is_test kind))
    where
      by : (b : Bool) → AllByRecursion (InTrailer g Primary) (if b then marking c g Primary size else writes_flag g field.ImageOk ∷ marking c g Primary size)
      by true = marking_in c Primary size
      by false = (flag_in Primary field.ImageOk 1, marking_in c Primary size)

  pub closing_in : (b : Bool) → AllByRecursion (InTrailer g Primary) (closing g b)
  closing_in true = (flag_in Primary field.ImageOk 1, (flag_in Primary field.CopyDone 1, tt))
  closing_in false = (flag_in Primary field.CopyDone 1, tt)

  -- A transfer.
  module _ (n : ℕ) (at_most : n ≤ greatest_sectors g) where
    module _ (k : ℕ) (t : Transfer) (at : slice_get (transfers g n) k ≡ Some t) where
      pub fits : Fits g n k t
      fits = fits_at g n k t ok at_most at

      pub steps_in : AllByRecursion (InTarget g t) (Erase t.to t.to_sector ∷ map (copy_of g t) (range_with_len 0 (g.sector / g.chunk)))
      steps_in = (
        (refl, refl),
        all_mapped (InTarget g t) (copy_of g t) 0 (g.sector / g.chunk) (λ c h.
            let part : (c + 1) * g.chunk ≤ g.sector / g.chunk * g.chunk = mul-le-mul_right g.chunk (omega (arith, h)) in
            let cover = chunks_cover g ok in
            let from : (t.from_sector + 1) * g.sector ≤ data_end g t.from = mul-le-mul_right g.sector (let low = fits.from_data in omega (arith, low)) in
            (refl, omega (arith, part, cover, from), omega arith, omega (arith, part, cover), can_copy g t c ok fits.inside (omega (arith, h)))),
      )

      pub entry_is : entry_of g t ≡ Program Primary (entry_place g (entry_number g n k)) (one_unit g 1)
      entry_is = ap (λ (e : ℕ). Program Primary (entry_place g e) (one_unit g 1)) fits.entry

      pub number : entry_number g n k < 3 * g.max_sectors
      number = number_below g n k (omega (arith, at_most)) (place_below g n k t at)

      entry_in : InTrailer g Primary (Program Primary (entry_place g (entry_number g n k)) (one_unit g 1))
      entry_in = (
        refl,
        omega (arith, entry_inside g (entry_number g n k) ok number, data_before_trailer g Primary ok),
        entry_range g (entry_number g n k) 1 ok number,
      )

      pub target_end : (t.to_sector + 1) * g.sector ≤ data_end g t.to
      target_end = mul-le-mul_right g.sector (let low = fits.to_data in omega (arith, low))

      target_plain : (op : Op) → InTarget g t op → IsPlain g op
      target_plain (Erase o sector) is = (rw (is.0, is.1) fits.inside.to, tt)
      target_plain (Program o at bytes) is = absurd is
      target_plain (Copy from at to offset len) is = ((is.1, (rw is.0 (omega (arith, is.3, target_end)))), tt)

      steps_plain : AllByRecursion (IsPlain g) (steps g t)
      steps_plain =
          all_both (IsPlain g) (Erase t.to t.to_sector ∷ map (copy_of g t) (range_with_len 0 (g.sector / g.chunk))) (entry_of g t ∷ [])
          (all_weaker (InTarget g t) (IsPlain g) target_plain (Erase t.to t.to_sector ∷ map (copy_of g t) (range_with_len 0 (g.sector / g.chunk))) steps_in)
          (subst (IsPlain g) (sym entry_is) (primary_plain g (Program Primary (entry_place g (entry_number g n k)) (one_unit g 1)) entry_in), tt)

    transfers_plain : (m k : ℕ) → k + m ≡ 3 * n → AllByRecursion (IsPlain g) (flat_map (steps g) (drop k (transfers g n)))
    transfers_plain zero k whole = rw (drop_all k (transfers g n) (omega (arith, whole, length-transfers g n))) tt
    transfers_plain (suc m) k whole =
        let there = there_is g n k (omega (arith, whole)) in
        rw (drop_at_place (transfers g n) k there.0 there.1)
        (all_both (IsPlain g) (steps g there.0) (flat_map (steps g) (drop (k + 1) (transfers g n))) (steps_plain k there.0 there.1)
        (transfers_plain m (k + 1) (omega (arith, whole))))

    from_plain : (k : ℕ) (b : Bool) → AllByRecursion (IsPlain g) (from_transfer g n k b)
    from_plain k b = all_both (IsPlain g) (flat_map (steps g) (drop k (transfers g n))) (closing g b) left (all_weaker (InTrailer g Primary) (IsPlain g) (primary_plain g) (closing g b) (closing_in b))
      where
        left : AllByRecursion (IsPlain g) (flat_map (steps g) (drop k (transfers g n)))
        left = elim (cases_lt k (3 * n)) [
          | inl below ↦ transfers_plain (3 * n - k) k (omega (arith, below))
          | inr most ↦ rw (drop_all k (transfers g n) (omega (arith, most, length-transfers g n))) tt
        ]

    erases_plain : AllByRecursion (IsPlain g) (trailer_erases g Secondary)
    erases_plain = all_mapped (IsPlain g) (trailer_erase g Secondary) 0 (trailer_sectors g) (λ i h.
        let leaves = trailer_leaves_one g Secondary ok in (omega (arith, h, leaves), tt))

    pub resumed_plain : (k : ℕ) (erases b : Bool) → AllByRecursion (IsPlain g) (resumed_list g n k erases b)
    resumed_plain k false b = from_plain k b
    resumed_plain k true b = all_both (IsPlain g) (trailer_erases g Secondary) (from_transfer g n k b) erases_plain (from_plain k b)

    -- A swap from its start, that is no revert.
    pub swap_plain : (c : Grain) (kind : SwapType) (size : ℕ) → AllByRecursion (IsPlain g) (trailer_erases g Primary ++ (opening_writes c g kind size ++ resumed_list g n 0 true false))
    swap_plain c kind size =
        subst (AllByRecursion (IsPlain g)) (append_assoc (trailer_erases g Primary) (opening_writes c g kind size) (resumed_list g n 0 true false))
        (all_both (IsPlain g) (trailer_erases g Primary ++ opening_writes c g kind size) (resumed_list g n 0 true false)
        (all_weaker (InTrailer g Primary) (IsPlain g) (primary_plain g) (trailer_erases g Primary ++ opening_writes c g kind size) (opening_in c kind size))
        (resumed_plain 0 true false))

-- The same of the layout in the pieces that are written at once.
pub sound_pieces : (c : Grain) (g : Geometry) (op : Op) → IsSound (in_pieces c g) op → IsSound g op
sound_pieces grains.Call g op is = is
sound_pieces grains.Unit g (Erase Primary sector) is = is
sound_pieces grains.Unit g (Erase Secondary sector) is = is
sound_pieces grains.Unit g (Program Primary at bytes) is = is
sound_pieces grains.Unit g (Program Secondary at bytes) is = is
sound_pieces grains.Unit g (Copy Primary at Primary offset len) is = is
sound_pieces grains.Unit g (Copy Primary at Secondary offset len) is = is
sound_pieces grains.Unit g (Copy Secondary at Primary offset len) is = is
sound_pieces grains.Unit g (Copy Secondary at Secondary offset len) is = is

pub plain_pieces : (c : Grain) (g : Geometry) (ops : List Op) → AllByRecursion (IsPlain (in_pieces c g)) ops → AllByRecursion (IsPlain g) ops
plain_pieces c g ops all = all_weaker (IsPlain (in_pieces c g)) (IsPlain g) (λ op is. (sound_pieces c g op is.0, is.1)) ops all

pub target_pieces : (c : Grain) (g : Geometry) (t : Transfer) (ops : List Op) → AllByRecursion (InTarget (in_pieces c g) t) ops → AllByRecursion (InTarget g t) ops
target_pieces c g t ops all = all_weaker (InTarget (in_pieces c g) t) (InTarget g t) (by c) ops all
  where
    by : (c : Grain) (op : Op) → InTarget (in_pieces c g) t op → InTarget g t op
    by grains.Call op is = is
    by grains.Unit (Erase o sector) is = is
    by grains.Unit (Program o at bytes) is = is
    by grains.Unit (Copy Primary at to offset len) is =
        (is.0, is.1, is.2, is.3, can_of grains.Unit g (in_pieces grains.Unit g) (Some (Copy Primary at to offset len)) refl is.4)
    by grains.Unit (Copy Secondary at to offset len) is =
        (is.0, is.1, is.2, is.3, can_of grains.Unit g (in_pieces grains.Unit g) (Some (Copy Secondary at to offset len)) refl is.4)

pub transfers_pieces : (c : Grain) (g : Geometry) (n : ℕ) → transfers (in_pieces c g) n ≡ transfers g n
transfers_pieces grains.Call g n = refl
transfers_pieces grains.Unit g n = refl

pub entry_pieces : (c : Grain) (g : Geometry) (n k : ℕ)
    → Program Primary (entry_place (in_pieces c g) (entry_number (in_pieces c g) n k)) (one_unit (in_pieces c g) 1) ≡ Program Primary (entry_place g (entry_number g n k)) (one_unit g 1)
entry_pieces grains.Call g n k = refl
entry_pieces grains.Unit g n k = refl

pub closing_pieces : (c : Grain) (g : Geometry) (b : Bool) → closing (in_pieces c g) b ≡ closing g b
closing_pieces grains.Call g b = refl
closing_pieces grains.Unit g true = refl
closing_pieces grains.Unit g false = refl

pub opening_pieces : (c : Grain) (g : Geometry) (kind : SwapType) (size : ℕ) → opening_writes c (in_pieces c g) kind size ≡ opening_writes c g kind size
opening_pieces grains.Call g kind size = refl
opening_pieces grains.Unit g kind size = refl

pub preparation_pieces : (c : Grain) (g : Geometry) (size : ℕ) → preparation_writes c (in_pieces c g) size ≡ preparation_writes c g size
preparation_pieces grains.Call g size = refl
preparation_pieces grains.Unit g size = refl
