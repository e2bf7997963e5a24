-- The phases withstand the transfers and the end of a swap, torn anywhere.
use Rattle.std.proofs.{Common.{add-zero, ap, arith, inl, inr, subst, sym, ◌∙◌}, Math.Nat.{mul-le-mul_right}, lemmas.Bool.{cases_eq, cases_lt}}
use Rattle.std.proofs.lemmas.List.{drop_all, get_or-replicate, length-replicate}
use Rattle.std.specs.List.{range_with_len}
use Rattle.std.specs.Prelude.{Bool, List, Some, [], drop, false, flat_map, length, map, refl, replicate, slice_get, slice_index, suc, zero, ℕ, ◌*◌, ◌+◌, ◌-◌, ◌/◌, ◌<◌, ◌∷◌, ◌≡◌, ◌≢◌, ◌≤◌, ◌⊎◌}
use Rattle.mc_boot.proofs.{Courses.{can_chunk, drop_at_place}, Keeps.{place_beyond_data}, Meets.{same_bytes, same_content, which_slot}}
use Rattle.mc_boot.proofs.{Moving.{Copied, copies_keep, data_same, data_step, erase_step, unchanged}, Phases.{Ended, IsSwapOf, Swap, Under, opened, unasked}, SwapsKeep.{closes}}
use Rattle.mc_boot.proofs.{Tears.{Spares, Stands, Way, cutting, how, left_torn, not_cut, spared, stands_append, stands_more, torn_sized}, TornPhases.{Becomes, Running, Torn, ends, running_is, runs}}
use Rattle.mc_boot.proofs.TornSwaps.{BesideTarget, all_range, below_at, copy_keeps, erase_is, erase_keeps, program_is, program_keeps, rests_running}
use Rattle.mc_boot.proofs.Transfers.{Fits, entry_number, fits_at, number_below, number_up, other_number, place_below, there_is}
use Rattle.mc_boot.specs.{Plan.{closing, copy_done_write, copy_of, entry_of, from_transfer, steps, transfers}, Torn.{IsKept, IsTorn, Tearing}, declared.transfer.Transfer.{Transfer}}
use Rattle.mc_boot.specs.facts.Lengths.{length-transfers}
use Rattle.mc_flash.specs.{Flash.{Content, IsSized, byte, bytes_of, size_of}, Geometry.{Geometry, IsLayout}, declared.op.Op.{Op}, declared.op.Op.TheVariants.{Erase, Program}}
use Rattle.mc_flash.specs.{declared.op.Slot.{Slot}, declared.op.Slot.TheVariants.{Primary, Secondary}}
use Rattle.mc_flash.specs.facts.Changes.{Changed, changed_sized, copied, copy_is_program, length-copied, program_changes, sized_is}
use Rattle.mc_flash.specs.facts.Layouts.{chunks_cover, data_before_trailer, sector_inside, small_unit}
use Rattle.mc_trailer.specs.{Trailer.{entry_place, flag_of, one_unit, place, trailer_of}, declared.tables.Profile.{Profile}, declared.tables.SwapType.{SwapType}}
use Rattle.mc_trailer.specs.{facts.Fields.{blank_byte, fields_same}, facts.Places.{entries_apart, entry_ends, entry_inside, field_ends, one_unit_len}}
use Rattle.mc_trailer.specs.declared.places.Field.TheVariants as field
use Rattle.mc_trailer.specs.declared.trailer.Flag.TheVariants as flags

-- ---- one unit, of which only the first byte changes

-- the same but for one byte, and there
all_same : (u v : Content) (at : ℕ) → ((o : Slot) (i : ℕ) → (o ≡ Primary → i ≢ at) → byte u o i ≡ byte v o i) → byte u Primary at ≡ byte v Primary at → (o : Slot) (i : ℕ) → byte u o i ≡ byte v o i
all_same u v at beside here o i = grind (arith, which_slot, cases_eq)

module _ (g : Geometry) (u v : Content) (at : ℕ) (ok : IsLayout g) (blank : (i : ℕ) → i < g.unit → byte u Primary (at + i) ≡ 255) (ch : Changed u v Primary at (one_unit g 1)) where
  -- the whole operation changes no other byte
  pub unit_changes : (o : Slot) (i : ℕ) → (o ≡ Primary → i ≢ at) → byte v o i ≡ byte u o i
  unit_changes o i away = elim (which_slot o Primary) [
    | inr other ↦ ch.other o i other
    | inl same ↦ rw same (here i (away same))
  ]
    where
      len : length (one_unit g 1) ≡ g.unit
      len = one_unit_len g 1 ok

      rest_blank : (j : ℕ) → 0 < j → j < g.unit → slice_index (one_unit g 1) j ≡ 255
      rest_blank zero some short = absurd (omega (arith, some))
      rest_blank (suc j) some short = get_or-replicate (g.unit - 1) j 255 0 (omega (arith, short))

      here : (i : ℕ) → i ≢ at → byte v Primary i ≡ byte u Primary i
      here i differs = elim (cases_lt i at) [
        | inl low ↦ ch.before i low
        | inr from ↦ elim (cases_lt i (at + g.unit)) [
          | inr high ↦ ch.beyond i (omega (arith, high, len))
          | inl short ↦
              let some : 0 < i - at = omega (arith, from, differs) in
              ap (byte v Primary) (omega (arith, from)) ∙ ch.inside (i - at) (omega (arith, from, short, len)) ∙ rest_blank (i - at) some (omega (arith, from, short))
              ∙ sym (blank (i - at) (omega (arith, from, short))) ∙ ap (byte u Primary) (omega (arith, from))
        ]
      ]

module _ (g : Geometry) (u v : Content) (at : ℕ) (ok : IsLayout g) (sized : IsSized g u) (inside : at + g.unit ≤ size_of g Primary)
    (blank : (i : ℕ) → i < g.unit → byte u Primary (at + i) ≡ 255) (f : Tearing) (torn : IsTorn f g (Program Primary at (one_unit g 1)) u v) where
  ch : Changed u torn.whole Primary at (one_unit g 1)
  ch = program_is g u torn.whole Primary at (one_unit g 1) sized (omega (arith, inside, one_unit_len g 1 ok)) torn.makes

  whole_same : (o : Slot) (i : ℕ) → (o ≡ Primary → i ≢ at) → byte torn.whole o i ≡ byte u o i
  whole_same = unit_changes g u torn.whole at ok blank ch

  pub unit_same : (o : Slot) (i : ℕ) → (o ≡ Primary → i ≢ at) → byte v o i ≡ byte u o i
  unit_same o i away = torn.kept o i (program_keeps f g Primary at (one_unit g 1) u torn.whole o i (whole_same o i away))

  pub unit_sized : IsSized g v
  unit_sized = torn_sized f g (Program Primary at (one_unit g 1)) u v sized torn

  first_was : byte u Primary at ≡ 255
  first_was = ap (byte u Primary) (sym (add-zero at)) ∙ blank 0 (let unit = small_unit g ok in omega (arith, unit))

  -- where it reads as before, nothing changed
  pub unit_none : byte v Primary at ≡ 255 → (o : Slot) (i : ℕ) → byte v o i ≡ byte u o i
  unit_none is = all_same v u at unit_same (is ∙ sym first_was)

  -- where it reads as written, it was whole
  pub unit_whole : byte v Primary at ≢ 1
  unit_whole is = torn.unfinished (same_content torn.whole v (each Primary) (each Secondary))
    where
      written : byte torn.whole Primary at ≡ 1
      written = ap (byte torn.whole Primary) (sym (add-zero at)) ∙ ch.inside 0 (omega arith)

      each : (o : Slot) → bytes_of v o ≡ bytes_of torn.whole o
      each o = same_bytes torn.whole v o (torn.sizes o ∙ sym (ch.sizes o))
          (all_same v torn.whole at (λ o i away. unit_same o i away ∙ sym (whole_same o i away)) (is ∙ sym written) o)

-- ---- transfers

-- the erase and the copies of one spare all but its target
spares_target : (f : Tearing) (g : Geometry) (x : Transfer) (op : Op) (at : ℕ) (s t : Content) (new : List ℕ)
    → Changed s t x.to at new → x.to_sector * g.sector ≤ at → at + length new ≤ x.to_sector * g.sector + g.sector
    → IsSized g s → ((o : Slot) (i : ℕ) → BesideTarget g x s o i → byte t o i ≡ byte s o i → IsKept f g op s t o i)
    → IsSized g t × ((o : Slot) (i : ℕ) → BesideTarget g x s o i → (byte t o i ≡ byte s o i) × IsKept f g op s t o i)
spares_target f g x op at s t new ch from to sized kept = (
  changed_sized g s t x.to at new ch sized,
  λ o i out.
      let same : byte t o i ≡ byte s o i = unchanged s t x.to at new o i ch (λ same. elim (out same) [ inl low ↦ inl (omega (arith, low, from)) | inr high ↦ inr (omega (arith, high, to)) ]) in
      (same, kept o i out same),
)

module _ (way : Way) (b : Bool) (g : Geometry) (start : Content) (size n : ℕ) (w : Swap g start size n) (k : ℕ) (x : Transfer) (at : slice_get (transfers g n) k ≡ Some x) where
  fits : Fits g n k x
  fits = fits_at g n k x w.ok w.at_most at

  below : k < 3 * n
  below = place_below g n k x at

  number : entry_number g n k < 3 * g.max_sectors
  number = let at_most = w.at_most in number_below g n k (omega (arith, at_most)) below

  spares_first : Spares (how way) g (BesideTarget g x) (Erase x.to x.to_sector)
  spares_first s t sized is =
      let ch = erase_is g s t x.to x.to_sector sized (sector_inside g x.to x.to_sector fits.inside.to) is in
      spares_target (how way) g x (Erase x.to x.to_sector) (x.to_sector * g.sector) s t (replicate g.sector 255) ch (omega arith) (omega (arith, length-replicate {A = ℕ} g.sector 255)) sized
      (λ o i out same. erase_keeps (how way) g x.to x.to_sector s t o i same (inr out))

  spares_copy : (c : ℕ) → c < g.sector / g.chunk → Spares (how way) g (BesideTarget g x) (copy_of g x c)
  spares_copy c short s t sized is =
      let from_range = can_chunk g x.from x.from_sector c w.ok fits.inside.from short in
      let to_range = can_chunk g x.to x.to_sector c w.ok fits.inside.to short in
      let len = length-copied s x.from (x.from_sector * g.sector + c * g.chunk) g.chunk (omega (arith, from_range.inside, sized_is g s x.from sized)) in
      let part : (c + 1) * g.chunk ≤ g.sector / g.chunk * g.chunk = mul-le-mul_right g.chunk (omega (arith, short)) in
      let ch = program_is g s t x.to (x.to_sector * g.sector + c * g.chunk) (copied s x.from (x.from_sector * g.sector + c * g.chunk) g.chunk) sized (omega (arith, to_range.inside, len))
      (sym (copy_is_program g s x.from x.to (x.from_sector * g.sector + c * g.chunk) (x.to_sector * g.sector + c * g.chunk) g.chunk) ∙ is) in
      spares_target (how way) g x (copy_of g x c) (x.to_sector * g.sector + c * g.chunk) s t (copied s x.from (x.from_sector * g.sector + c * g.chunk) g.chunk) ch (omega arith)
      (omega (arith, len, part, chunks_cover g w.ok)) sized
      (λ o i out same. copy_keeps (how way) g x.from (x.from_sector * g.sector + c * g.chunk) x.to (x.to_sector * g.sector + c * g.chunk) g.chunk s t o i same)

  -- up to the entry
  copying_stands : (kind : SwapType) (s : Content) → Running g start size n b kind k s
      → Stands way g (Running g start size n b kind k) (Erase x.to x.to_sector ∷ map (copy_of g x) (range_with_len 0 (g.sector / g.chunk))) s
      (λ u. Running g start size n b kind k u × Copied g s u x (g.sector / g.chunk))
  copying_stands kind s is =
      let begin = erase_step g s x w.ok fits.inside is.under.data_.sized in
      stands_more way g _ (Running g start size n b kind k) _ (λ u. Running g start size n b kind k u × Copied g s u x (g.sector / g.chunk))
      (Erase x.to x.to_sector ∷ map (copy_of g x) (range_with_len 0 (g.sector / g.chunk))) s (λ t a. a.0) (λ t a. a)
      (spared way g (BesideTarget g x) (Running g start size n b kind k) (λ t. Unit {0}) (λ u. Copied g s u x (g.sector / g.chunk))
      (Erase x.to x.to_sector ∷ map (copy_of g x) (range_with_len 0 (g.sector / g.chunk))) s (rests_running g start size n w b kind k x (omega (arith, below)) at)
      (λ t a. a.under.data_.sized)
      (spares_first, all_range (Spares (how way) g (BesideTarget g x)) (copy_of g x) 0 (g.sector / g.chunk) (λ c h. spares_copy c (omega (arith, h))))
      (tt, (begin.0, begin.1, copies_keep g (λ t. Unit {0}) s begin.0 x w.ok fits.inside (λ u c so. tt) begin.2)) is)

  -- the entry
  module _ (kind : SwapType) (s u : Content) (is : Running g start size n b kind k s) (at_u : Running g start size n b kind k u) (so : Copied g s u x (g.sector / g.chunk)) where
    half : Under g start size n kind k u
    half = at_u.under

    ends_at : entry_place g (entry_number g n k) + g.unit + 48 ≤ size_of g Primary
    ends_at = entry_ends g (entry_number g n k) w.ok number

    free_entry : (i : ℕ) → i < g.unit → byte u Primary (entry_place g (entry_number g n k) + i) ≡ 255
    free_entry i h = let at_most = w.at_most in half.entries.free (entry_number g n k) i number (λ some. number_up g n (k - 1) k (omega (arith, at_most)) (omega (arith, some))) h

    inside : entry_place g (entry_number g n k) + (48 + 3 * g.max_sectors * g.unit) ≡ size_of g Primary + entry_number g n k * g.unit
    inside = entry_inside g (entry_number g n k) w.ok number

    module _ (v : Content) (sized : IsSized g v) (same : (o : Slot) (i : ℕ) → (o ≡ Primary → i ≢ entry_place g (entry_number g n k)) → byte v o i ≡ byte u o i)
        (written : byte v Primary (entry_place g (entry_number g n k)) ≢ 255) where
      entry_made : Under g start size n kind (k + 1) v
      entry_made = record {
        primary = fields_same g u v Primary (opened g kind size) w.ok (λ i h. same Primary i (λ _ e. omega (arith, h, e, ends_at))) half.primary;
        entries = record {
          last = λ some.
              let E : ℕ → Type 0 = λ j. byte v Primary (entry_place g (entry_number g n j)) ≢ 255 in
              let now_ : k ≡ k + 1 - 1 = omega arith in
              subst E now_ written;
          free = λ e i high above h.
              let over : entry_number g n k < e = (let D : ℕ → Type 0 = λ j. entry_number g n j < e in let now_ : k + 1 - 1 ≡ k = omega arith in subst D now_ (above (omega arith))) in
              let at_most = w.at_most in
              same Primary (entry_place g e + i) (λ _ there. omega (arith, there, entries_apart g (entry_number g n k) e w.ok over high, small_unit g w.ok))
              ∙ half.entries.free e i high (λ some. omega (arith, over, number_up g n (k - 1) k (omega (arith, at_most)) (omega (arith, some)))) h;
        };
        secondary = fields_same g u v Secondary unasked w.ok (λ i h. same Secondary i (λ e. absurd cc)) half.secondary;
        data_ = data_same g n start (k + 1) u v sized
            (λ o i low. same o i (λ there e. let here = below_at g Primary o i low there in omega (arith, here, e, inside, data_before_trailer g Primary w.ok)))
            (data_step g n start k s u x w.ok w.at_most at is.under.data_ so);
      }

    torn_entry : (v : Content) → IsTorn (how way) g (Program Primary (entry_place g (entry_number g n k)) (one_unit g 1)) u v
        → Running g start size n b kind k v ⊎ Running g start size n b kind (k + 1) v
    torn_entry v torn =
        let fits_in : entry_place g (entry_number g n k) + g.unit ≤ size_of g Primary = omega (arith, ends_at) in
        let same = unit_same g u v (entry_place g (entry_number g n k)) w.ok half.data_.sized fits_in free_entry (how way) torn in
        let sized = unit_sized g u v (entry_place g (entry_number g n k)) w.ok half.data_.sized fits_in free_entry (how way) torn in
        elim (cases_eq (byte v Primary (entry_place g (entry_number g n k))) 255) [
          | inl none ↦ inl (rests_running g start size n w b kind k x (omega (arith, below)) at u v at_u sized
              (λ o i _. unit_none g u v (entry_place g (entry_number g n k)) w.ok half.data_.sized fits_in free_entry (how way) torn none o i))
          | inr some ↦ inr (record { under = entry_made v sized same some; image_ok = λ zero_ _. absurd (omega (arith, zero_)) })
        ]

    -- the whole of it
    module _ (R : Content → Type 0) (p : Profile) (e : Bool) (later : Becomes way b e) (of : IsSwapOf e kind) where
      entry_stands : Stands way g (Torn way R p g start size n b) (entry_of g x ∷ []) u (Running g start size n b kind (k + 1))
      entry_stands = rw fits.entry go
        where
          P : Content → Type 0
          P = Torn way R p g start size n b

          now_ : (v : Content) → Running g start size n b kind k v ⊎ Running g start size n b kind (k + 1) v → P v
          now_ v (inl a) = running_is way R p g start size n b e kind k v w.ok later of (omega (arith, below)) a
          now_ v (inr a) = running_is way R p g start size n b e kind (k + 1) v w.ok later of (omega (arith, below)) a

          go : Stands way g P (Program Primary (entry_place g (entry_number g n k)) (one_unit g 1) ∷ []) u (Running g start size n b kind (k + 1))
          go =
              let len : length (one_unit g 1) ≡ g.unit = one_unit_len g 1 w.ok in
              let does = program_changes g u Primary (entry_place g (entry_number g n k)) (one_unit g 1) (omega (arith, len, ends_at, sized_is g u Primary half.data_.sized))
              (λ i h. free_entry i (omega (arith, h, len))) in (
                (now_ u (inl at_u), λ v left. now_ v (torn_entry v (left_torn way g (Program Primary (entry_place g (entry_number g n k)) (one_unit g 1)) u v left))),
                (
                  does.0,
                  does.1,
                  record {
                    under = entry_made does.0 (changed_sized g u does.0 Primary _ _ does.2 half.data_.sized)
                        (λ o i away. unit_changes g u does.0 (entry_place g (entry_number g n k)) w.ok free_entry does.2 o i away)
                        (λ blank. let one = does.2.inside 0 (omega arith) in omega (arith, blank, one, ap (byte does.0 Primary) (add-zero (entry_place g (entry_number g n k)))));
                    image_ok = λ zero_ _. absurd (omega (arith, zero_));
                  },
                ),
              )

module _ (way : Way) (g : Geometry) (start : Content) (size n : ℕ) (w : Swap g start size n) (R : Content → Type 0) (p : Profile)
    (b e : Bool) (kind : SwapType) (later : Becomes way b e) (of : IsSwapOf e kind) where
  abbrev P : Content → Type 0
  P = Torn way R p g start size n b

  one_stands : (k : ℕ) (s : Content) (x : Transfer) → slice_get (transfers g n) k ≡ Some x → Running g start size n b kind k s → Stands way g P (steps g x) s (Running g start size n b kind (k + 1))
  one_stands k s x at is =
      stands_append way g P (λ u. Running g start size n b kind k u × Copied g s u x (g.sector / g.chunk)) (Running g start size n b kind (k + 1))
      (Erase x.to x.to_sector ∷ map (copy_of g x) (range_with_len 0 (g.sector / g.chunk))) (entry_of g x ∷ []) s
      (stands_more way g (Running g start size n b kind k) P (λ u. Running g start size n b kind k u × Copied g s u x (g.sector / g.chunk))
      (λ u. Running g start size n b kind k u × Copied g s u x (g.sector / g.chunk))
      (Erase x.to x.to_sector ∷ map (copy_of g x) (range_with_len 0 (g.sector / g.chunk))) s
      (λ t a. let below = place_below g n k x at in running_is way R p g start size n b e kind k t w.ok later of (omega (arith, below)) a) (λ t a. a)
      (copying_stands way b g start size n w k x at kind s is))
      (λ u so. entry_stands way b g start size n w k x at kind s u is so.0 so.1 R p e later of)

  pub transfers_stand : (m k : ℕ) (s : Content) → k + m ≡ 3 * n → Running g start size n b kind k s
      → Stands way g P (flat_map (steps g) (drop k (transfers g n))) s (Running g start size n b kind (3 * n))
  transfers_stand zero k s whole is =
      let last : 3 * n ≡ k = omega (arith, whole) in
      rw (drop_all k (transfers g n) (omega (arith, whole, length-transfers g n)), last) is
  transfers_stand (suc m) k s whole is =
      let there = there_is g n k (omega (arith, whole)) in
      rw (drop_at_place (transfers g n) k there.0 there.1)
      (stands_append way g P (Running g start size n b kind (k + 1)) (Running g start size n b kind (3 * n)) (steps g there.0) (flat_map (steps g) (drop (k + 1) (transfers g n))) s
      (one_stands k s there.0 there.1 is)
      (λ v so. transfers_stand m (k + 1) v (omega (arith, whole)) so))

  some_left : 0 < 3 * n
  some_left = let some = w.some in omega (arith, some)

  -- copy-done
  module _ (s : Content) (is : Under g start size n kind (3 * n) s) where
    free_flag : (i : ℕ) → i < g.unit → byte s Primary (place g Primary field.CopyDone + i) ≡ 255
    free_flag i h = let unit = small_unit g w.ok in blank_byte g s Primary field.CopyDone i (is.primary field.CopyDone) (omega (arith, h, unit))

    fits_flag : place g Primary field.CopyDone + g.unit ≤ size_of g Primary
    fits_flag = let unit = small_unit g w.ok in omega (arith, unit, field_ends g Primary field.CopyDone w.ok)

    bad_flag : (v : Content) → byte v Primary (place g Primary field.CopyDone) ≢ 255 → byte v Primary (place g Primary field.CopyDone) ≢ 1 → (trailer_of g v Primary).copy_done ≡ flags.Bad
    unfolding trailer_of
    bad_flag v blank one = flag_bad (byte v Primary (place g Primary field.CopyDone)) blank one
      where
        flag_bad : (m : ℕ) → m ≢ 255 → m ≢ 1 → flag_of m ≡ flags.Bad
        flag_bad m blank one = rw (other_number m 1 one) (rw (other_number m 255 blank) refl)

    torn_flag : (v : Content) → way ≢ cutting → IsTorn (how way) g (Program Primary (place g Primary field.CopyDone) (one_unit g 1)) s v → P v
    torn_flag v torn_here torn = elim (cases_eq (byte v Primary (place g Primary field.CopyDone)) 255) [
      | inl none ↦
          let all = unit_none g s v (place g Primary field.CopyDone) w.ok is.data_.sized fits_flag free_flag (how way) torn none in
          runs e kind (3 * n) later of some_left (omega arith) (same_under all)
      | inr some ↦
          let not_one = unit_whole g s v (place g Primary field.CopyDone) w.ok is.data_.sized fits_flag free_flag (how way) torn in
          let same = unit_same g s v (place g Primary field.CopyDone) w.ok is.data_.sized fits_flag free_flag (how way) torn in
          ends torn_here (record {
            copy_done = bad_flag v some not_one;
            secondary = fields_same g s v Secondary unasked w.ok (λ i h. same Secondary i (λ e. absurd cc)) is.secondary;
            data_ = data_same g n start (3 * n) s v sized
                (λ o i low. same o i (λ there e. let here = below_at g Primary o i low there in omega (arith, here, e, place_beyond_data g Primary field.CopyDone w.ok))) is.data_;
          })
    ]
      where
        sized : IsSized g v
        sized = unit_sized g s v (place g Primary field.CopyDone) w.ok is.data_.sized fits_flag free_flag (how way) torn

        same_under : ((o : Slot) (i : ℕ) → byte v o i ≡ byte s o i) → Under g start size n kind (3 * n) v
        same_under all = rw (same_content s v (each Primary) (each Secondary)) is
          where
            each : (o : Slot) → bytes_of v o ≡ bytes_of s o
            each o = same_bytes s v o (torn.sizes o) (all o)

  pub closing_stands : (s : Content) → Under g start size n kind (3 * n) s → Stands way g P (closing g false) s (Ended g start size n e)
  closing_stands s is = (
    (runs e kind (3 * n) later of some_left (omega arith) is, λ v left. torn_flag s is v (not_cut way g (copy_done_write g) s v left) (left_torn way g (copy_done_write g) s v left)),
    closes g start size n w e kind of s is,
  )

  pub rest_stands : (k : ℕ) (s : Content) → k ≤ 3 * n → Running g start size n b kind k s → Stands way g P (from_transfer g n k false) s (Ended g start size n e)
  rest_stands k s most is =
      stands_append way g P (Running g start size n b kind (3 * n)) (Ended g start size n e) (flat_map (steps g) (drop k (transfers g n))) (closing g false) s
      (transfers_stand (3 * n - k) k s (omega (arith, most)) is)
      (λ v end. closing_stands v end.under)
