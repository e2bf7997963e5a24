-- Each flash that a torn operation of a boot may leave ends as one of those that stand for all.
use Rattle.std.proofs.{Common.{append_assoc, ap, arith, inl, inr, subst, sym, ◌∙◌}, lemmas.Grind.{div_ceil_times}}
use Rattle.std.proofs.{lemmas.List.{drop_all}, lemmas.List.Quantifiers.{position-Some}, lemmas.Option.{get_or_from_slice_get}, Math.Nat.{mul-le-mul_right}}
use Rattle.std.specs.{Int.{div_ceil}, List.{range_with_len}}
use Rattle.std.specs.Prelude.{Bool, List, None, Option, Some, [], drop, false, flat_map, get_or, is_none, map, not, option_map, position, refl, replicate, slice_get, suc, true, zero, ℕ, ⊤, ◌&&◌, ◌*◌, ◌++◌, ◌+◌, ◌-◌, ◌/◌, ◌<◌, ◌==◌, ◌∷◌, ◌≡◌, ◌≤◌, ◌^◌}
use Rattle.mc_boot.proofs.{Courses.{drop_at_place, greatest_pieces, slot_small}, Images.{some_size}, Joins.{are_equal}, Keeps.{place_beyond_data}, Meets.{all_weaker, same_bytes}}
use Rattle.mc_boot.proofs.{Phases.{asked, flag_is, opened}, SwapsKeep.{Made, erasing_keeps, opening_keeps, preparation_keeps}}
use Rattle.mc_boot.proofs.Transfers.{entries_none, entries_not, entry_number, fits_at, number_up, there_is}
use Rattle.mc_boot.specs.{Life.{is_swap}, Outcome.{at, ops_of}, declared.transfer.Transfer.{Transfer}, facts.Lengths.{length-transfers}}
use Rattle.mc_boot.specs.Plan.{closing, copy_of, entry_of, first_left, from_transfer, images_of, moved_up, number_of, opening_writes, plan, power_on, preparation_writes, resumed_list, steps, swap_list, trailer_erases, transfers}
use Rattle.mc_flash.specs.{Flash.{Content, IsSized, apply, byte}, Geometry.{Geometry, IsLayout, greatest_sectors, in_pieces}, declared.op.Op.{Op}}
use Rattle.mc_flash.specs.{declared.op.Op.TheVariants.{Erase, Program}, declared.op.Slot.TheVariants.{Primary, Secondary}}
use Rattle.mc_flash.specs.facts.{Layouts.{data_before_trailer, data_end, data_sectors, image_is_data}, Pieces.{pieces_layout}}
use Rattle.mc_image.specs.Valid.{is_valid}
use Rattle.mc_tear.proofs.{Along.{Along, along_append, along_at, along_keeps, along_kept, along_more}, Boots.{erases_pieces}}
use Rattle.mc_tear.proofs.Lists.{InTarget, InTrailer, closing_pieces, entry_is, entry_pieces, erases_in, number, opening_in, opening_pieces, preparation_in, preparation_pieces, steps_in, target_pieces, transfers_pieces, writes_flag}
use Rattle.mc_tear.proofs.{Midway.{IsUnderWay, Midway, data_op, data_still, entry_made}, OneOp.{Ends, entry_op, flag_op, second_op}}
use Rattle.mc_tear.proofs.Opening.{Asks, CanBegin, IsClear, asks_still, data_kept, opening_op, same_both, trailer_keeps}
use Rattle.mc_tear.proofs.{PlanCases.{plan_case}, Same.{SameAt}}
use Rattle.mc_tear.specs.{Laws.{EachEnds}, declared.torn.Erasing.{Erasing}}
use Rattle.mc_trailer.specs.{Tables.{asks_another, is_good, is_resumed, is_unset}, Trailer.{entry_place, highest_entry, is_written, one_unit, place, trailer_of}}
use Rattle.mc_trailer.specs.{declared.places.Field.{Field}, declared.tables.Rules.{Rules}, declared.tables.SwapType.{SwapType}, declared.trailer.Flag.{Flag}, declared.trailer.Trailer.{Trailer}}
use Rattle.mc_trailer.specs.facts.{Entries.{blank_entry, greatest_none, greatest_some, same_entry}, Fields.{FieldsAre, blank_fields, reads_absent, reads_copy_done, reads_good, reads_info, reads_size, same_trailer}}
use Rattle.mc_trailer.specs.facts.{Places.{entry_ends, entry_inside, flag_range}, Tables.{asks_none}}
use Rattle.mc_trailer.specs.declared.places.Field.TheVariants as field
use Rattle.mc_trailer.specs.declared.tables.SwapType.TheVariants as kinds
use Rattle.mc_trailer.specs.declared.trailer.Flag.TheVariants as flags

module _ (e : Erasing) (r : Rules) (g : Geometry) (ok : IsLayout g) where
  abbrev l : Geometry
  l = in_pieces r.grain g

  ok_l : IsLayout l
  ok_l = pieces_layout r.grain g ok

  abbrev E : Content → Op → Type 0
  E = Ends e r g

  abbrev Any : Content → Type 0
  Any s = ⊤

  -- ---- the finish

  flag_keeps : (f : Field) (s t : Content) → IsSized g s → apply g (writes_flag g f) s ≡ Some t → IsSized g t
  flag_keeps f s t sized made = (trailer_keeps g Primary (writes_flag g f) s t ok sized (refl, place_beyond_data g Primary f ok, flag_range g Primary f 1 ok) made).sized_v

  closing_along : (b : Bool) (s : Content) → IsSized g s → Along g E Any (closing l b) s
  closing_along b s sized = rw (closing_pieces r.grain g b) (by b)
    where
      by : (b : Bool) → Along g E Any (closing g b) s
      by true = (
        flag_op e r g ok s sized field.ImageOk (inl refl),
        λ t made. (flag_op e r g ok t (flag_keeps field.ImageOk s t sized made) field.CopyDone (inr refl), λ u done. tt),
      )
      by false = (flag_op e r g ok s sized field.CopyDone (inr refl), λ t made. tt)

  -- ---- the transfers

  module _ (n : ℕ) (at_most : n ≤ greatest_sectors g) where
    most_l : n ≤ greatest_sectors l
    most_l = let same = greatest_pieces r.grain g in omega (arith, at_most, same)

    module _ (p : Trailer) (way : IsUnderWay g n p) where
      one_along : (k : ℕ) (s : Content) (t : Transfer) → slice_get (transfers g n) k ≡ Some t → k < 3 * n → Midway r g n p k s → Along g E (Midway r g n p (k + 1)) (steps l t) s
      one_along k s t there below is =
          along_append g E (Midway r g n p k) (Midway r g n p (k + 1)) (Erase t.to t.to_sector ∷ map (copy_of l t) (range_with_len 0 (l.sector / l.chunk))) (entry_of l t ∷ []) s
          (along_kept g E (Midway r g n p k) (Erase t.to t.to_sector ∷ map (copy_of l t) (range_with_len 0 (l.sector / l.chunk)))
          (all_weaker (InTarget g t) (λ op. (u : Content) → Midway r g n p k u → E u op × ((w : Content) → apply g op u ≡ Some w → Midway r g n p k w))
          (λ op inside u so. (data_op r g ok n at_most p way k u so t there e op inside, λ w made. data_still r g ok n at_most p way k u so t there op inside w made))
          (Erase t.to t.to_sector ∷ map (copy_of l t) (range_with_len 0 (l.sector / l.chunk)))
          (target_pieces r.grain g t (Erase t.to t.to_sector ∷ map (copy_of l t) (range_with_len 0 (l.sector / l.chunk))) (steps_in l ok_l n most_l k t there_l)))
          s is)
          (λ u so. subst (λ op. E u op × ((w : Content) → apply g op u ≡ Some w → Midway r g n p (k + 1) w)) (sym entry_so) (
            entry_op e r g ok u so.sized (entry_number g n k) (number g ok n at_most k t there),
            λ w made. entry_made r g ok n at_most p way k u so t there below w made,
          ))
        where
          there_l : slice_get (transfers l n) k ≡ Some t
          there_l = ap (λ (ts : List Transfer). slice_get ts k) (transfers_pieces r.grain g n) ∙ there

          entry_so : entry_of l t ≡ Program Primary (entry_place g (entry_number g n k)) (one_unit g 1)
          entry_so = entry_is l ok_l n most_l k t there_l ∙ entry_pieces r.grain g n k

      transfers_along : (m k : ℕ) (s : Content) → k + m ≡ 3 * n → Midway r g n p k s → Along g E (IsSized g) (flat_map (steps l) (drop k (transfers l n))) s
      transfers_along zero k s whole is = rw (drop_all k (transfers l n) (omega (arith, whole, length-transfers l n))) is.sized
      transfers_along (suc m) k s whole is =
          let there = there_is g n k (omega (arith, whole)) in
          rw (drop_at_place (transfers l n) k there.0 (ap (λ (ts : List Transfer). slice_get ts k) (transfers_pieces r.grain g n) ∙ there.1))
          (along_append g E (Midway r g n p (k + 1)) (IsSized g) (steps l there.0) (flat_map (steps l) (drop (k + 1) (transfers l n))) s
          (one_along k s there.0 there.1 (omega (arith, whole)) is)
          (λ u so. transfers_along m (k + 1) u (omega (arith, whole)) so))

      from_along : (k : ℕ) (b : Bool) (s : Content) → k ≤ 3 * n → Midway r g n p k s → Along g E Any (from_transfer l n k b) s
      from_along k b s most is =
          along_append g E (IsSized g) Any (flat_map (steps l) (drop k (transfers l n))) (closing l b) s
          (transfers_along (3 * n - k) k s (omega (arith, most)) is) (λ u sized. closing_along b u sized)

      -- ---- the secondary's trailer is erased before them

      -- All of it but that no other swap is asked for.
      pub record Halfway (k : ℕ) (s : Content) : Type 0 where
        pub sized : IsSized g s
        pub primary : trailer_of g s Primary ≡ p
        pub left : first_left g n (highest_entry g s) ≡ Some k
        pub free : (d : ℕ) → entry_number g n k ≤ d → d < 3 * g.max_sectors → is_written g s d ≡ false

      abbrev Kept : Content → Content → Type 0
      Kept s t = SameAt g (λ o i. o ≡ Secondary → i < data_end g Secondary) s t

      clear : (k : ℕ) (s t : Content) → Halfway k s → Kept s t → Made g Secondary blank_fields t → Midway r g n p k t
      clear k s t half kept made = record {
        sized = kept.sized_v;
        primary = same_trailer g s t Primary ok kept.sized_u kept.sized_v (λ f i within. first (place g Primary f + i)) ∙ half.primary;
        other = asks_none r.profile p (trailer_of g t Secondary) (ap is_good (reads_absent g t Secondary ok kept.sized_v (made.fields field.Magic)));
        left = ap (first_left g n) highest ∙ half.left;
        free = λ d from under. same_entry g s t d ok kept.sized_u kept.sized_v under (λ i short. first (entry_place g d + i)) ∙ half.free d from under;
      }
        where
          first : (i : ℕ) → byte t Primary i ≡ byte s Primary i
          first i = kept.same Primary i (λ is. absurd cc)

          bytes : t.primary ≡ s.primary
          bytes = same_bytes s t Primary (kept.sized_v.primary ∙ sym kept.sized_u.primary) first

          highest : highest_entry g t ≡ highest_entry g s
          highest = ap (λ (xs : List ℕ). highest_entry g (record { primary = xs; secondary = [] })) bytes

      self : (s : Content) → IsSized g s → Kept s s
      self s sized = record { sized_u = sized; sized_v = sized; same = λ o i low. refl }

      cleared_along : (k : ℕ) (s : Content) → Halfway k s → Along g E (Midway r g n p k) (trailer_erases g Secondary) s
      cleared_along k s half =
          along_more g E (λ t. Kept s t × Made g Secondary blank_fields t) (Midway r g n p k) (trailer_erases g Secondary) s
          (along_keeps g E _ (Kept s) (Made g Secondary blank_fields) (trailer_erases g Secondary) s
          (along_kept g E (Kept s) (trailer_erases g Secondary)
          (all_weaker (InTrailer g Secondary) (λ op. (u : Content) → Kept s u → E u op × ((w : Content) → apply g op u ≡ Some w → Kept s w))
          (λ op inside u kept. (
            second_op e r g ok u kept.sized_v op inside,
            λ w made. same_both g _ s u w kept (trailer_keeps g Secondary op u w ok kept.sized_v inside made),
          ))
          (trailer_erases g Secondary) (erases_in g ok Secondary))
          s (self s half.sized))
          (erasing_keeps g Secondary s ok half.sized))
          (λ t both. clear k s t half both.0 both.1)

      pub erased_along : (k : ℕ) (b : Bool) (s : Content) → k ≤ 3 * n → Halfway k s → Along g E Any (trailer_erases l Secondary ++ from_transfer l n k b) s
      erased_along k b s most half =
          rw (erases_pieces r.grain g Secondary)
          (along_append g E (Midway r g n p k) Any (trailer_erases g Secondary) (from_transfer l n k b) s (cleared_along k s half) (λ t is. from_along k b t most is))

  -- ---- a swap that goes on

  pub three_parts : (a b c : Bool) → (a && b && not c) ≡ true → (a ≡ true) × (b ≡ true) × (c ≡ false)
  three_parts true true false is = (refl, refl, refl)
  three_parts true true true is = absurd cc
  three_parts true false c is = absurd cc
  three_parts false b c is = absurd cc

  module _ (s : Content) (sized : IsSized g s) where
    abbrev p : Trailer
    p = trailer_of g s Primary

    -- The entry of the transfer before the first that is left.
    module _ (n : ℕ) (at_most : n ≤ greatest_sectors g) (first : ℕ) (left : first_left g n (highest_entry g s) ≡ Some first) where
      few : n ≤ g.max_sectors
      few = omega (arith, at_most)

      abbrev pub Free : Type 0
      Free = (first ≤ 3 * n) × ((d : ℕ) → entry_number g n first ≤ d → d < 3 * g.max_sectors → is_written g s d ≡ false)

      not_written : (d : ℕ) → (is_written g s d ≡ true → ⊥) → is_written g s d ≡ false
      not_written d fails = by (is_written g s d) refl
        where
          by : (b : Bool) → is_written g s d ≡ b → is_written g s d ≡ false
          by true is = absurd (fails is)
          by false is = is

      after : (x : ℕ) → highest_entry g s ≡ Some x → (o : Option ℕ) → position (λ t. t.entry == x) (transfers g n) ≡ o → option_map (λ i. i + 1) o ≡ Some first → Free
      after x highest None found is = absurd cc
      after x highest (Some i) found is =
          let last : i + 1 ≡ first = cc in
          let there = position-Some (λ t. t.entry == x) (transfers g n) i (moved_up n 0) found in
          let below : i < 3 * n = omega (arith, there.0, length-transfers g n) in
          let t = there_is g n i below in
          let entry_i : entry_number g n i ≡ x = sym (fits_at g n i t.0 ok at_most t.1).entry ∙ are_equal t.0.entry x (entry_test t.0 t.1 there.1) in
          let found_at = greatest_some (is_written g s) (3 * g.max_sectors) x highest in
          let up : entry_number g n i < entry_number g n first = (let N : ℕ → Type 0 = λ j. entry_number g n i < entry_number g n j in subst N last (number_up g n i (i + 1) few (omega arith))) in
          (omega (arith, below, last), λ d from under. not_written d (λ is_written_d. omega (arith, found_at.2 d under is_written_d, from, entry_i, up)))
        where
          entry_test : (t : Transfer) → slice_get (transfers g n) i ≡ Some t → (get_or (transfers g n) i (moved_up n 0)).entry == x ≡ true → (t.entry == x) ≡ true
          entry_test t at is = ap (λ (u : Transfer). u.entry == x) (sym (get_or_from_slice_get (transfers g n) i t (moved_up n 0) at)) ∙ is

      pub free_above : Free
      free_above = by (highest_entry g s) refl left
        where
          by : (o : Option ℕ) → highest_entry g s ≡ o → first_left g n o ≡ Some first → Free
          by None none is = (omega (arith, (let e : 0 ≡ first = cc in e)), λ d from under. greatest_none (is_written g s) (3 * g.max_sectors) none d under)
          by (Some x) some is = after x some (position (λ t. t.entry == x) (transfers g n)) refl is

    -- ---- a swap that goes on

    module _ (resumed : is_resumed r.profile g s ≡ true) where
      pub parts : (is_good p.magic ≡ true) × (is_unset p.copy_done ≡ true) × (asks_another r.profile p (trailer_of g s Secondary) ≡ false)
      parts = three_parts (is_good p.magic) (is_unset p.copy_done) (asks_another r.profile p (trailer_of g s Secondary)) resumed

      module _ (n : ℕ) (count : div_ceil p.swap_size g.sector ≡ n) (info : is_swap p.swap_info ≡ true) where
        goes_on : (first : ℕ) (erases b : Bool) → 0 < n → n ≤ greatest_sectors g → first_left g n (highest_entry g s) ≡ Some first → Along g E Any (resumed_list l n first erases b) s
        goes_on first erases b some most left = by erases
          where
            way : IsUnderWay g n p
            way = record { magic = parts.0; copy_done = parts.1; info = info; count = count; some = some }

            free : Free n most first left
            free = free_above n most first left

            by : (erases : Bool) → Along g E Any (resumed_list l n first erases b) s
            by false = from_along n most p way first b s free.0 (record { sized = sized; primary = refl; other = parts.2; left = left; free = free.1 })
            by true = erased_along n most p way first b s free.0 (record { sized = sized; primary = refl; left = left; free = free.1 })

  -- ---- the lists, in sections

  pub swap_whole : (kind : SwapType) (size n : ℕ)
      → (trailer_erases g Primary ++ opening_writes r.grain g kind size) ++ (trailer_erases l Secondary ++ from_transfer l n 0 false) ≡ swap_list r.grain l kind size n
  swap_whole kind size n =
      append_assoc (trailer_erases g Primary) (opening_writes r.grain g kind size) (trailer_erases l Secondary ++ from_transfer l n 0 false)
      ∙ ap (λ (ops : List Op). ops ++ (opening_writes r.grain g kind size ++ (trailer_erases l Secondary ++ from_transfer l n 0 false))) (sym (erases_pieces r.grain g Primary))
      ∙ ap (λ (ops : List Op). trailer_erases l Primary ++ (ops ++ (trailer_erases l Secondary ++ from_transfer l n 0 false))) (sym (opening_pieces r.grain g kind size))

  pub revert_whole : (size n : ℕ) → (trailer_erases g Secondary ++ preparation_writes r.grain g size) ++ swap_list r.grain l kinds.Revert size n
      ≡ trailer_erases l Secondary ++ (preparation_writes r.grain l size ++ swap_list r.grain l kinds.Revert size n)
  revert_whole size n =
      append_assoc (trailer_erases g Secondary) (preparation_writes r.grain g size) (swap_list r.grain l kinds.Revert size n)
      ∙ ap (λ (ops : List Op). ops ++ (preparation_writes r.grain g size ++ swap_list r.grain l kinds.Revert size n)) (sym (erases_pieces r.grain g Secondary))
      ∙ ap (λ (ops : List Op). trailer_erases l Secondary ++ (ops ++ swap_list r.grain l kinds.Revert size n)) (sym (preparation_pieces r.grain g size))

  -- ---- a swap from its start

  module _ (start : Content) (begin : CanBegin g start) where
    abbrev size : ℕ
    size = (images_of start).size

    abbrev sectors : ℕ
    sectors = div_ceil size g.sector

    some_bytes : 0 < size
    unfolding images_of
    some_bytes = let valid : is_valid start.secondary ≡ true = begin.valid in let some = some_size start.secondary valid in omega (arith, some)

    covered : (size ≤ sectors * g.sector)
    covered = (div_ceil_times size g.sector (let least = ok.least_sector in omega (arith, least))).0

    some_sectors : 0 < sectors
    some_sectors = by sectors covered
      where
        by : (m : ℕ) → size ≤ m * g.sector → 0 < m
        by zero none = absurd (omega (arith, none, some_bytes))
        by (suc m) is = omega arith

    small : size < 256 ^ 4
    small =
        let rows : sectors * g.sector ≤ data_sectors g Primary * g.sector = mul-le-mul_right g.sector (image_is_data g Primary sectors begin.few) in
        omega (arith, covered, rows, data_before_trailer g Primary ok, slot_small g Primary ok)

    -- After its opening.
    module _ (kind : SwapType) (swaps : is_swap (number_of kind) ≡ true) (t : Content) (made : Made g Primary (opened g kind size) t) where
      pub way_made : IsUnderWay g sectors (trailer_of g t Primary)
      way_made = record {
        magic = ap is_good (reads_good g t Primary ok made.sized (made.fields field.Magic));
        copy_done = ap is_unset (reads_copy_done g t Primary 255 (replicate 7 255) (made.fields field.CopyDone));
        info = ap is_swap (reads_info g t Primary (number_of kind) (replicate (g.unit - 1) 255) (made.fields field.SwapInfo)) ∙ swaps;
        count = ap (λ (m : ℕ). div_ceil m g.sector) (reads_size g t Primary size (replicate (g.unit - 4) 255) ok made.sized small (made.fields field.SwapSize));
        some = some_sectors;
      }

      pub entry_blank : (d i : ℕ) → d < 3 * g.max_sectors → i < g.unit → byte t Primary (entry_place g d + i) ≡ 255
      entry_blank d i below short =
          made.clear (entry_place g d + i) (omega (arith, entry_inside g d ok below, data_before_trailer g Primary ok)) (omega (arith, short, entry_ends g d ok below))

      swap_begun : Along g E Any (trailer_erases l Secondary ++ from_transfer l sectors 0 false) t
      swap_begun = erased_along sectors begin.few (trailer_of g t Primary) way_made 0 false t (omega arith) (record {
        sized = made.sized;
        primary = refl;
        left = ap (first_left g sectors) (entries_not g sectors t ok made.sized (entries_none g sectors t entry_blank));
        free = λ d from below. blank_entry g t d ok made.sized below (λ i short. entry_blank d i below short);
      })

    -- From where the secondary asks for it.
    swap_along : (kind : SwapType) → is_swap (number_of kind) ≡ true → (flag : Flag) → IsClear flag → (s : Content) → Asks g start flag s → Along g E Any (swap_list r.grain l kind size sectors) s
    swap_along kind swaps flag clear_flag s asks = subst (λ ops. Along g E Any ops s) (swap_whole kind size sectors)
        (along_append g E (λ t. Asks g start flag t × Made g Primary (opened g kind size) t) Any (trailer_erases g Primary ++ opening_writes r.grain g kind size)
        (trailer_erases l Secondary ++ from_transfer l sectors 0 false) s
        (along_keeps g E _ (Asks g start flag) (Made g Primary (opened g kind size)) (trailer_erases g Primary ++ opening_writes r.grain g kind size) s
        (along_kept g E (Asks g start flag) (trailer_erases g Primary ++ opening_writes r.grain g kind size)
        (all_weaker (InTrailer g Primary) (λ op. (u : Content) → Asks g start flag u → E u op × ((w : Content) → apply g op u ≡ Some w → Asks g start flag w))
        (λ op inside u so. (opening_op r g start begin e ok flag clear_flag u so op inside, λ w made. asks_still r g start begin e ok flag clear_flag u so op inside w made))
        (trailer_erases g Primary ++ opening_writes r.grain g kind size) (opening_in g ok r.grain kind size))
        s asks)
        (opening_keeps r.grain g size ok s asks.data_.sized_v kind))
        (λ t both. swap_begun kind swaps t both.1))

    -- A revert, from its preparation.
    abbrev KeptSecond : Content → Type 0
    KeptSecond t = SameAt g (λ o i. o ≡ Secondary → i < data_end g Secondary) start t

    revert_along : IsSized g start → Along g E Any (trailer_erases l Secondary ++ (preparation_writes r.grain l size ++ swap_list r.grain l kinds.Revert size sectors)) start
    revert_along sized = subst (λ ops. Along g E Any ops start) (revert_whole size sectors)
        (along_append g E (λ t. KeptSecond t × FieldsAre g t Secondary (asked false)) Any (trailer_erases g Secondary ++ preparation_writes r.grain g size)
        (swap_list r.grain l kinds.Revert size sectors) start
        (along_keeps g E _ KeptSecond (λ t. FieldsAre g t Secondary (asked false)) (trailer_erases g Secondary ++ preparation_writes r.grain g size) start
        (along_kept g E KeptSecond (trailer_erases g Secondary ++ preparation_writes r.grain g size)
        (all_weaker (InTrailer g Secondary) (λ op. (u : Content) → KeptSecond u → E u op × ((w : Content) → apply g op u ≡ Some w → KeptSecond w))
        (λ op inside u kept. (
          second_op e r g ok u kept.sized_v op inside,
          λ w made. same_both g _ start u w kept (trailer_keeps g Secondary op u w ok kept.sized_v inside made),
        ))
        (trailer_erases g Secondary ++ preparation_writes r.grain g size) (preparation_in g ok r.grain size))
        start (record { sized_u = sized; sized_v = sized; same = λ o i low. refl }))
        (preparation_keeps r.grain g size ok start sized))
        (λ t both. swap_along kinds.Revert refl flags.Set tt t (record {
          data_ = data_kept g Secondary start t both.0;
          magic = reads_good g t Secondary ok both.0.sized_v (both.1 field.Magic);
          image_ok = flag_is g t false both.1;
        })))

  -- ---- any boot

  plan_along : (s : Content) → IsSized g s → Along g E Any (plan (power_on r g s)).list s
  plan_along s sized = plan_case r g s (λ ops. Along g E Any ops s) tt
      (λ resumed n first b count info some most left. goes_on s sized resumed n count info first (is_none (highest_entry g s)) b some most left)
      (λ reverts begin. revert_along s begin sized)
      (λ kind flag swaps clear begin magic image_ok. swap_along s begin kind swaps flag clear s (record {
        data_ = record { sized_u = sized; sized_v = sized; same = λ o i low. refl };
        magic = magic;
        image_ok = image_ok;
      }))

pub each_ends : EachEnds
unfolding at ops_of
each_ends e x n op s v z ok sized next reached torn_v left apart apart_z =
    along_at x.geometry (Ends e x.rules x.geometry) (λ t. ⊤) (plan x).list x.content (plan_along e x.rules x.geometry ok x.content sized) n op s next reached v z torn_v left apart apart_z
