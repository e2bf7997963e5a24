-- The transfers of a swap and its finish, in flashes that boots treat alike.
use Rattle.std.proofs.{Common.{ap, arith, inl, inr, subst, sym, ◌∙◌}, lemmas.Bool.{cases_lt}, lemmas.List.{drop_all}}
use Rattle.std.specs.List.{AllByRecursion, range_with_len}
use Rattle.std.specs.Prelude.{Bool, List, Some, [], drop, false, flat_map, length, map, refl, replicate, slice_get, suc, true, zero, ℕ, ◌*◌, ◌++◌, ◌+◌, ◌-◌, ◌/◌, ◌<◌, ◌∷◌, ◌≡◌, ◌≤◌, ◌⊎◌}
use Rattle.mc_boot.proofs.{Courses.{drop_at_place, greatest_pieces}, Meets.{all_weaker, which_slot}, Transfers.{entry_number, there_is}}
use Rattle.mc_boot.specs.{Plan.{closing, copy_of, entry_of, from_transfer, steps, transfers}, Torn.{IsTorn}, declared.transfer.Transfer.{Transfer}, facts.Lengths.{length-transfers}}
use Rattle.mc_flash.specs.{Flash.{CanTry, Content, IsSized, apply, byte, sectors_of}, Geometry.{Geometry, IsLayout, greatest_sectors, in_pieces}, declared.op.Op.{Op}}
use Rattle.mc_flash.specs.{declared.op.Op.TheVariants.{Copy, Erase, Program}, declared.op.Slot.{Slot}, declared.op.Slot.TheVariants.{Primary, Secondary}}
use Rattle.mc_flash.specs.facts.{Changes.{Changed, erase_changes, sized_is}, Layouts.{data_before_trailer, data_end, sector_inside}, Pieces.{pieces_layout}}
use Rattle.mc_tear.proofs.{Alike.{Does}, AlikeFlashes.{Alike, BlankSecond, Tears, held, near, tears_open}, Lists.{InTarget, closing_pieces, entry_is, entry_pieces, fits, number, steps_in, target_end, target_pieces, transfers_pieces, writes_flag}}
use Rattle.mc_tear.proofs.{Midway.{IsUnderWay, Midway, data_still, entry_made, resumed, writes}, Near.{Near, in_sector, nowhere}, NearOps.{near_copy, near_erase, near_program, trailer_on}}
use Rattle.mc_tear.proofs.{NearTorn.{Leaves, before, entry_torn, flag_torn, target_torn}, Pairs.{BothDo, Pairs, Step, all_do, both_do, pairs_append, pairs_kept}, Read.{torn_out}, Same.{ChangedBoth}}
use Rattle.mc_tear.proofs.Whole.{whole_is, written, written_long}
use Rattle.mc_tear.specs.{Cases.{slot_of, tearing_of, written_from, written_len}, declared.torn.Erasing.{Erasing}}
use Rattle.mc_trailer.specs.{Trailer.{entry_place, flag_of, one_unit, place, trailer_of}, declared.places.Field.{Field}, declared.tables.Rules.{Rules}, declared.trailer.Trailer.{Trailer}}
use Rattle.mc_trailer.specs.facts.{Fields.{SameField, field_kept_beside, trailer_kept}, Places.{entry_ends, entry_inside, entry_range, flag_range, one_unit_fits, one_unit_len}}
use Rattle.mc_boot.proofs.Keeps.{place_beyond_data}
use Rattle.mc_trailer.specs.declared.places.Field.TheVariants as field

-- ---- writes of one unit

module _ (g : Geometry) (ok : IsLayout g) (s t : Content) (is : Near g nowhere s t) where
  pub near_entry : (d : ℕ) → d < 3 * g.max_sectors → Does g (Near g nowhere) (Program Primary (entry_place g d) (one_unit g 1)) s t
  near_entry d below =
      near_program g ok nowhere s t is (entry_place g d) (one_unit g 1) (omega (arith, entry_inside g d ok below, data_before_trailer g Primary ok)) (entry_range g d 1 ok below).inside
      (λ u w sized_u sized_w ch. kept t w is.outer.sized_v ch.of_v ∙ is.primary ∙ sym (kept s u is.outer.sized_u ch.of_u))
    where
      kept : (x y : Content) → IsSized g x → Changed x y Primary (entry_place g d) (one_unit g 1) → trailer_of g y Primary ≡ trailer_of g x Primary
      kept x y sized ch = trailer_kept g x y Primary (entry_place g d) (one_unit g 1) ok sized ch (omega (arith, entry_ends g d ok below, one_unit_len g 1 ok))

  pub near_flag : (f : Field) → (f ≡ field.ImageOk) ⊎ (f ≡ field.CopyDone) → Does g (Near g nowhere) (writes_flag g f) s t
  near_flag f which =
      near_program g ok nowhere s t is (place g Primary f) (one_unit g 1) (place_beyond_data g Primary f ok) (flag_range g Primary f 1 ok).inside
      (λ u w sized_u sized_w ch. by u w sized_u sized_w ch which)
    where
      by : (u w : Content) → IsSized g u → IsSized g w → ChangedBoth s t u w Primary (place g Primary f) (one_unit g 1) → (f ≡ field.ImageOk) ⊎ (f ≡ field.CopyDone)
          → trailer_of g w Primary ≡ trailer_of g u Primary
      by u w sized_u sized_w ch which = go which
        where
          beside : (h : Field) → (f ≡ h → ⊥) → SameField g s u Primary h × SameField g t w Primary h
          beside h other = (
            field_kept_beside g s u Primary f h (one_unit g 1) ok ch.of_u (one_unit_fits g 1 f ok) other,
            field_kept_beside g t w Primary f h (one_unit g 1) ok ch.of_v
                (one_unit_fits g 1 f ok) other,
          )

          first : (x y : Content) → Changed x y Primary (place g Primary f) (one_unit g 1) → byte y Primary (place g Primary f) ≡ 1
          first x y cx = ap (byte y Primary) (omega arith) ∙ cx.inside 0 (omega arith)

          alike : flag_of (byte w Primary (place g Primary f)) ≡ flag_of (byte u Primary (place g Primary f))
          alike = ap flag_of (first t w ch.of_v ∙ sym (first s u ch.of_u))

          go : (f ≡ field.ImageOk) ⊎ (f ≡ field.CopyDone) → trailer_of g w Primary ≡ trailer_of g u Primary
          go (inl here) = trailer_on g ok s t u w is.outer.sized_u is.outer.sized_v sized_u sized_w Primary
              (inl (beside field.Magic (λ same. let no_ : field.ImageOk ≡ field.Magic = sym here ∙ same in absurd cc)))
              (inr (subst (λ x. flag_of (byte w Primary (place g Primary x)) ≡ flag_of (byte u Primary (place g Primary x))) here alike))
              (inl (beside field.CopyDone (λ same. let no_ : field.ImageOk ≡ field.CopyDone = sym here ∙ same in absurd cc)))
              (inl (beside field.SwapInfo (λ same. let no_ : field.ImageOk ≡ field.SwapInfo = sym here ∙ same in absurd cc)))
              (inl (beside field.SwapSize (λ same. let no_ : field.ImageOk ≡ field.SwapSize = sym here ∙ same in absurd cc)))
              is.primary
          go (inr here) = trailer_on g ok s t u w is.outer.sized_u is.outer.sized_v sized_u sized_w Primary
              (inl (beside field.Magic (λ same. let no_ : field.CopyDone ≡ field.Magic = sym here ∙ same in absurd cc)))
              (inl (beside field.ImageOk (λ same. let no_ : field.CopyDone ≡ field.ImageOk = sym here ∙ same in absurd cc)))
              (inr (subst (λ x. flag_of (byte w Primary (place g Primary x)) ≡ flag_of (byte u Primary (place g Primary x))) here alike))
              (inl (beside field.SwapInfo (λ same. let no_ : field.CopyDone ≡ field.SwapInfo = sym here ∙ same in absurd cc)))
              (inl (beside field.SwapSize (λ same. let no_ : field.CopyDone ≡ field.SwapSize = sym here ∙ same in absurd cc)))
              is.primary

-- ---- the finish

module _ (e : Erasing) (r : Rules) (g : Geometry) (ok : IsLayout g) where
  abbrev T : Content → Content → Op → List Op → Type 0
  T = Tears e r g

  abbrev N : Content → Content → Type 0
  N = Near g nowhere

  abbrev l : Geometry
  l = in_pieces r.grain g

  ok_l : IsLayout l
  ok_l = pieces_layout r.grain g ok

  open_ : (s t : Content) (op : Op) (ops more : List Op) → T s t op ops → T s t op (ops ++ more)
  open_ = tears_open e r g

  flag_step : (f : Field) → (f ≡ field.ImageOk) ⊎ (f ≡ field.CopyDone) → Step g T N N (writes_flag g f)
  flag_step f which s t is = (
    λ ops. (near is, λ v torn_v. let l = flag_torn e g ok s t is f which ops r v torn_v in (l.0, l.1, near l.2)),
    both_do g T N N (writes_flag g f) s t is (near_flag g ok s t is f which),
  )

  pub closing_pairs : (b : Bool) (s t : Content) → N s t → Pairs g T N N (closing l b) s t
  closing_pairs b s t is = rw (closing_pieces r.grain g b) (pairs_kept g T N N (closing g b) (all b) s t is)
    where
      all : (b : Bool) → AllByRecursion (Step g T N N) (closing g b)
      all true = (flag_step field.ImageOk (inl refl), (flag_step field.CopyDone (inr refl), tt))
      all false = (flag_step field.CopyDone (inr refl), tt)

  -- ---- the transfers

  module _ (n : ℕ) (at_most : n ≤ greatest_sectors g) (p : Trailer) (way : IsUnderWay g n p) where
    most_l : n ≤ greatest_sectors l
    most_l = let same = greatest_pieces r.grain g in omega (arith, at_most, same)

    abbrev Blank : ℕ → Content → Content → Type 0
    Blank k s t = k ≡ 0 → BlankSecond g s × BlankSecond g t

    -- Before transfer k.
    pub record At (k : ℕ) (s t : Content) : Type 0 where
      pub near_ : N s t
      pub midway : Midway r g n p k s
      pub blank : Blank k s t

    module _ (k : ℕ) (x : Transfer) (there : slice_get (transfers g n) k ≡ Some x) (below : k < 3 * n) where
      abbrev Target : Slot → ℕ → Type 0
      Target = in_sector g x.to x.to_sector

      end : (x.to_sector + 1) * g.sector ≤ data_end g x.to
      end = target_end g ok n at_most k x there

      abbrev Facts : Op → Type 0
      Facts op = (slot_of op ≡ x.to) × (x.to_sector * g.sector ≤ written_from g op) × (written_from g op + written_len g op ≤ x.to_sector * g.sector + g.sector) × CanTry g op

      -- It leaves all after the data.
      after_data : (op : Op) → Facts op → (y z : Content) → IsSized g y → apply g op y ≡ Some z → (o : Slot) (i : ℕ) → data_end g o ≤ i → byte z o i ≡ byte y o i
      after_data op w y z sized made o i late = elim (which_slot o (slot_of op)) [
        | inr other ↦ ch.other o i other
        | inl here ↦
            let E : Slot → Type 0 = λ a. data_end g a ≤ i in
            let late_here : data_end g x.to ≤ i = subst E (here ∙ w.0) late in
            let long : length (written g op y) ≡ written_len g op = written_long g ok y sized op w.3 in
            rw here (ch.beyond i (omega (arith, late_here, end, w.2, long)))
      ]
        where
          ch : Changed y z (slot_of op) (written_from g op) (written g op y)
          ch = whole_is g ok y sized op z w.3 made

      torn_after : (op : Op) → Facts op → (y v : Content) → IsSized g y → IsTorn (tearing_of e) g op y v → (o : Slot) (i : ℕ) → data_end g o ≤ i → byte v o i ≡ byte y o i
      torn_after op w y v sized torn_v o i late = torn_out e g op y v ok sized w.3 torn_v o i (λ here.
          let E : Slot → Type 0 = λ a. data_end g a ≤ i in
          let late_here : data_end g x.to ≤ i = subst E (here ∙ w.0) late in
          inr (omega (arith, late_here, end, w.2)))

      module _ (H : Slot → ℕ → Type 0) (wider : (o : Slot) (i : ℕ) → H o i → Target o i) (s t : Content) (is : Near g H s t) (midway : Midway r g n p k s) (blank : Blank k s t) where
        facts : (op : Op) → InTarget g x op → Facts op
        facts op inside = writes r g ok n at_most p way k s midway x there op inside

        data_tears : (op : Op) → InTarget g x op → (ops : List Op) (v : Content) → IsTorn (tearing_of e) g op t v → (u : Content) × Leaves e g op ops s u × Alike e r g u v
        data_tears op inside ops v torn_v = (
          s,
          before refl,
          held n k p x at_most way (record { primary = midway.primary; left = midway.left; free = midway.free }) there
              (target_torn e g ok n at_most k x there H wider s t is op (facts op inside) v torn_v)
              (inl (resumed r g ok n at_most p way k s midway))
              (λ none gentle. let both = blank none in (both.0, λ i late short. torn_after op (facts op inside) t v is.outer.sized_v torn_v Secondary i late ∙ both.1 i late short)),
        )

        blank_on : (op : Op) → InTarget g x op → (u w : Content) → apply g op s ≡ Some u → apply g op t ≡ Some w → Blank k u w
        blank_on op inside u w at_u at_w none =
            let both = blank none in (
              λ i late short. after_data op (facts op inside) s u is.outer.sized_u at_u Secondary i late ∙ both.0 i late short,
              λ i late short. after_data op (facts op inside) t w is.outer.sized_v at_w Secondary i late ∙ both.1 i late short,
            )

        at_on : (op : Op) → InTarget g x op → Does g N op s t → Does g (At k) op s t
        at_on op inside (inl none) = inl none
        at_on op inside (inr (u, w, at_u, at_w, near_)) = inr (
          u,
          w,
          at_u,
          at_w,
          record {
            near_ = near_;
            midway = data_still r g ok n at_most p way k s midway x there op inside u at_u;
            blank = blank_on op inside u w at_u at_w;
          },
        )

        -- The target is erased.
        erase_step : (fills : (o : Slot) (i : ℕ) → (H o i → ⊥) ⊎ Target o i) → Alike e r g s t → (ops : List Op) → T s t (Erase x.to x.to_sector) ops × BothDo g N (At k) (Erase x.to x.to_sector) s t
        erase_step fills alike ops = (
          (alike, λ v torn_v. data_tears (Erase x.to x.to_sector) (refl, refl) ops v torn_v),
          all_do g T N (At k) (Erase x.to x.to_sector) s t made.0 made.1
              (at_on (Erase x.to x.to_sector) (refl, refl) (near_erase g ok H nowhere x.to x.to_sector below_slot (λ o i low out. fills o i) s t is)),
        )
          where
            below_slot : x.to_sector < sectors_of g x.to
            below_slot = (fits g ok n at_most k x there).inside.to

            made : (whole : Content) × (apply g (Erase x.to x.to_sector) s ≡ Some whole) × Changed s whole x.to (x.to_sector * g.sector) (replicate g.sector 255)
            made = erase_changes g s x.to x.to_sector (let inside = sector_inside g x.to x.to_sector below_slot in omega (arith, inside, sized_is g s x.to is.outer.sized_u))

      -- Chunks are copied.
      copy_step : (op : Op) → InTarget g x op → Step g T N (At k) op
      copy_step op inside s t is = (
        λ ops. (near is.near_, λ v torn_v. data_tears nowhere (λ o i h. absurd h) s t is.near_ is.midway is.blank op inside ops v torn_v),
        both_do g T N (At k) op s t is.near_ (at_on nowhere (λ o i h. absurd h) s t is.near_ is.midway is.blank op inside (does op inside)),
      )
        where
          does : (op : Op) → InTarget g x op → Does g N op s t
          does (Erase o sector) inside = near_erase g ok nowhere nowhere o sector (rw (inside.0, inside.1) (fits g ok n at_most k x there).inside.to) (λ o i low out. inl out) s t is.near_
          does (Program o at bytes) inside = absurd inside
          does (Copy from at to offset len) inside = near_copy g ok s t from to at offset len inside.1 (rw inside.0 (omega (arith, inside.3, end))) is.near_

      entry_step : (s t : Content) → At k s t → Pairs g T N (At (k + 1)) (entry_of l x ∷ []) s t
      entry_step s t is = subst (λ op. Pairs g T N (At (k + 1)) (op ∷ []) s t) (sym entry_so) (
        (near is.near_, λ v torn_v. let l = entry_torn e g ok s t is.near_ (entry_number g n k) under [] r v torn_v in (l.0, l.1, near l.2)),
        both_do g T N (At (k + 1)) entry s t is.near_ (by (near_entry g ok s t is.near_ (entry_number g n k) under)),
      )
        where
          entry : Op
          entry = Program Primary (entry_place g (entry_number g n k)) (one_unit g 1)

          under : entry_number g n k < 3 * g.max_sectors
          under = number g ok n at_most k x there

          there_l : slice_get (transfers l n) k ≡ Some x
          there_l = ap (λ (ts : List Transfer). slice_get ts k) (transfers_pieces r.grain g n) ∙ there

          entry_so : entry_of l x ≡ Program Primary (entry_place g (entry_number g n k)) (one_unit g 1)
          entry_so = entry_is l ok_l n most_l k x there_l ∙ entry_pieces r.grain g n k

          by : Does g N (Program Primary (entry_place g (entry_number g n k)) (one_unit g 1)) s t → Does g (At (k + 1)) (Program Primary (entry_place g (entry_number g n k)) (one_unit g 1)) s t
          by (inl none) = inl none
          by (inr (u, w, at_u, at_w, near_)) =
              inr (u, w, at_u, at_w, record { near_ = near_; midway = entry_made r g ok n at_most p way k s is.midway x there below u at_u; blank = λ none. absurd (omega (arith, none)) })

      pub one_pairs : (H : Slot → ℕ → Type 0) → ((o : Slot) (i : ℕ) → H o i → Target o i) → ((o : Slot) (i : ℕ) → (H o i → ⊥) ⊎ Target o i) → (s t : Content) → Near g H s t → Midway r g n p k s
          → Blank k s t → Alike e r g s t → Pairs g T N (At (k + 1)) (steps l x) s t
      one_pairs H wider fills s t is midway blank alike =
          let first = erase_step H wider s t is midway blank fills alike (map (copy_of l x) (range_with_len 0 (l.sector / l.chunk)) ++ entry_of l x ∷ []) in
          (first.0, on first.1)
        where
          there_l : slice_get (transfers l n) k ≡ Some x
          there_l = ap (λ (ts : List Transfer). slice_get ts k) (transfers_pieces r.grain g n) ∙ there

          inside : AllByRecursion (InTarget g x) (Erase x.to x.to_sector ∷ map (copy_of l x) (range_with_len 0 (l.sector / l.chunk)))
          inside = target_pieces r.grain g x (Erase x.to x.to_sector ∷ map (copy_of l x) (range_with_len 0 (l.sector / l.chunk))) (steps_in l ok_l n most_l k x there_l)

          rest : (u w : Content) → At k u w → Pairs g T N (At (k + 1)) (map (copy_of l x) (range_with_len 0 (l.sector / l.chunk)) ++ entry_of l x ∷ []) u w
          rest u w so = pairs_append g T N open_ (At k) (At (k + 1)) (map (copy_of l x) (range_with_len 0 (l.sector / l.chunk))) (entry_of l x ∷ []) u w
              (pairs_kept g T N (At k) (map (copy_of l x) (range_with_len 0 (l.sector / l.chunk)))
              (all_weaker (InTarget g x) (Step g T N (At k)) copy_step (map (copy_of l x) (range_with_len 0 (l.sector / l.chunk))) inside.1) u w so)
              entry_step

          on : BothDo g N (At k) (Erase x.to x.to_sector) s t
              → BothDo g N (Pairs g T N (At (k + 1)) (map (copy_of l x) (range_with_len 0 (l.sector / l.chunk)) ++ entry_of l x ∷ [])) (Erase x.to x.to_sector) s t
          on (inl none) = inl none
          on (inr (u, w, at_u, at_w, so)) = inr (u, w, at_u, at_w, rest u w so)

    transfers_pairs : (m k : ℕ) (s t : Content) → k + m ≡ 3 * n → At k s t → Pairs g T N N (flat_map (steps l) (drop k (transfers l n))) s t
    transfers_pairs zero k s t whole is = rw (drop_all k (transfers l n) (omega (arith, whole, length-transfers l n))) is.near_
    transfers_pairs (suc m) k s t whole is =
        let there = there_is g n k (omega (arith, whole)) in
        rw (drop_at_place (transfers l n) k there.0 (ap (λ (ts : List Transfer). slice_get ts k) (transfers_pieces r.grain g n) ∙ there.1))
        (pairs_append g T N open_ (At (k + 1)) N (steps l there.0) (flat_map (steps l) (drop (k + 1) (transfers l n))) s t
        (one_pairs k there.0 there.1 (omega (arith, whole)) nowhere (λ o i h. absurd h) (λ o i. inl (λ h. h)) s t is.near_ is.midway is.blank (near is.near_))
        (λ u w so. transfers_pairs m (k + 1) u w (omega (arith, whole)) so))

    pub from_pairs : (k : ℕ) (b : Bool) (s t : Content) → k ≤ 3 * n → At k s t → Pairs g T N N (from_transfer l n k b) s t
    from_pairs k b s t most is =
        pairs_append g T N open_ N N (flat_map (steps l) (drop k (transfers l n))) (closing l b) s t
        (transfers_pairs (3 * n - k) k s t (omega (arith, most)) is) (λ u w so. closing_pairs b u w so)

    -- The same where the sector differs that the next transfer erases.
    pub held_pairs : (k : ℕ) (x : Transfer) (b : Bool) (s t : Content) → slice_get (transfers g n) k ≡ Some x → k < 3 * n → Near g (in_sector g x.to x.to_sector) s t → Midway r g n p k s → Blank k s t
        → Alike e r g s t → Pairs g T N N (from_transfer l n k b) s t
    held_pairs k x b s t there below is midway blank alike =
        pairs_append g T N open_ N N (flat_map (steps l) (drop k (transfers l n))) (closing l b) s t
        (rw (drop_at_place (transfers l n) k x (ap (λ (ts : List Transfer). slice_get ts k) (transfers_pieces r.grain g n) ∙ there))
        (pairs_append g T N open_ (At (k + 1)) N (steps l x) (flat_map (steps l) (drop (k + 1) (transfers l n))) s t
        (one_pairs k x there below (in_sector g x.to x.to_sector) (λ o i h. h) in_or s t is midway blank alike)
        (λ u w so. transfers_pairs (3 * n - (k + 1)) (k + 1) u w (omega (arith, below)) so)))
        (λ u w so. closing_pairs b u w so)
      where
        in_or : (o : Slot) (i : ℕ) → (in_sector g x.to x.to_sector o i → ⊥) ⊎ in_sector g x.to x.to_sector o i
        in_or o i = elim (which_slot o x.to) [
          | inr other ↦ inl (λ h. other h.0)
          | inl here ↦ elim (cases_lt i (x.to_sector * g.sector)) [
            | inl low ↦ inl (λ h. omega (arith, low, h.1))
            | inr from ↦ elim (cases_lt i (x.to_sector * g.sector + g.sector)) [ inl short ↦ inr (here, from, short) | inr beyond ↦ inl (λ h. omega (arith, beyond, h.2)) ]
          ]
        ]
