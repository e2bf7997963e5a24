-- Each flash that one torn operation may leave, of the secondary's trailer, or of one unit of the primary's, ends as one that stands for it.
use Rattle.std.proofs.{Common.{ap, arith, inl, inr, sym, ◌∙◌}, lemmas.Bool.{cases_eq}}
use Rattle.std.specs.Prelude.{Some, length, refl, ℕ, ◌*◌, ◌+◌, ◌<◌, ◌≡◌, ◌≢◌, ◌≤◌, ◌⊎◌}
use Rattle.mc_boot.proofs.{Keeps.{place_beyond_data}, Meets.{same_bytes, same_content}, TornSwaps.{program_is}, TornTransfers.{unit_changes, unit_none, unit_same}}
use Rattle.mc_boot.specs.{Outcome.{left_by}, Plan.{power_on}, Torn.{IsTorn}}
use Rattle.mc_flash.specs.{Flash.{Content, IsRange, IsSized, apply, byte, bytes_of, size_of}, Geometry.{Geometry, IsLayout}, declared.op.Op.{Op}}
use Rattle.mc_flash.specs.{declared.op.Op.TheVariants.{Program}, declared.op.Slot.{Slot}, declared.op.Slot.TheVariants.{Primary, Secondary}}
use Rattle.mc_flash.specs.facts.{Changes.{Changed, program_was_blank}, Layouts.{data_before_trailer, data_end}}
use Rattle.mc_tear.proofs.{Beside.{Place, copy_done, entry, image_ok}, Boots.{beside_ends, second_ends}, CasesTorn.{cases_are_torn}}
use Rattle.mc_tear.proofs.{Lists.{InTrailer, trailer_can, trailer_place, writes_flag}, Read.{StandsFor, stands_for}, Second.{SecondAlike}}
use Rattle.mc_tear.specs.Cases.{slot_of, tearing_of, torn, written_from}
use Rattle.mc_tear.specs.{Laws.{AsksApart, EndAlike, ImagesApart, IsListed}, declared.torn.Erasing.{Erasing}}
use Rattle.mc_trailer.specs.{Trailer.{entry_place, flag_of, one_unit, place, trailer_of}, declared.places.Field.{Field}, declared.tables.Rules.{Rules}}
use Rattle.mc_trailer.specs.{facts.Places.{entry_inside, entry_range, flag_range, one_unit_len}}
use Rattle.mc_trailer.specs.declared.places.Field.TheVariants as field
use Rattle.mc_trailer.specs.declared.trailer.Flag.TheVariants as flags

-- Each flash that the operation may leave, torn where s stands, ends as one of those that stand for all.
abbrev pub Ends : Erasing → Rules → Geometry → Content → Op → Type 0
Ends e r g s op =
    (v z : Content) → IsTorn (tearing_of e) g op s v → left_by (power_on r g v) ≡ Some z → AsksApart r g v → ImagesApart g z
    → (u : Content) × IsListed e g op s u × EndAlike (power_on r g v) (power_on r g u)

pub torn_sized : (e : Erasing) (g : Geometry) (op : Op) (s v : Content) → IsSized g s → IsTorn (tearing_of e) g op s v → IsSized g v
torn_sized e g op s v sized torn = record { primary = torn.sizes Primary ∙ sized.primary; secondary = torn.sizes Secondary ∙ sized.secondary }

pub alike_self : (r : Rules) (g : Geometry) (s : Content) → EndAlike (power_on r g s) (power_on r g s)
alike_self r g s = record { outcome = refl; rest = refl }

module _ (e : Erasing) (r : Rules) (g : Geometry) (ok : IsLayout g) (s : Content) (sized : IsSized g s) where
  -- ---- in the secondary's trailer

  pub second_op : (op : Op) → InTrailer g Secondary op → Ends e r g s op
  second_op op inside v z torn_v left apart apart_z =
      let can = trailer_can g Secondary op inside in
      let for_it = stands_for e g op s v ok sized can torn_v in
      let at = trailer_place g Secondary op inside in
      (for_it.0, for_it.1.listed, second_ends r g ok v for_it.0 z (alike for_it.0 for_it.1 at.0 at.1) left apart apart_z)
    where
      alike : (t : Content) → StandsFor e g op s v t → slot_of op ≡ Secondary → data_end g Secondary ≤ written_from g op → SecondAlike g v t
      alike t is same from = record {
        same = record {
          sized_u = torn_sized e g op s v sized torn_v;
          sized_v = is.sized;
          same = λ o i low. is.out o i (λ here. let below = low (here ∙ same) in inl (omega (arith, below, from)));
        };
        magic = ap (λ (x : Slot). (trailer_of g t x).magic) (sym same) ∙ is.magic ∙ ap (λ (x : Slot). (trailer_of g v x).magic) same;
        image_ok = ap (λ (x : Slot). (trailer_of g t x).image_ok) (sym same) ∙ is.image_ok ∙ ap (λ (x : Slot). (trailer_of g v x).image_ok) same;
      }

  -- ---- one unit of the primary's trailer

  module _ (at : ℕ) (range : IsRange g Primary at (length (one_unit g 1))) (beyond : data_end g Primary ≤ at) where
    abbrev op : Op
    op = Program Primary at (one_unit g 1)

    fits : at + g.unit ≤ size_of g Primary
    fits = omega (arith, range.inside, one_unit_len g 1 ok)

    module _ (whole : Content) (makes : apply g op s ≡ Some whole) where
      blank : (i : ℕ) → i < g.unit → byte s Primary (at + i) ≡ 255
      blank i short = program_was_blank g s whole Primary at (one_unit g 1) (omega (arith, fits, one_unit_len g 1 ok, sized.primary)) makes i (omega (arith, short, one_unit_len g 1 ok))

      ch : Changed s whole Primary at (one_unit g 1)
      ch = program_is g s whole Primary at (one_unit g 1) sized range.inside makes

      whole_same : (o : Slot) (i : ℕ) → (o ≡ Primary → i ≢ at) → byte whole o i ≡ byte s o i
      whole_same = unit_changes g s whole at ok blank ch

      pub whole_first : byte whole Primary at ≡ 1
      whole_first = ap (byte whole Primary) (omega arith) ∙ ch.inside 0 (omega arith)

      pub torn_same : (v : Content) → IsTorn (tearing_of e) g op s v → (o : Slot) (i : ℕ) → (o ≡ Primary → i ≢ at) → byte v o i ≡ byte s o i
      torn_same v torn_v = unit_same g s v at ok sized fits blank (tearing_of e) torn_v

      -- So are those that stand for all.
      pub listed_same : (u : Content) → IsListed e g op s u → (o : Slot) (i : ℕ) → (o ≡ Primary → i ≢ at) → byte u o i ≡ byte s o i
      listed_same u (inl same) o i away = ap (λ (x : Content). byte x o i) same
      listed_same u (inr (inl is)) o i away =
          let one : Some u ≡ Some whole = sym is ∙ makes in
          let same : u ≡ whole = cc in
          ap (λ (x : Content). byte x o i) same ∙ whole_same o i away
      listed_same u (inr (inr (reading, case, is))) o i away =
          ap (λ (x : Content). byte x o i) is
          ∙ torn_same (torn e g op s reading) (cases_are_torn e g op s whole reading ok sized range makes case) o i away

    -- Where its first byte is 0xff nothing happened.
    pub nothing_yet : (v : Content) → IsTorn (tearing_of e) g op s v → byte v Primary at ≡ 255 → v ≡ s
    nothing_yet v torn_v is = same_content s v (each Primary) (each Secondary)
      where
        each : (o : Slot) → bytes_of v o ≡ bytes_of s o
        each o = same_bytes s v o (torn_v.sizes o) (unit_none g s v at ok sized fits (blank torn_v.whole torn_v.makes) (tearing_of e) torn_v is o)

    -- Else it ends as one that has another byte there which reads alike.
    pub unit_op : ((v : Content) → IsTorn (tearing_of e) g op s v → byte v Primary at ≢ 255
        → (u : Content) × IsListed e g op s u × (byte u Primary at ≢ 255) × Place g (record { at = at; first = byte v Primary at; second = byte u Primary at }))
        → Ends e r g s op
    unit_op other v z torn_v left apart apart_z = elim (cases_eq (byte v Primary at) 255) [
      | inl none ↦ (s, inl refl, rw (nothing_yet v torn_v none) (alike_self r g s))
      | inr some ↦ by some (other v torn_v some)
    ]
      where
        by : byte v Primary at ≢ 255
            → (u : Content) × IsListed e g op s u × (byte u Primary at ≢ 255) × Place g (record { at = at; first = byte v Primary at; second = byte u Primary at })
            → (u : Content) × IsListed e g op s u × EndAlike (power_on r g v) (power_on r g u)
        by some (u, listed, written, where_) = (
          u,
          listed,
          beside_ends r g ok (record { at = at; first = byte v Primary at; second = byte u Primary at })
              (record { beyond = beyond; first = some; second = written }) where_ v u z
              (inr (record {
                same = record {
                  sized_u = torn_sized e g op s v sized torn_v;
                  sized_v = sized_u u listed;
                  same = λ o i away. listed_same torn_v.whole torn_v.makes u listed o i away ∙ sym (torn_same torn_v.whole torn_v.makes v torn_v o i away);
                };
                first = refl;
                second = refl;
              }))
              left apart apart_z,
        )
          where
            sized_u : (u : Content) → IsListed e g op s u → IsSized g u
            sized_u u (inl same) = rw same sized
            sized_u u (inr (inl is)) =
                let one : Some u ≡ Some torn_v.whole = sym is ∙ torn_v.makes in
                let same : u ≡ torn_v.whole = cc in
                let c = ch torn_v.whole torn_v.makes in
                rw same (record { primary = c.sizes Primary ∙ sized.primary; secondary = c.sizes Secondary ∙ sized.secondary })
            sized_u u (inr (inr (reading, case, is))) =
                rw is (torn_sized e g op s (torn e g op s reading) sized (cases_are_torn e g op s torn_v.whole reading ok sized range torn_v.makes case))

  -- A status entry: it ends as where it is whole.
  pub entry_op : (n : ℕ) → n < 3 * g.max_sectors → Ends e r g s (Program Primary (entry_place g n) (one_unit g 1))
  entry_op n below = unit_op (entry_place g n) (entry_range g n 1 ok below) (omega (arith, entry_inside g n ok below, data_before_trailer g Primary ok)) (λ v torn_v some. (
    torn_v.whole,
    inr (inl torn_v.makes),
    λ blank. omega (arith, blank, whole_first (entry_place g n) (entry_range g n 1 ok below) (omega (arith, entry_inside g n ok below, data_before_trailer g Primary ok)) torn_v.whole torn_v.makes),
    entry n below refl,
  ))

  -- A flag.
  pub unset_is : (q : ℕ) → flag_of q ≡ flags.Unset → q ≡ 255
  unset_is q is = grind arith

  pub flag_written : (p q : ℕ) → flag_of q ≡ flag_of p → p ≢ 255 → q ≢ 255
  flag_written p q alike other same = other (unset_is p (sym alike ∙ ap flag_of same))

  pub flag_op : (f : Field) → (f ≡ field.ImageOk) ⊎ (f ≡ field.CopyDone) → Ends e r g s (writes_flag g f)
  unfolding trailer_of
  flag_op f which = unit_op (place g Primary f) (flag_range g Primary f 1 ok) (place_beyond_data g Primary f ok) (λ v torn_v some.
      let for_it = stands_for e g (writes_flag g f) s v ok sized (flag_range g Primary f 1 ok) torn_v in
      let alike = by which for_it.0 v for_it.1 in
      (for_it.0, for_it.1.listed, flag_written (byte v Primary (place g Primary f)) (byte for_it.0 Primary (place g Primary f)) alike some, placed which v for_it.0 alike))
    where
      by : (f ≡ field.ImageOk) ⊎ (f ≡ field.CopyDone) → (t v : Content) → StandsFor e g (writes_flag g f) s v t
          → flag_of (byte t Primary (place g Primary f)) ≡ flag_of (byte v Primary (place g Primary f))
      by (inl is) t v for_it = rw is for_it.image_ok
      by (inr is) t v for_it = rw is (for_it.copy_done refl)

      placed : (f ≡ field.ImageOk) ⊎ (f ≡ field.CopyDone) → (v t : Content) → flag_of (byte t Primary (place g Primary f)) ≡ flag_of (byte v Primary (place g Primary f))
          → Place g (record { at = place g Primary f; first = byte v Primary (place g Primary f); second = byte t Primary (place g Primary f) })
      placed (inl is) v t alike = image_ok (ap (place g Primary) is) alike
      placed (inr is) v t alike = copy_done (ap (place g Primary) is) alike
