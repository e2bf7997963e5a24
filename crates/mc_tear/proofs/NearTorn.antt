-- Flashes that boots treat alike, of which one operation is torn in the second: some loss in the same operation of the first leaves one
-- that is treated alike again.
use Rattle.std.proofs.{Common.{ap, arith, inl, inr, subst, sym, ◌∙◌}, Math.Nat.{mul-le-mul_right}, lemmas.Bool.{cases_eq, cases_lt}, lemmas.Bool.Decides.{nat_tests}}
use Rattle.std.specs.Prelude.{Bool, List, None, Some, false, length, not, refl, slice_get, true, ℕ, ◌&&◌, ◌*◌, ◌+◌, ◌-◌, ◌<◌, ◌==◌, ◌∷◌, ◌≡◌, ◌≢◌, ◌≤◌, ◌⊎◌}
use Rattle.mc_boot.proofs.{Keeps.{place_beyond_data}, TornTransfers.{unit_same, unit_whole}, Transfers.{other_number}}
use Rattle.mc_boot.specs.{Plan.{transfers}, Torn.{IsTorn}, declared.transfer.Transfer.{Transfer}}
use Rattle.mc_flash.specs.{Flash.{CanTry, Content, IsRange, IsSized, apply, byte, size_of}, Geometry.{Geometry, IsLayout, greatest_sectors}, declared.op.Op.{Op}}
use Rattle.mc_flash.specs.{declared.op.Op.TheVariants.{Program}, declared.op.Slot.{Slot}, declared.op.Slot.TheVariants.{Primary}}
use Rattle.mc_flash.specs.facts.{Changes.{program_was_blank}, Layouts.{data_before_trailer, data_end, small_unit}}
use Rattle.mc_tear.proofs.{CasesTorn.{cases_are_torn}, Lists.{target_end, writes_flag}, Mixed.{mixed, mixed_changed, mixed_torn}}
use Rattle.mc_tear.proofs.{Near.{Near, in_sector, nowhere}, NearOps.{near_beyond, near_one, program_alike, trailer_on}, OneOp.{flag_written, listed_same, nothing_yet, torn_sized, whole_first}}
use Rattle.mc_tear.proofs.{Ranges.{all_pass, one_fails}, Read.{StandsFor, stands_for, torn_out, value_else}, Whole.{torn_at, torn_there}}
use Rattle.mc_tear.specs.Cases.{fields_of, is_case, is_entry, is_unfinished, may_change, may_change_at, may_change_some, names, reads_as, slot_of, tearing_of, torn, torn_byte, value_at, written_byte, written_from, written_len}
use Rattle.mc_tear.specs.{Laws.{IsListed}, declared.reading.Reading.{Reading}, declared.torn.Erasing.{Erasing}}
use Rattle.mc_trailer.specs.{Trailer.{entry_place, flag_of, one_unit, place, room, trailer_of}, declared.places.Field.{Field}, declared.tables.Rules.{Rules}}
use Rattle.mc_trailer.specs.facts.{Fields.{SameField, same_trailer}, Places.{entry_ends, entry_inside, entry_range, fields_apart, flag_range, most_before_end, one_unit_len, place_inside, room_is}}
use Rattle.mc_trailer.specs.declared.places.Field.TheVariants as field
use Rattle.mc_tear.specs.declared.reading.Entry.TheVariants as entries
use Rattle.mc_trailer.specs.declared.trailer.Flag.TheVariants as flags

-- What a loss leaves of s: it, before the operation; what the whole operation makes of it, before the next one, which is done; or the
-- flash of one of its cases.
abbrev pub GoesOn : Geometry → List Op → Content → Type 0
GoesOn g ops s = (next : Op) × (more : List Op) × (ops ≡ next ∷ more) × (t : Content) × (apply g next s ≡ Some t)

pub data Leaves (e : Erasing) (g : Geometry) (op : Op) (ops : List Op) (s u : Content) : Type 0 where
  before : u ≡ s → Leaves e g op ops s u
  behind : apply g op s ≡ Some u → GoesOn g ops u → Leaves e g op ops s u
  within : (r : Reading) → is_case e g op s r ≡ true → u ≡ torn e g op s r → Leaves e g op ops s u

-- ---- in the target of a transfer

module _ (e : Erasing) (g : Geometry) (ok : IsLayout g) (n : ℕ) (at_most : n ≤ greatest_sectors g) (k : ℕ) (t : Transfer) (at : slice_get (transfers g n) k ≡ Some t)
    (H : Slot → ℕ → Type 0) (wider : (o : Slot) (i : ℕ) → H o i → in_sector g t.to t.to_sector o i) (u v : Content) (is : Near g H u v) where
  pub target_torn : (op : Op) → (slot_of op ≡ t.to) × (t.to_sector * g.sector ≤ written_from g op) × (written_from g op + written_len g op ≤ t.to_sector * g.sector + g.sector) × CanTry g op
      → (w : Content) → IsTorn (tearing_of e) g op v w → Near g (in_sector g t.to t.to_sector) u w
  target_torn op writes w torn_w = near_beyond g H (in_sector g t.to t.to_sector) u v w ok is (torn_sized e g op v w is.outer.sized_v torn_w)
      (λ o i out. torn_out e g op v w ok is.outer.sized_v writes.3 torn_w o i (λ here. elim (cases_lt i (t.to_sector * g.sector)) [
        | inl low ↦ inl (omega (arith, low, writes.1))
        | inr from ↦ elim (cases_lt i (t.to_sector * g.sector + g.sector)) [
          | inl inside ↦ absurd (out (here ∙ writes.0, from, inside))
          | inr beyond ↦ inr (omega (arith, beyond, writes.2))
        ]
      ]))
      (λ o i there. rw there.0 (let end = target_end g ok n at_most k t at in omega (arith, there.2, end)))
      wider

-- ---- one unit of the primary's trailer

module _ (e : Erasing) (g : Geometry) (ok : IsLayout g) (s t : Content) (is : Near g nowhere s t) (at : ℕ) (range : IsRange g Primary at (length (one_unit g 1)))
    (beyond : data_end g Primary ≤ at) where
  abbrev op : Op
  op = Program Primary at (one_unit g 1)

  fits : at + g.unit ≤ size_of g Primary
  fits = omega (arith, range.inside, one_unit_len g 1 ok)

  at_first : at + 0 ≡ at
  at_first = omega arith

  some_unit : 0 < g.unit
  some_unit = (small_unit g ok).0

  module _ (v : Content) (torn_v : IsTorn (tearing_of e) g op t v) where
    blank_t : (i : ℕ) → i < g.unit → byte t Primary (at + i) ≡ 255
    blank_t i short = program_was_blank g t torn_v.whole Primary at (one_unit g 1) (omega (arith, fits, one_unit_len g 1 ok, is.outer.sized_v.primary)) torn_v.makes i
        (omega (arith, short, one_unit_len g 1 ok))

    blank_s : (i : ℕ) → i < g.unit → byte s Primary (at + i) ≡ 255
    blank_s i short = elim (is.blank (at + i) (omega (arith, beyond))) [ inl same ↦ sym same ∙ blank_t i short | inr both ↦ absurd (both.1 (blank_t i short)) ]

    -- It is done in the first too.
    made_s : (whole : Content) × (apply g op s ≡ Some whole)
    made_s = elim (program_alike g ok nowhere s t is at (one_unit g 1) beyond range.inside) [
      | inl none ↦ absurd (let no_ : None ≡ Some torn_v.whole = sym none.1 ∙ torn_v.makes in cc)
      | inr some ↦ (some.0, some.2)
    ]

    v_same : (o : Slot) (i : ℕ) → (o ≡ Primary → i ≢ at) → byte v o i ≡ byte t o i
    v_same = unit_same g t v at ok is.outer.sized_v fits blank_t (tearing_of e) torn_v

    not_one : byte v Primary at ≢ 1
    not_one = unit_whole g t v at ok is.outer.sized_v fits blank_t (tearing_of e) torn_v

    -- Where its first byte is 0xff, nothing happened.
    none_torn : (r : Rules) → byte v Primary at ≡ 255 → v ≡ t
    none_torn r none = nothing_yet e r g ok t is.outer.sized_v at range beyond v torn_v none

    sized_v : IsSized g v
    sized_v = torn_sized e g op t v is.outer.sized_v torn_v

-- Its first byte may change.
pub unit_may : (e : Erasing) (g : Geometry) → IsLayout g → (at : ℕ) (s : Content) → byte s Primary at ≡ 255 → may_change_at e g (Program Primary at (one_unit g 1)) s at ≡ true
unit_may e g ok at s first =
    let zero_there : at + 0 ≡ at = omega arith in
    let old : byte s Primary (at + 0) ≡ 255 = ap (byte s Primary) zero_there ∙ first in
    let differs : (1 == byte s Primary (at + 0)) ≡ false = other_number 1 (byte s Primary (at + 0)) (λ same. omega (arith, same, old)) in
    let changes : may_change e g (Program Primary at (one_unit g 1)) s 0 ≡ true = grind arith in
    let unit = (small_unit g ok).0 in
    let len = one_unit_len g 1 ok in
    let none : at - at ≡ 0 = omega arith in
    grind (arith, nat_tests)

-- A status entry, which is read as written.
abbrev pub read_written : Reading
read_written = record { magic = None; image_ok = None; copy_done = None; entry = Some entries.Written }

names_entry : (m i c x : Bool) → m ≡ false → i ≡ false → c ≡ false → x ≡ true → names (record { magic = m; image_ok = i; copy_done = c; entry = x }) read_written ≡ true
names_entry m i c x magic image_ok copy_done entry = rw (magic, image_ok, copy_done, entry) refl

all_three : (a b c : Bool) → a ≡ true → b ≡ true → c ≡ true → (a && (b && c)) ≡ true
all_three a b c x y z = rw (x, y, z) refl

module _ (e : Erasing) (g : Geometry) (ok : IsLayout g) (d : ℕ) (below : d < 3 * g.max_sectors) (s : Content) (sized : IsSized g s) (first : byte s Primary (entry_place g d) ≡ 255) where
  abbrev entry_op : Op
  entry_op = Program Primary (entry_place g d) (one_unit g 1)

  can : CanTry g entry_op
  can = entry_range g d 1 ok below

  far : (i : ℕ) → size_of g Primary ≤ i + 48 → may_change_at e g entry_op s i ≡ false
  far i from =
      let end : entry_place g d + length (one_unit g 1) ≤ i = omega (arith, from, entry_ends g d ok below, one_unit_len g 1 ok) in
      grind (arith, nat_tests)

  far_field : (f : Field) (i : ℕ) → place g Primary f ≤ i → may_change_at e g entry_op s i ≡ false
  far_field f i from = far i (omega (arith, from, place_inside g Primary f ok, most_before_end f))

  magic_not : may_change_some e g entry_op s (place g Primary field.Magic) 16 ≡ false
  magic_not = ap not (all_pass (λ i. not (may_change_at e g entry_op s i)) (place g Primary field.Magic) 16 (λ i from under. ap not (far_field field.Magic i from)))

  entry_there : is_entry g entry_op ≡ true
  entry_there =
      let one = entry_inside g 0 ok (omega (arith, below)) in
      let here = entry_inside g d ok below in
      let row : (d + 1) * g.unit ≤ 3 * g.max_sectors * g.unit = mul-le-mul_right g.unit (omega (arith, below)) in
      let unit = (small_unit g ok).0 in
      let low : entry_place g 0 ≤ entry_place g d = omega (arith, one, here) in
      let high : entry_place g d < entry_place g 0 + 3 * g.max_sectors * g.unit = omega (arith, one, here, row, unit) in
      grind (arith, nat_tests)

  changes_at : may_change_at e g entry_op s (entry_place g d) ≡ true
  changes_at = unit_may e g ok (entry_place g d) s first

  value_first : value_at g entry_op read_written (entry_place g d) ≡ Some 127
  value_first = value_else g ok entry_op read_written (entry_place g d) true (omega (arith, entry_ends g d ok below, (small_unit g ok).0)) (rw entry_there (grind (arith, nat_tests)))

  first_byte : byte (torn e g entry_op s read_written) Primary (entry_place g d) ≡ 127
  first_byte = torn_at g ok s sized entry_op can e read_written (entry_place g d) ∙ rw (changes_at, value_first) refl

  unfinished : is_unfinished e g entry_op s read_written ≡ true
  unfinished = ap not (one_fails (λ k. torn_byte e g entry_op s read_written k == written_byte entry_op s k) 0 (written_len g entry_op) 0 (omega arith) (omega (arith, some))
      (other_number (torn_byte e g entry_op s read_written 0) 1 (λ same. omega (arith, same, here))))
    where
      some : 0 < written_len g entry_op
      some = let unit = (small_unit g ok).0 in let len = one_unit_len g 1 ok in omega (arith, unit, len)

      here : torn_byte e g entry_op s read_written 0 ≡ 127
      here = let none : entry_place g d + 0 ≡ entry_place g d = omega arith in sym (torn_there g ok s sized entry_op can e read_written 0 some)
          ∙ ap (byte (torn e g entry_op s read_written) Primary) none ∙ first_byte

  named : names (fields_of e g entry_op s) read_written ≡ true
  named = names_entry (may_change_some e g entry_op s (place g Primary field.Magic) 16) (may_change_at e g entry_op s (place g Primary field.ImageOk))
      (true && may_change_at e g entry_op s (place g Primary field.CopyDone)) (is_entry g entry_op && may_change_at e g entry_op s (entry_place g d))
      magic_not (far_field field.ImageOk (place g Primary field.ImageOk) (omega arith)) (far_field field.CopyDone (place g Primary field.CopyDone) (omega arith))
      (rw (entry_there, changes_at) refl)

  pub entry_case : is_case e g entry_op s read_written ≡ true
  entry_case = all_three (names (fields_of e g entry_op s) read_written) (is_unfinished e g entry_op s read_written)
      (reads_as read_written (trailer_of g (torn e g entry_op s read_written) Primary)) named unfinished refl

module _ (e : Erasing) (g : Geometry) (ok : IsLayout g) (s t : Content) (is : Near g nowhere s t) (d : ℕ) (below : d < 3 * g.max_sectors) (ops : List Op) where
  abbrev from : ℕ
  from = entry_place g d

  range : IsRange g Primary from (length (one_unit g 1))
  range = entry_range g d 1 ok below

  beyond : data_end g Primary ≤ from
  beyond = omega (arith, entry_inside g d ok below, data_before_trailer g Primary ok)

  pub entry_torn : (r : Rules) (v : Content) → IsTorn (tearing_of e) g (Program Primary from (one_unit g 1)) t v
      → (u : Content) × Leaves e g (Program Primary from (one_unit g 1)) ops s u × Near g nowhere u v
  entry_torn r v torn_v = elim (cases_eq (byte v Primary from) 255) [
    | inl none ↦ (s, before refl, subst (Near g nowhere s) (sym (none_torn e g ok s t is from range beyond v torn_v r none)) is)
    | inr some ↦ (u, within read_written case refl, alike some)
  ]
    where
      first : byte s Primary from ≡ 255
      first = ap (byte s Primary) (omega arith) ∙ blank_s e g ok s t is from range beyond v torn_v 0 (small_unit g ok).0

      case : is_case e g (Program Primary from (one_unit g 1)) s read_written ≡ true
      case = entry_case e g ok d below s is.outer.sized_u first

      u : Content
      u = torn e g (Program Primary from (one_unit g 1)) s read_written

      torn_u : IsTorn (tearing_of e) g (Program Primary from (one_unit g 1)) s u
      torn_u = let made = made_s e g ok s t is from range beyond v torn_v in cases_are_torn e g (Program Primary from (one_unit g 1)) s made.0 read_written ok is.outer.sized_u range made.1 case

      u_same : (o : Slot) (i : ℕ) → (o ≡ Primary → i ≢ from) → byte u o i ≡ byte s o i
      u_same = unit_same g s u from ok is.outer.sized_u (fits e g ok s t is from range beyond) (blank_s e g ok s t is from range beyond v torn_v) (tearing_of e) torn_u

      sized_u : IsSized g u
      sized_u = torn_sized e g (Program Primary from (one_unit g 1)) s u is.outer.sized_u torn_u

      sized : IsSized g v
      sized = sized_v e g ok s t is from range beyond v torn_v

      away : (f : Field) (i : ℕ) → place g Primary f + i ≢ from
      away f i same = omega (arith, same, entry_ends g d ok below, (small_unit g ok).0, place_inside g Primary f ok, most_before_end f)

      alike : byte v Primary from ≢ 255 → Near g nowhere u v
      alike some = near_one g s t u v from ok is sized_u sized beyond u_same (v_same e g ok s t is from range beyond v torn_v)
          (inr ((λ e255. omega (arith, e255, first_byte e g ok d below s is.outer.sized_u first)), some))
          (same_trailer g t v Primary ok is.outer.sized_v sized (λ f i inside. v_same e g ok s t is from range beyond v torn_v Primary (place g Primary f + i) (λ _. away f i))
          ∙ is.primary
          ∙ sym (same_trailer g s u Primary ok is.outer.sized_u sized_u (λ f i inside. u_same Primary (place g Primary f + i) (λ _. away f i))))

-- ---- a flag of the primary

set_is : (q : ℕ) → flag_of q ≡ flags.Set → q ≡ 1
set_is q is = grind arith

module _ (e : Erasing) (g : Geometry) (ok : IsLayout g) (s t : Content) (is : Near g nowhere s t) (f : Field) (which : (f ≡ field.ImageOk) ⊎ (f ≡ field.CopyDone)) (ops : List Op) (r : Rules) where
  abbrev place_f : ℕ
  place_f = place g Primary f

  abbrev flag_op : Op
  flag_op = writes_flag g f

  range_f : IsRange g Primary place_f (length (one_unit g 1))
  range_f = flag_range g Primary f 1 ok

  beyond_f : data_end g Primary ≤ place_f
  beyond_f = place_beyond_data g Primary f ok

  module _ (v : Content) (torn_v : IsTorn (tearing_of e) g flag_op t v) (some : byte v Primary place_f ≢ 255) where
    first_f : byte s Primary place_f ≡ 255
    first_f = ap (byte s Primary) (omega arith) ∙ blank_s e g ok s t is place_f range_f beyond_f v torn_v 0 (small_unit g ok).0

    whole : (w : Content) × (apply g flag_op s ≡ Some w)
    whole = made_s e g ok s t is place_f range_f beyond_f v torn_v

    whole_one : byte whole.0 Primary place_f ≡ 1
    whole_one = whole_first e r g ok s is.outer.sized_u place_f range_f beyond_f whole.0 whole.1

    abbrev m : Content
    m = mixed e g ok flag_op range_f s v is.outer.sized_u

    m_first : byte m Primary place_f ≡ byte v Primary place_f
    m_first = mixed_changed e g ok flag_op range_f s v is.outer.sized_u place_f (omega arith) (let unit = (small_unit g ok).0 in let len = one_unit_len g 1 ok in omega (arith, unit, len))
        (unit_may e g ok place_f s first_f)

    torn_m : IsTorn (tearing_of e) g flag_op s m
    torn_m = mixed_torn e g ok flag_op range_f s v is.outer.sized_u whole.0 whole.1 (λ same.
        not_one e g ok s t is place_f range_f beyond_f v torn_v (sym m_first ∙ ap (λ (x : Content). byte x Primary place_f) same ∙ whole_one))

    for_it : (u : Content) × StandsFor e g flag_op s m u
    for_it = stands_for e g flag_op s m ok is.outer.sized_u range_f torn_m

    abbrev u : Content
    u = for_it.0

    flags_m : flag_of (byte u Primary place_f) ≡ flag_of (byte m Primary place_f)
    unfolding trailer_of
    flags_m = by f which for_it.1
      where
        by : (h : Field) → (h ≡ field.ImageOk) ⊎ (h ≡ field.CopyDone) → StandsFor e g (writes_flag g f) s m u
            → flag_of (byte u Primary (place g Primary h)) ≡ flag_of (byte m Primary (place g Primary h))
        by h (inl here) stands = rw here stands.image_ok
        by h (inr here) stands = rw here (stands.copy_done refl)

    alike : flag_of (byte v Primary place_f) ≡ flag_of (byte u Primary place_f)
    alike = ap flag_of (sym m_first) ∙ sym flags_m

    u_same : (o : Slot) (i : ℕ) → (o ≡ Primary → i ≢ place_f) → byte u o i ≡ byte s o i
    u_same = listed_same e r g ok s is.outer.sized_u place_f range_f beyond_f whole.0 whole.1 u for_it.1.listed

    v_alike : (o : Slot) (i : ℕ) → (o ≡ Primary → i ≢ place_f) → byte v o i ≡ byte t o i
    v_alike = v_same e g ok s t is place_f range_f beyond_f v torn_v

    sized : IsSized g v
    sized = sized_v e g ok s t is place_f range_f beyond_f v torn_v

    beside : (h : Field) → h ≢ f → SameField g s u Primary h × SameField g t v Primary h
    beside h other = ((λ i inside. u_same Primary (place g Primary h + i) (λ _. away i inside)), (λ i inside. v_alike Primary (place g Primary h + i) (λ _. away i inside)))
      where
        away : (i : ℕ) → i < room h → place g Primary h + i ≢ place_f
        away i inside same = elim (fields_apart g Primary h f ok other) [ inl low ↦ omega (arith, low, inside, same) | inr high ↦ omega (arith, high, same, some_room f) ]
          where
            some_room : (x : Field) → 0 < room x
            some_room x = elim (room_is x) [ inl sixteen ↦ omega (arith, sixteen.1) | inr eight ↦ omega (arith, eight.1) ]

    trailers : trailer_of g v Primary ≡ trailer_of g u Primary
    trailers = by which
      where
        by : (f ≡ field.ImageOk) ⊎ (f ≡ field.CopyDone) → trailer_of g v Primary ≡ trailer_of g u Primary
        by (inl here) = trailer_on g ok s t u v is.outer.sized_u is.outer.sized_v for_it.1.sized sized Primary
            (inl (beside field.Magic (λ same. let no_ : field.Magic ≡ field.ImageOk = same ∙ here in absurd cc)))
            (inr (subst (λ x. flag_of (byte v Primary (place g Primary x)) ≡ flag_of (byte u Primary (place g Primary x))) here alike))
            (inl (beside field.CopyDone (λ same. let no_ : field.CopyDone ≡ field.ImageOk = same ∙ here in absurd cc)))
            (inl (beside field.SwapInfo (λ same. let no_ : field.SwapInfo ≡ field.ImageOk = same ∙ here in absurd cc)))
            (inl (beside field.SwapSize (λ same. let no_ : field.SwapSize ≡ field.ImageOk = same ∙ here in absurd cc)))
            is.primary
        by (inr here) = trailer_on g ok s t u v is.outer.sized_u is.outer.sized_v for_it.1.sized sized Primary
            (inl (beside field.Magic (λ same. let no_ : field.Magic ≡ field.CopyDone = same ∙ here in absurd cc)))
            (inl (beside field.ImageOk (λ same. let no_ : field.ImageOk ≡ field.CopyDone = same ∙ here in absurd cc)))
            (inr (subst (λ x. flag_of (byte v Primary (place g Primary x)) ≡ flag_of (byte u Primary (place g Primary x))) here alike))
            (inl (beside field.SwapInfo (λ same. let no_ : field.SwapInfo ≡ field.CopyDone = same ∙ here in absurd cc)))
            (inl (beside field.SwapSize (λ same. let no_ : field.SwapSize ≡ field.CopyDone = same ∙ here in absurd cc)))
            is.primary

    near_u : Near g nowhere u v
    near_u = near_one g s t u v place_f ok is for_it.1.sized sized beyond_f u_same v_alike
        (inr (flag_written e r g ok s is.outer.sized_u (byte v Primary place_f) (byte u Primary place_f) (sym alike) some, some)) trailers

    leaves : Leaves e g flag_op ops s u
    leaves = by for_it.1.listed
      where
        by : IsListed e g flag_op s u → Leaves e g flag_op ops s u
        by (inl same) = before same
        by (inr (inl made)) =
            let one : Some u ≡ Some whole.0 = sym made ∙ whole.1 in
            let same : u ≡ whole.0 = cc in
            absurd (not_one e g ok s t is place_f range_f beyond_f v torn_v (set_is (byte v Primary place_f)
            (alike ∙ ap (λ (x : Content). flag_of (byte x Primary place_f)) same ∙ ap flag_of whole_one)))
        by (inr (inr (reading, case, made))) = within reading case made

  pub flag_torn : (v : Content) → IsTorn (tearing_of e) g flag_op t v → (x : Content) × Leaves e g flag_op ops s x × Near g nowhere x v
  flag_torn v torn_v = elim (cases_eq (byte v Primary place_f) 255) [
    | inl none ↦ (s, before refl, subst (Near g nowhere s) (sym (none_torn e g ok s t is place_f range_f beyond_f v torn_v r none)) is)
    | inr some ↦ (u v torn_v some, leaves v torn_v some, near_u v torn_v some)
  ]
