-- Flashes that differ in one byte of the primary's trailer, at a field or an entry that reads alike.
use Rattle.std.proofs.{Common.{ap, arith, inl, inr, sym, ◌∙◌}, lemmas.Bool.{cases_eq, cases_lt}, lemmas.List.{length-replicate}}
use Rattle.std.specs.Prelude.{true, List, None, Option, Some, length, refl, replicate, suc, zero, ℕ, ◌*◌, ◌+◌, ◌-◌, ◌<◌, ◌≡◌, ◌≢◌, ◌≤◌, ◌⊎◌}
use Rattle.mc_boot.proofs.Meets.{same_bytes, same_content, which_slot}
use Rattle.mc_boot.specs.Plan.{plan, plan_with, power_on}
use Rattle.mc_flash.specs.{Flash.{Content, IsSized, apply, byte, bytes_of, sectors_of, size_of}, Geometry.{Geometry, IsLayout}, declared.op.Op.{Op}}
use Rattle.mc_flash.specs.{declared.op.Op.TheVariants.{Copy, Erase, Program}, declared.op.Slot.{Slot}, declared.op.Slot.TheVariants.{Primary, Secondary}}
use Rattle.mc_flash.specs.facts.{Changes.{Changed, copied, length-copied, program_was_blank, sized_is}, Layouts.{data_before_trailer, data_end, small_unit}}
use Rattle.mc_tear.proofs.{Alike.{Does, KeepsAlike, Pair}, Lists.{IsSound}, Same.{ChangedBoth, SameAt, copy_both, erase_both, program_both, same_after}, Second.{IsData, same_id, same_images}}
use Rattle.mc_tear.specs.Laws.{AsksApart, ImagesApart}
use Rattle.mc_trailer.specs.Tables.{is_resumed}
use Rattle.mc_trailer.specs.{Trailer.{entry_place, flag_of, greatest, highest_entry, is_written, place, room, trailer_of}, declared.places.Field.{Field}, declared.tables.Rules.{Rules}}
use Rattle.mc_trailer.specs.{declared.trailer.Flag.{Flag}, declared.trailer.Magic.{Magic}, declared.trailer.Trailer.{Trailer}, facts.Entries.{same_entry, written_entry}}
use Rattle.mc_trailer.specs.facts.Fields.{SameField, same_copy_done, same_image_ok, same_info, same_magic, same_size, same_trailer}
use Rattle.mc_trailer.specs.facts.Places.{entries_apart, entry_ends, fields_apart, place_inside, most_before_end}
use Rattle.mc_trailer.specs.declared.places.Field.TheVariants as field

-- One byte: where it is, and what it is in each.
pub record One : Type 0 where
  pub at : ℕ
  pub first : ℕ
  pub second : ℕ

abbrev Elsewhere : ℕ → Slot → ℕ → Type 0
Elsewhere at o i = o ≡ Primary → i ≢ at

pub record Beside (g : Geometry) (one : One) (a b : Content) : Type 0 where
  pub same : SameAt g (Elsewhere one.at) a b
  pub first : byte a Primary one.at ≡ one.first
  pub second : byte b Primary one.at ≡ one.second

-- It is written in both, after the data.
pub record IsWrittenAt (g : Geometry) (one : One) : Type 0 where
  pub beyond : data_end g Primary ≤ one.at
  pub first : one.first ≢ 255
  pub second : one.second ≢ 255

abbrev pub OrSame : Geometry → One → Content → Content → Type 0
OrSame g one a b = (a ≡ b) ⊎ Beside g one a b

-- ---- operations

done_alike : (g : Geometry) (one : One) (op : Op) (a : Content) → Does g (OrSame g one) op a a
done_alike g one op a = by (apply g op a) refl
  where
    by : (o : Option Content) → apply g op a ≡ o → Does g (OrSame g one) op a a
    by None is = inl (is, is)
    by (Some t) is = inr (t, t, is, is, inl refl)

module _ (g : Geometry) (ok : IsLayout g) (one : One) (written : IsWrittenAt g one) (a b : Content) (is : Beside g one a b) where
  abbrev P : Slot → ℕ → Type 0
  P = Elsewhere one.at

  -- Where it is not among the bytes that change, it stays.
  stays : (t w : Content) (slot : Slot) (at : ℕ) (new : List ℕ) → ChangedBoth a b t w slot at new → (slot ≡ Primary → (one.at < at) ⊎ (at + length new ≤ one.at)) → OrSame g one t w
  stays t w slot at new ch out = inr (record {
    same = same_after g P a b is.same t w slot at new ch;
    first = kept a t ch.of_u ∙ is.first;
    second = kept b w ch.of_v ∙ is.second;
  })
    where
      kept : (x y : Content) → Changed x y slot at new → byte y Primary one.at ≡ byte x Primary one.at
      kept x y cx = elim (which_slot Primary slot) [
        | inr other ↦ cx.other Primary one.at other
        | inl same ↦ elim (out (sym same)) [
          | inl low ↦ rw same (cx.before one.at low)
          | inr high ↦ rw same (cx.beyond one.at high)
        ]
      ]

  -- Where all its sector changes, nothing is left of it.
  gone : (t w : Content) (at : ℕ) (new : List ℕ) → ChangedBoth a b t w Primary at new → at ≤ one.at → one.at < at + length new → OrSame g one t w
  gone t w at new ch from to = inl (same_content w t (same_bytes w t Primary (sizes Primary) (each Primary)) (same_bytes w t Secondary (sizes Secondary) (each Secondary)))
    where
      after : SameAt g P t w
      after = same_after g P a b is.same t w Primary at new ch

      sizes : (o : Slot) → length (bytes_of t o) ≡ length (bytes_of w o)
      sizes o = sized_is g t o after.sized_u ∙ sym (sized_is g w o after.sized_v)

      here : byte t Primary one.at ≡ byte w Primary one.at
      here =
          let there : at + (one.at - at) ≡ one.at = omega (arith, from) in
          let within : one.at - at < length new = omega (arith, from, to) in
          ap (byte t Primary) (sym there) ∙ ch.of_u.inside (one.at - at) within ∙ sym (ch.of_v.inside (one.at - at) within) ∙ ap (byte w Primary) there

      each : (o : Slot) (i : ℕ) → byte t o i ≡ byte w o i
      each Secondary i = sym (after.same Secondary i (λ e. absurd cc))
      each Primary i = elim (cases_eq i one.at) [
        | inl same ↦ rw same here
        | inr other ↦ sym (after.same Primary i (λ _. other))
      ]

  refused : (s : Content) (at : ℕ) (new : List ℕ) → IsSized g s → at + length new ≤ size_of g Primary → at ≤ one.at → one.at < at + length new → byte s Primary one.at ≢ 255
      → apply g (Program Primary at new) s ≡ None
  refused s at new sized inside from to other = by (apply g (Program Primary at new) s) refl
    where
      by : (o : Option Content) → apply g (Program Primary at new) s ≡ o → apply g (Program Primary at new) s ≡ None
      by None none = none
      by (Some t) some = absurd (other (
          ap (byte s Primary) (omega (arith, from))
          ∙ program_was_blank g s t Primary at new (omega (arith, inside, sized.primary)) some (one.at - at) (omega (arith, from, to))))

  erases : (slot : Slot) (sector : ℕ) → sector < sectors_of g slot → Does g (OrSame g one) (Erase slot sector) a b
  erases slot sector below = elim (erase_both g P a b is.same slot sector below) [
    | inl none ↦ inl none
    | inr some ↦ inr (some.0, some.1, some.2, some.3, by slot some.0 some.1 some.4)
  ]
    where
      wide : length {A = ℕ} (replicate g.sector 255) ≡ g.sector
      wide = length-replicate {A = ℕ} g.sector 255

      by : (o : Slot) (t w : Content) → ChangedBoth a b t w o (sector * g.sector) (replicate g.sector 255) → OrSame g one t w
      by Secondary t w ch = stays t w Secondary (sector * g.sector) (replicate g.sector 255) ch (λ e. absurd cc)
      by Primary t w ch = elim (cases_lt one.at (sector * g.sector)) [
        | inl low ↦ stays t w Primary (sector * g.sector) (replicate g.sector 255) ch (λ _. inl low)
        | inr from ↦ elim (cases_lt one.at (sector * g.sector + g.sector)) [
          | inl to ↦ gone t w (sector * g.sector) (replicate g.sector 255) ch from (omega (arith, to, wide))
          | inr beyond ↦ stays t w Primary (sector * g.sector) (replicate g.sector 255) ch (λ _. inr (omega (arith, beyond, wide)))
        ]
      ]

  programs : (slot : Slot) (at : ℕ) (new : List ℕ) → at + length new ≤ size_of g slot → Does g (OrSame g one) (Program slot at new) a b
  programs Secondary at new inside = elim (program_both g P a b is.same Secondary at new inside (λ i short e. absurd cc)) [
    | inl none ↦ inl none
    | inr some ↦ inr (some.0, some.1, some.2, some.3, stays some.0 some.1 Secondary at new some.4 (λ e. absurd cc))
  ]
  programs Primary at new inside = elim (cases_lt one.at at) [
    | inl low ↦ beside (λ i short. inr (omega (arith, low))) (inl low)
    | inr from ↦ elim (cases_lt one.at (at + length new)) [
      | inl to ↦ inl (
        refused a at new is.same.sized_u inside from to (λ e. written.first (sym is.first ∙ e)),
        refused b at new is.same.sized_v inside from to (λ e. written.second (sym is.second ∙ e)),
      )
      | inr beyond ↦ beside (λ i short. inl (omega (arith, beyond, short))) (inr beyond)
    ]
  ]
    where
      beside : ((i : ℕ) → i < length new → (at + i < one.at) ⊎ (one.at < at + i)) → (one.at < at) ⊎ (at + length new ≤ one.at) → Does g (OrSame g one) (Program Primary at new) a b
      beside apart out = elim (program_both g P a b is.same Primary at new inside
          (λ i short _ same. elim (apart i short) [ inl low ↦ omega (arith, low, same) | inr high ↦ omega (arith, high, same) ])) [
            | inl none ↦ inl none
            | inr some ↦ inr (some.0, some.1, some.2, some.3, stays some.0 some.1 Primary at new some.4 (λ _. out))
          ]

  copies : (from to : Slot) (at offset len : ℕ) → at + len ≤ data_end g from → offset + len ≤ data_end g to → Does g (OrSame g one) (Copy from at to offset len) a b
  copies from to at offset len reads writes = elim (copy_both g P a b is.same from to at offset len (omega (arith, reads, end from)) (omega (arith, writes, end to))
      (λ i short e same. omega (arith, short, same, low from e at reads)) (λ i short e same. omega (arith, short, same, low to e offset writes))) [
        | inl none ↦ inl none
        | inr some ↦ inr (
          some.0,
          some.1,
          some.2,
          some.3,
          stays some.0 some.1 to offset (copied a from at len) some.4
              (λ e. inr (
              let long = length-copied a from at len (omega (arith, reads, end from, sized_is g a from is.same.sized_u)) in
              omega (arith, long, low to e offset writes))),
        )
      ]
    where
      end : (o : Slot) → data_end g o ≤ size_of g o
      end o = let before = data_before_trailer g o ok in omega (arith, before)

      low : (o : Slot) → o ≡ Primary → (n : ℕ) → n + len ≤ data_end g o → n + len ≤ one.at
      low Secondary e n inside = absurd cc
      low Primary e n inside = let beyond = written.beyond in omega (arith, inside, beyond)

  pub does : (op : Op) → IsSound g op → Does g (OrSame g one) op a b
  does (Erase slot sector) sound = erases slot sector sound
  does (Program slot at new) sound = programs slot at new sound.1
  does (Copy from at to offset len) sound = copies from to at offset len sound.0 sound.1

pub beside_keeps : (g : Geometry) → IsLayout g → (one : One) → IsWrittenAt g one → (op : Op) → IsSound g op → KeepsAlike g (OrSame g one) op
beside_keeps g ok one written op sound a b (inl same) = rw same (done_alike g one op b)
beside_keeps g ok one written op sound a b (inr is) = does g ok one written a b is op sound

-- ---- what is read

-- At an entry, or at a flag that reads alike.
pub data Place (g : Geometry) (one : One) : Type 0 where
  entry : (e : ℕ) → e < 3 * g.max_sectors → one.at ≡ entry_place g e → Place g one
  image_ok : one.at ≡ place g Primary field.ImageOk → flag_of one.second ≡ flag_of one.first → Place g one
  copy_done : one.at ≡ place g Primary field.CopyDone → flag_of one.second ≡ flag_of one.first → Place g one

abbrev made : Magic → Flag → Flag → ℕ → ℕ → Trailer
made m i c n s = record { magic = m; image_ok = i; copy_done = c; swap_info = n; swap_size = s }

same_parts : (m n : Magic) (i j c d : Flag) (x y p q : ℕ) → m ≡ n → i ≡ j → c ≡ d → x ≡ y → p ≡ q → made m i c x p ≡ made n j d y q
same_parts m n i j c d x y p q a b e f h = cc

same_fields : (t u : Trailer) → t.magic ≡ u.magic → t.image_ok ≡ u.image_ok → t.copy_done ≡ u.copy_done → t.swap_info ≡ u.swap_info → t.swap_size ≡ u.swap_size → t ≡ u
same_fields t u = same_parts t.magic u.magic t.image_ok u.image_ok t.copy_done u.copy_done t.swap_info u.swap_info t.swap_size u.swap_size

module _ (g : Geometry) (ok : IsLayout g) (one : One) (written : IsWrittenAt g one) (where_ : Place g one) (a b : Content) (is : Beside g one a b) where
  abbrev sized_a : IsSized g a
  sized_a = is.same.sized_u

  abbrev sized_b : IsSized g b
  sized_b = is.same.sized_v

  away : (f : Field) → ((i : ℕ) → i < room f → place g Primary f + i ≢ one.at) → SameField g a b Primary f
  away f apart i within = is.same.same Primary (place g Primary f + i) (λ _. apart i within)

  -- where it is at another field
  besides : (f h : Field) → h ≢ f → one.at ≡ place g Primary f → SameField g a b Primary h
  besides f h other at = away h (λ i within same. elim (fields_apart g Primary h f ok other) [ inl low ↦ omega (arith, low, within, same, at) | inr high ↦ omega (arith, high, same, at, room_some f) ])
    where
      room_some : (f : Field) → 0 < room f
      room_some field.Magic = omega arith
      room_some field.ImageOk = omega arith
      room_some field.CopyDone = omega arith
      room_some field.SwapInfo = omega arith
      room_some field.SwapSize = omega arith

  flag_same : (f : Field) → one.at ≡ place g Primary f → flag_of one.second ≡ flag_of one.first → flag_of (byte b Primary (place g Primary f)) ≡ flag_of (byte a Primary (place g Primary f))
  flag_same f at alike =
      ap (λ n. flag_of (byte b Primary n)) (sym at) ∙ ap flag_of is.second ∙ alike ∙ sym (ap flag_of is.first) ∙ ap (λ n. flag_of (byte a Primary n)) at

  primary_same : (p : Place g one) → trailer_of g b Primary ≡ trailer_of g a Primary
  unfolding trailer_of
  primary_same (entry e below at) =
      same_trailer g a b Primary ok sized_a sized_b (λ f. away f (λ i within same.
      omega (arith, same, at, entry_ends g e ok below, (small_unit g ok).0, place_inside g Primary f ok, most_before_end f)))
  primary_same (image_ok at alike) =
      same_fields (trailer_of g b Primary) (trailer_of g a Primary) (same_magic g a b Primary ok sized_a sized_b (besides field.ImageOk field.Magic (λ e. cc) at))
      (flag_same field.ImageOk at alike)
      (same_copy_done g a b Primary (besides field.ImageOk field.CopyDone (λ e. cc) at))
      (same_info g a b Primary (besides field.ImageOk field.SwapInfo (λ e. cc) at))
      (same_size g a b Primary ok sized_a sized_b (besides field.ImageOk field.SwapSize (λ e. cc) at))
  primary_same (copy_done at alike) =
      same_fields (trailer_of g b Primary) (trailer_of g a Primary) (same_magic g a b Primary ok sized_a sized_b (besides field.CopyDone field.Magic (λ e. cc) at))
      (same_image_ok g a b Primary (besides field.CopyDone field.ImageOk (λ e. cc) at))
      (flag_same field.CopyDone at alike)
      (same_info g a b Primary (besides field.CopyDone field.SwapInfo (λ e. cc) at))
      (same_size g a b Primary ok sized_a sized_b (besides field.CopyDone field.SwapSize (λ e. cc) at))

  secondary_same : trailer_of g b Secondary ≡ trailer_of g a Secondary
  secondary_same = same_trailer g a b Secondary ok sized_a sized_b (λ f i within. is.same.same Secondary (place g Secondary f + i) (λ e. absurd cc))

  -- Entries.
  untouched : (d : ℕ) → d < 3 * g.max_sectors → ((i : ℕ) → i < g.unit → entry_place g d + i ≢ one.at) → is_written g b d ≡ is_written g a d
  untouched d below apart = same_entry g a b d ok sized_a sized_b below (λ i short. is.same.same Primary (entry_place g d + i) (λ _. apart i short))

  at_flag : (f : Field) → one.at ≡ place g Primary f → (d : ℕ) → d < 3 * g.max_sectors → is_written g b d ≡ is_written g a d
  at_flag f at d below = untouched d below (λ i short same. omega (arith, short, same, at, entry_ends g d ok below, place_inside g Primary f ok, most_before_end f))

  written_same : (p : Place g one) (d : ℕ) → d < 3 * g.max_sectors → is_written g b d ≡ is_written g a d
  written_same (image_ok at alike) d below = at_flag field.ImageOk at d below
  written_same (copy_done at alike) d below = at_flag field.CopyDone at d below
  written_same (entry e under at) d below = elim (cases_eq d e) [
    | inl same ↦ rw same (
        (written_entry g b e one.second ok sized_b under written.second (ap (byte b Primary) (sym at) ∙ is.second)).written
        ∙ sym (written_entry g a e one.first ok sized_a under written.first (ap (byte a Primary) (sym at) ∙ is.first)).written)
    | inr other ↦ untouched d below (λ i short same. elim (cases_lt d e) [
      | inl low ↦ omega (arith, short, same, at, entries_apart g d e ok low under)
      | inr high ↦ omega (arith, same, at, (small_unit g ok).0, entries_apart g e d ok (omega (arith, high, other)) below)
    ])
  ]

  highest_same : (n : ℕ) → n ≤ 3 * g.max_sectors → greatest (is_written g b) n ≡ greatest (is_written g a) n
  highest_same zero most = refl
  highest_same (suc n) most = rw (written_same where_ n (omega (arith, most))) (rw (highest_same n (omega (arith, most))) refl)

  data_same : SameAt g (IsData g) a b
  data_same = record { sized_u = sized_a; sized_v = sized_b; same = by }
    where
      by : (o : Slot) (i : ℕ) → i < data_end g o → byte b o i ≡ byte a o i
      by Primary i low = is.same.same Primary i (λ _ same. let beyond = written.beyond in omega (arith, low, same, beyond))
      by Secondary i low = is.same.same Secondary i (λ e. absurd cc)

  module _ (r : Rules) where
    one_plans : AsksApart r g a → plan (power_on r g a) ≡ plan (power_on r g b)
    unfolding plan plan_with
    one_plans (inl resumed) =
        let highest : highest_entry g b ≡ highest_entry g a = highest_same (3 * g.max_sectors) (omega arith) in
        let too : is_resumed r.profile g b ≡ true = rw (primary_same where_, secondary_same) resumed in
        sym (rw (too, resumed, primary_same where_, highest) refl)
    one_plans (inr apart) =
        let highest : highest_entry g b ≡ highest_entry g a = highest_same (3 * g.max_sectors) (omega arith) in
        sym (rw (primary_same where_, secondary_same, highest, same_images g a b data_same apart) refl)

    one_pair : ImagesApart g a → Pair r g a b
    one_pair apart = record {
      plan_is = one_plans (inr apart);
      primary = same_id g a b data_same apart Primary;
      secondary = same_id g a b data_same apart Secondary;
      trailer = sym (primary_same where_);
    }

module _ (g : Geometry) (ok : IsLayout g) (one : One) (written : IsWrittenAt g one) (where_ : Place g one) (a b : Content) (r : Rules) where
  pub beside_plans : AsksApart r g a → OrSame g one a b → plan (power_on r g a) ≡ plan (power_on r g b)
  beside_plans apart (inl same) = ap (λ s. plan (power_on r g s)) same
  beside_plans apart (inr is) = one_plans g ok one written where_ a b is r apart

  pub beside_pair : ImagesApart g a → OrSame g one a b → Pair r g a b
  beside_pair apart (inl same) = rw same (record { plan_is = refl; primary = refl; secondary = refl; trailer = refl })
  beside_pair apart (inr is) = one_pair g ok one written where_ a b is r apart
